-- `two_parts::sizes::longest_in` meets its contract. Assumes nothing.
use Rattle.std.proofs.Common.{ℕ, ◌+◌, ◌*◌, ◌≤◌, ap, arith}
use Rattle.two_parts.specs.Parts.{longest-few}
use Rattle.two_parts.proofs.sizes.longest_in.Goals as goal

pub overflow_mul-result : goal.overflow_mul-result
overflow_mul-result c = omega (
  arith,
  (let part : c.args.order.0 * c.slots_in-slots.result + c.slots_in-slots.result + 2 * c.args.order.0 + 4 ≤ 206 = let m = c.args.order.0 in
      rw c.slots_in-slots.ensures (longest-few m c.requires) in part),
)

pub overflow_add-result : goal.overflow_add-result
overflow_add-result c = omega (
  arith,
  (let part : c.args.order.0 * c.slots_in-slots.result + c.slots_in-slots.result + 2 * c.args.order.0 + 4 ≤ 206 = let m = c.args.order.0 in
      rw c.slots_in-slots.ensures (longest-few m c.requires) in part),
)

pub overflow_mul-result-2 : goal.overflow_mul-result-2
overflow_mul-result-2 c = omega (
  arith,
  (let part : c.args.order.0 * c.slots_in-slots.result + c.slots_in-slots.result + 2 * c.args.order.0 + 4 ≤ 206 = let m = c.args.order.0 in
      rw c.slots_in-slots.ensures (longest-few m c.requires) in part),
)

pub overflow_add-result-2 : goal.overflow_add-result-2
overflow_add-result-2 c = omega (
  arith,
  (let part : c.args.order.0 * c.slots_in-slots.result + c.slots_in-slots.result + 2 * c.args.order.0 + 4 ≤ 206 = let m = c.args.order.0 in
      rw c.slots_in-slots.ensures (longest-few m c.requires) in part),
)

pub overflow_add-result-3 : goal.overflow_add-result-3
overflow_add-result-3 c = omega (
  arith,
  (let part : c.args.order.0 * c.slots_in-slots.result + c.slots_in-slots.result + 2 * c.args.order.0 + 4 ≤ 206 = let m = c.args.order.0 in
      rw c.slots_in-slots.ensures (longest-few m c.requires) in part),
)

pub returns : goal.returns
returns c =
    let m = c.args.order.0 in
    ap (λ (k : ℕ). m * k + k + 2 * m + 4) c.slots_in-slots.ensures
