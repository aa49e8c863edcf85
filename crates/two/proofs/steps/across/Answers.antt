-- `two::steps::across` meets its contract: nothing is lost by the shift. Assumes nothing.
use Rattle.std.proofs.Common.{ℕ, ◌+◌, ◌*◌, ◌%◌, ◌^◌, ◌<◌, ◌∙◌, sym, ap, mod-eq_of_lt, arith, pow-add}
use lib.Pow.{pow-lt}
use Rattle.two_parts.specs.Parts.{slots-few}
use Rattle.two.specs.Turns.{across-same, across-other}
use Rattle.two.proofs.steps.across.Goals as goal

pub returns-then-apart-eq0 : goal.returns-then-apart-eq0
returns-then-apart-eq0 c = let a = c.args in sym (across-same a.order.0 a.apart.0 a.p.0 c.if-apart-eq0.true)

pub slots_in-requires : goal.slots_in-requires
slots_in-requires c = c.requires.order

pub overflow_shl-result : goal.overflow_shl-result
overflow_shl-result c = omega (arith, c.requires.from, slots-few c.args.order.0 c.requires.order)

pub returns : goal.returns
returns c =
    let m = c.args.order.0 in
    let p = c.args.p.0 in
    let few : m + p < 64 = omega (arith, c.requires.order, c.requires.from, slots-few m c.requires.order) in
    ap (λ (x : ℕ). x * 2 ^ p % 2 ^ 64) c.slots_in.ensures ∙ ap (λ (x : ℕ). x % 2 ^ 64) (sym (pow-add 2 m p)) ∙ mod-eq_of_lt (pow-lt few)
    ∙ sym (across-other m c.args.apart.0 p c.if-apart-eq0.false)
