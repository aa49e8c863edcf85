-- `meta::steps::turn` meets its contract. Assumes nothing.
use Rattle.std.proofs.Common.{ℕ, ◌+◌, ◌*◌, ◌<◌, ◌≡◌, sym, ap, ap₂, ◌∙◌, subst, arith, bit_xor}
use Rattle.bits.specs.Bit.{Lowest}
use Rattle.meta_parts.specs.Meta.{class_bits, part_bits, class_of, part, span, metacube}
use Rattle.meta_parts.specs.Sizes.{part-bits, span-few, Sized}
use Rattle.meta_parts.specs.Parts.{class_below, bit_within}
use Rattle.meta_parts.specs.Needs.{fine-sized}
use Rattle.meta.specs.Next.{heading, turn}
use Rattle.meta.proofs.Turns.{class_differs, turn_class_is, turn-part_is}
use Rattle.meta.proofs.steps.turn.Goals as goal

-- a bit of the own part is one of the 37
within : (n u p h i : ℕ) → p ≡ part_bits n → h ≡ class_of (class_bits n) (part_bits n) u → Sized (class_bits n) (part_bits n) → u < (metacube n).relays → i < part_bits n → p * h + i < 37
within n u p h i ep eh z f l =
    let k = class_bits n in
    let m = part_bits n in
    omega (arith, ap₂ (λ (x y : ℕ). x * y) ep eh, bit_within k m (class_of k m u) i (class_below k m u f) l, span-few z)

pub class_of-c-requires : goal.class_of-c-requires
class_of-c-requires c = c.requires.fine.size

pub part_of-here-requires : goal.part_of-here-requires
part_of-here-requires c =
    record {
      narrow = omega (arith, c.part_bits-m.ensures, part-bits c.args.size.0);
      within = omega (arith, within c.args.size.0 c.args.u c.part_bits-m.result c.class_of-c.result 0 c.part_bits-m.ensures c.class_of-c.ensures (fine-sized c.requires.fine) c.requires.fine.source (omega (arith, (fine-sized c.requires.fine).some)));
    }

pub heading-h-requires : goal.heading-h-requires
heading-h-requires c = c.requires.fine

pub span_in-requires : goal.span_in-requires
span_in-requires c = (fine-sized c.requires.fine).few

pub overflow_cast-result : goal.overflow_cast-result
overflow_cast-result c = omega (arith, c.span_in.ensures, span-few (fine-sized c.requires.fine))

pub lowest-requires : goal.lowest-requires
lowest-requires c =
    let k = class_bits c.args.size.0 in
    let m = part_bits c.args.size.0 in
    λ e. (class_differs k m (fine-sized c.requires.fine) c.args.u c.args.t c.requires.fine.source c.requires.fine.target c.requires.other
    (sym ((let own : let a = c.args in c.part_of-here.result ≡ part (part_bits a.size.0) (class_of (class_bits a.size.0) (part_bits a.size.0) a.u) (bit_xor a.u a.t) = let a = c.args in
    c.part_of-here.ensures ∙ ap₂ (λ (x y : ℕ). part x y (bit_xor a.u a.t)) c.part_bits-m.ensures c.class_of-c.ensures in own)) ∙ c.if-here-eq0.true)).0 (sym ((let aimed-2 : let a = c.args in let k = class_bits a.size.0 in let m = part_bits a.size.0 in
    bit_xor c.class_of-c.result c.heading-h.result ≡ bit_xor (class_of k m a.u) (heading k m (class_of k m a.u) (class_of k m a.t) (bit_xor a.u a.t)) = ap₂ bit_xor c.class_of-c.ensures c.heading-h.ensures in aimed-2)) ∙ e)

pub overflow_add-result : goal.overflow_add-result
overflow_add-result c =
    omega (
      arith,
      c.span_in.ensures,
      ((let top-3 : let a = c.args in let k = class_bits a.size.0 in let m = part_bits a.size.0 in
          (c.lowest.result < k) × (span k m + c.lowest.result ≡ turn k m (class_of k m a.u) (class_of k m a.t) (bit_xor a.u a.t)) = let k = class_bits c.args.size.0 in
          let m = part_bits c.args.size.0 in
          turn_class_is k m (fine-sized c.requires.fine) c.args.u c.args.t c.requires.fine.source c.requires.fine.target c.requires.other c.lowest.result
          (sym ((let own : let a = c.args in c.part_of-here.result ≡ part (part_bits a.size.0) (class_of (class_bits a.size.0) (part_bits a.size.0) a.u) (bit_xor a.u a.t) = let a = c.args in
          c.part_of-here.ensures ∙ ap₂ (λ (x y : ℕ). part x y (bit_xor a.u a.t)) c.part_bits-m.ensures c.class_of-c.ensures in own)) ∙ c.if-here-eq0.true) (subst (λ (x : ℕ). Lowest 64 x c.lowest.result) ((let aimed-2 : let a = c.args in let k = class_bits a.size.0 in let m = part_bits a.size.0 in
          bit_xor c.class_of-c.result c.heading-h.result ≡ bit_xor (class_of k m a.u) (heading k m (class_of k m a.u) (class_of k m a.t) (bit_xor a.u a.t)) = ap₂ bit_xor c.class_of-c.ensures c.heading-h.ensures in aimed-2)) c.lowest.ensures) in top-3)).0,
      (fine-sized c.requires.fine).narrow,
    )

pub returns-then-here-eq0 : goal.returns-then-here-eq0
returns-then-here-eq0 c = ap (λ (x : ℕ). x + c.lowest.result) c.span_in.ensures ∙ ((let top-3 : let a = c.args in let k = class_bits a.size.0 in let m = part_bits a.size.0 in
    (c.lowest.result < k) × (span k m + c.lowest.result ≡ turn k m (class_of k m a.u) (class_of k m a.t) (bit_xor a.u a.t)) = let k = class_bits c.args.size.0 in
    let m = part_bits c.args.size.0 in
    turn_class_is k m (fine-sized c.requires.fine) c.args.u c.args.t c.requires.fine.source c.requires.fine.target c.requires.other c.lowest.result
    (sym ((let own : let a = c.args in c.part_of-here.result ≡ part (part_bits a.size.0) (class_of (class_bits a.size.0) (part_bits a.size.0) a.u) (bit_xor a.u a.t) = let a = c.args in
    c.part_of-here.ensures ∙ ap₂ (λ (x y : ℕ). part x y (bit_xor a.u a.t)) c.part_bits-m.ensures c.class_of-c.ensures in own)) ∙ c.if-here-eq0.true) (subst (λ (x : ℕ). Lowest 64 x c.lowest.result) ((let aimed-2 : let a = c.args in let k = class_bits a.size.0 in let m = part_bits a.size.0 in
    bit_xor c.class_of-c.result c.heading-h.result ≡ bit_xor (class_of k m a.u) (heading k m (class_of k m a.u) (class_of k m a.t) (bit_xor a.u a.t)) = ap₂ bit_xor c.class_of-c.ensures c.heading-h.ensures in aimed-2)) c.lowest.ensures) in top-3)).1

pub overflow_mul-result : goal.overflow_mul-result
overflow_mul-result c =
    omega (arith, within c.args.size.0 c.args.u c.part_bits-m.result c.class_of-c.result 0 c.part_bits-m.ensures c.class_of-c.ensures (fine-sized c.requires.fine) c.requires.fine.source (omega (arith, (fine-sized c.requires.fine).some)))

pub overflow_cast-result-2 : goal.overflow_cast-result-2
overflow_cast-result-2 c =
    omega (arith, within c.args.size.0 c.args.u c.part_bits-m.result c.class_of-c.result 0 c.part_bits-m.ensures c.class_of-c.ensures (fine-sized c.requires.fine) c.requires.fine.source (omega (arith, (fine-sized c.requires.fine).some)))

pub lowest-requires-2 : goal.lowest-requires-2
lowest-requires-2 c = c.if-here-eq0.false

pub overflow_add-result-2 : goal.overflow_add-result-2
overflow_add-result-2 c = omega (
  arith,
  within c.args.size.0 c.args.u c.part_bits-m.result c.class_of-c.result c.lowest-2.result c.part_bits-m.ensures c.class_of-c.ensures (fine-sized c.requires.fine) c.requires.fine.source ((let low-3 : let a = c.args in let k = class_bits a.size.0 in let m = part_bits a.size.0 in
      (c.lowest-2.result < m) × (m * class_of k m a.u + c.lowest-2.result ≡ turn k m (class_of k m a.u) (class_of k m a.t) (bit_xor a.u a.t)) = let k = class_bits c.args.size.0 in
      let m = part_bits c.args.size.0 in
      turn-part_is k m (fine-sized c.requires.fine) c.args.u c.args.t c.requires.fine.source c.requires.fine.target c.requires.other c.lowest-2.result
      (λ z. c.if-here-eq0.false ((let own : let a = c.args in c.part_of-here.result ≡ part (part_bits a.size.0) (class_of (class_bits a.size.0) (part_bits a.size.0) a.u) (bit_xor a.u a.t) = let a = c.args in
      c.part_of-here.ensures ∙ ap₂ (λ (x y : ℕ). part x y (bit_xor a.u a.t)) c.part_bits-m.ensures c.class_of-c.ensures in own) ∙ z)) (subst (λ (x : ℕ). Lowest 64 x c.lowest-2.result) ((let own-2 : let a = c.args in c.part_of-here.result ≡ part (part_bits a.size.0) (class_of (class_bits a.size.0) (part_bits a.size.0) a.u) (bit_xor a.u a.t) = let a = c.args in
      c.part_of-here.ensures ∙ ap₂ (λ (x y : ℕ). part x y (bit_xor a.u a.t)) c.part_bits-m.ensures c.class_of-c.ensures in own-2)) c.lowest-2.ensures) in low-3)).0,
)

pub returns : goal.returns
returns c = ap (λ (x : ℕ). x + c.lowest-2.result) ((let start : let a = c.args in c.part_bits-m.result * c.class_of-c.result ≡ part_bits a.size.0 * class_of (class_bits a.size.0) (part_bits a.size.0) a.u = ap₂ (λ (x y : ℕ). x * y) c.part_bits-m.ensures c.class_of-c.ensures in start)) ∙ ((let low-4 : let a = c.args in let k = class_bits a.size.0 in let m = part_bits a.size.0 in
    (c.lowest-2.result < m) × (m * class_of k m a.u + c.lowest-2.result ≡ turn k m (class_of k m a.u) (class_of k m a.t) (bit_xor a.u a.t)) = let k = class_bits c.args.size.0 in
    let m = part_bits c.args.size.0 in
    turn-part_is k m (fine-sized c.requires.fine) c.args.u c.args.t c.requires.fine.source c.requires.fine.target c.requires.other c.lowest-2.result
    (λ z. c.if-here-eq0.false ((let own-2 : let a = c.args in c.part_of-here.result ≡ part (part_bits a.size.0) (class_of (class_bits a.size.0) (part_bits a.size.0) a.u) (bit_xor a.u a.t) = let a = c.args in
    c.part_of-here.ensures ∙ ap₂ (λ (x y : ℕ). part x y (bit_xor a.u a.t)) c.part_bits-m.ensures c.class_of-c.ensures in own-2) ∙ z)) (subst (λ (x : ℕ). Lowest 64 x c.lowest-2.result) ((let own-3 : let a = c.args in c.part_of-here.result ≡ part (part_bits a.size.0) (class_of (class_bits a.size.0) (part_bits a.size.0) a.u) (bit_xor a.u a.t) = let a = c.args in
    c.part_of-here.ensures ∙ ap₂ (λ (x y : ℕ). part x y (bit_xor a.u a.t)) c.part_bits-m.ensures c.class_of-c.ensures in own-3)) c.lowest-2.ensures) in low-4)).1
