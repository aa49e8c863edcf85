-- Assumes nothing.
use Rattle.std.proofs.Common.{ℕ, ◌<◌, ◌≡◌, ◌∙◌, sym, ap, subst, false}
use Rattle.std.proofs.lemmas.Result.{err_from_is_err_and}
use mathlib.Core.Option.{Option, none}
use Rattle.answers.specs.Told.{tell, told}
use Rattle.answers.specs.declared.Refusal.{Refusal}
use Rattle.requests.specs.Ways.{between}
use Rattle.two_parts.specs.Two.{known, relays, two}
use Rattle.two_parts.specs.Moves.{seen_below}
use Rattle.two_parts.specs.Parts.{known_bounds}
use Rattle.two_parts.specs.Needs.{Fine}
use Rattle.two.specs.Needs.{fine}
use Rattle.two.specs.Says.{pair_against}
use Rattle.paths.specs.Ways as ways
use Rattle.two_distance.specs.Tables.{entry}
use Rattle.two_distance.specs.Moved.{distance-near, distance-far, distance-unknown}
use Rattle.two_distance.proofs.Moved.{distance-entry}
use Rattle.two_distance.proofs.between.Goals as goal

-- a pair that nothing stands against
clear : (m s t : ℕ) → none ≡ pair_against m s t false → Fine m s t
clear m s t e = fine (between (known m) (two m) s t e)

pub returns-then-order-gt-MOST : goal.returns-then-order-gt-MOST
returns-then-order-gt-MOST c =
    let a = c.args in
    ap (λ (o : Option Refusal). tell o 0 (ways.distance (two a.order.0) a.source a.target)) (distance-unknown a.order.0 a.source a.target c.if-order-gt-MOST.true)

pub returns-then-order-gt-MOST-2 : goal.returns-then-order-gt-MOST-2
returns-then-order-gt-MOST-2 c =
    let a = c.args in
    ap (λ (o : Option Refusal). tell o 0 (ways.distance (two a.order.0) a.source a.target))
    (distance-far a.order.0 a.source a.target c.if-order-gt-MOST-2.true c.if-order-gt-MOST.false)

pub seen_from-requires : goal.seen_from-requires
seen_from-requires c = clear _ _ _ c.in_ok-checked.ensures

pub from_zero-requires : goal.from_zero-requires
from_zero-requires c =
    let a = c.args in
    let f = clear a.order.0 a.source a.target c.in_ok-checked.ensures in
    record {
      low = (known_bounds a.order.0 f.order).0;
      high = c.if-order-gt-MOST-2.false;
      below = subst (λ (r : ℕ). r < relays a.order.0) (sym c.seen_from.ensures) (seen_below a.order.0 a.source f.source a.target);
    }

pub returns : goal.returns
returns c =
    let a = c.args in
    let m = a.order.0 in
    let f = clear m a.source a.target c.in_ok-checked.ensures in
    let near = c.if-order-gt-MOST-2.false in
    ap (told 0 0)
    (c.from_zero.ensures ∙ ap (entry m) c.seen_from.ensures
    ∙ sym (distance-entry m a.source a.target (known_bounds m f.order).0 near f.source f.target))
    ∙ ap (λ (o : Option Refusal). tell o 0 (ways.distance (two m) a.source a.target)) (c.in_ok-checked.ensures ∙ sym (distance-near m a.source a.target near))

pub returns-in_err-checked : goal.returns-in_err-checked
returns-in_err-checked c =
    let a = c.args in
    let m = a.order.0 in
    let p = err_from_is_err_and c.from_residual.result c.from_residual.ensures.1 in
    rw (p.1, p.2)
    (ap (λ (o : Option Refusal). tell o 0 (ways.distance (two m) a.source a.target)) (c.in_err-checked.ensures ∙ sym (distance-near m a.source a.target c.if-order-gt-MOST-2.false)))
