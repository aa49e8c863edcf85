-- `dimacs_take::skip` meets its contract, by what the library's search of what is left finds. Assumes nothing.
use Rattle.std.proofs.Common.{◌≡◌, ◌≢◌, ◌∙◌, length, rules, arith, ⊎_elim}
use borrow.Author.Tests.{tests}
use Rattle.std.proofs.lemmas.Iterator.{IsFirst-from_position, YieldsList-from_slice}
use Rattle.std.proofs.lemmas.Slice.{between_to_end}
use Rattle.dimacs_take.specs.Takes.{skip_past, none_ahead, found_ahead}
use Rattle.dimacs_take.proofs.skip.Goals as goal

pub returns-in_err-get : goal.returns-in_err-get
returns-in_err-get c = rw c.from_residual.ensures (skip_past _ _ (⊎_elim (λ h. omega arith) (λ h. absurd (omega arith)) c.in_err-get.ensures.lookup.0))

pub returns-in_err-n : goal.returns-in_err-n
returns-in_err-n c =
    rw c.from_residual-in_err-n.ensures
    (none_ahead _ _ (c.in_ok-get.ensures.lookup.0.2 ∙ between_to_end c.args.text.now c.args.at (length c.args.text.now) (omega arith))
    (IsFirst-from_position _ _ _ (λ x. x ≡ 10) (λ x. x ≢ 10) c.in_err-n.ensures.ran (YieldsList-from_slice c.in_ok-get.field-0.now cc) (λ x q k. search (rules, tests)) (λ x q k. search (rules, tests))))

pub returns : goal.returns
returns c =
    found_ahead _ _ (c.in_ok-get.ensures.lookup.0.2 ∙ between_to_end c.args.text.now c.args.at (length c.args.text.now) (omega arith))
    (IsFirst-from_position _ _ _ (λ x. x ≡ 10) (λ x. x ≢ 10) c.in_ok-n.ensures.ran (YieldsList-from_slice c.in_ok-get.field-0.now cc) (λ x q k. search (rules, tests)) (λ x q k. search (rules, tests)))
