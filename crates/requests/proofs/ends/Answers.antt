use Rattle.std.proofs.Common.{ℕ, List, eq-eqb, ne_eqb, [], ◌∷◌, eqb}
use Rattle.std.proofs.lemmas.Result.{err_from_is_err_and}
use Rattle.scan.specs.Scan.{pick, at, nowhere}
use Rattle.answers.specs.declared.Refusal.TheVariants.{TargetIsSource}
use Rattle.answers.specs.Order.{Fault, fault_at, pair_faults, handed, asked_next}
use Rattle.requests.proofs.ends.Goals as goal

abbrev same : (source target : ℕ) → List Fault
same s t = fault_at (pick (eqb t s) (at 0) nowhere) TargetIsSource ∷ []

pub returns-in_err-pair : goal.returns-in_err-pair
returns-in_err-pair c =
    let a = c.args in
    let p = err_from_is_err_and c.from_residual.result c.from_residual.ensures.1 in rw (p.1, p.2) (handed (pair_faults a.relays a.source a.target) (same a.source a.target) c.in_err-pair.ensures)

pub returns-then-target-source : goal.returns-then-target-source
returns-then-target-source c = let a = c.args in asked_next (pair_faults a.relays a.source a.target) (same a.source a.target) c.in_ok-pair.ensures (simp (eq-eqb _ _ c.if-target-source.true))

pub returns : goal.returns
returns c = let a = c.args in asked_next (pair_faults a.relays a.source a.target) (same a.source a.target) c.in_ok-pair.ensures (simp (ne_eqb _ _ c.if-target-source.false))
