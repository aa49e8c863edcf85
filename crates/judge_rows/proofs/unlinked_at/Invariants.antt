-- `judge_rows::unlinked_at` meets its contract: the invariant is that each relay passed is linked to the one before. Assumes nothing.
use Rattle.scan.specs.Laws.{Passed}
use Rattle.paths.specs.Finding.{unlinked}
use Rattle.judge_rows.specs.Rules.{rules_of}
use Rattle.judge_rows.proofs.unlinked_at.Given as goal

abbrev pub invariant-loop-p : goal.invariant-loop-p
invariant-loop-p l = Passed (unlinked (rules_of l.rules) l.places l.i) 1 l.h l.p
