-- `judge_rows::seen_at` meets its contract: the invariant is that no relay passed was seen before, and that those passed are marked. Assumes nothing.
use Rattle.std.proofs.Common.{ℕ, ◌+◌, List}
use Rattle.scan.specs.Laws.{Passed}
use Rattle.paths.specs.Finding.{seen}
use Rattle.judge_rows.specs.Rules.{rules_of}
use Rattle.judge_rows.specs.Looked.{Looked}
use Rattle.judge_rows.specs.declared.Rules.{Rules}
use Rattle.judge_rows.proofs.seen_at.Given as goal

pub record Inv (rules : Rules) (marks places counts : List ℕ) (i h p : ℕ) : Type 0 where
  pub passed : Passed (seen (rules_of rules) places counts i) 0 (h + 1) p
  pub looked : Looked marks rules.width places counts i p

abbrev pub invariant-loop-p : goal.invariant-loop-p
invariant-loop-p l = Inv l.rules l.marks l.places l.counts l.i l.h l.p
