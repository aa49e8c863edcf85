-- `judge::found::first_finding` meets its contract: the invariant is that nothing was found on the paths passed, and that their relays are marked. Assumes nothing.
use Rattle.std.proofs.Common.{ℕ, List}
use Rattle.judge_rows.specs.Rules.{rules_of}
use Rattle.judge_rows.specs.Looked.{Looked}
use Rattle.judge_rows.specs.declared.Rules.{Rules}
use Rattle.judge.specs.Search.{Searched}
use Rattle.judge.proofs.found.first_finding.Given as goal

pub record Inv (rules : Rules) (source : ℕ) (targets places counts marks : List ℕ) (i : ℕ) : Type 0 where
  pub searched : Searched (rules_of rules) source targets places counts rules.width i
  pub looked : Looked marks rules.width places counts i 0

abbrev pub invariant-loop-i : goal.invariant-loop-i
invariant-loop-i l = Inv l.rules l.source l.targets l.places l.counts l.marks l.i
