-- `columns::mark` meets its contract: the invariant is that the paths passed are marked and counted. Assumes nothing.
use Rattle.std.proofs.Common.{ℕ, ◌≡◌, Bool, List}
use Rattle.scan.specs.Scan.{count}
use Rattle.paths.specs.Whole.{failed, whole}
use Rattle.columns.specs.Says.{marks}
use Rattle.columns.specs.Laws.{Filling}
use Rattle.columns.proofs.mark.Given as goal

pub record Inv (test : ℕ → Bool) (was out : List ℕ) (n i : ℕ) : Type 0 where
  pub filling : Filling (marks test i) i was out
  pub counted : n ≡ count test i

abbrev pub invariant-loop-i : goal.invariant-loop-i
invariant-loop-i l = Inv (whole l.w l.places l.counts (failed l.stopped l.cuts)) l.initial.out l.out l.n l.i
