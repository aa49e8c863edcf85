-- `bundle::close_all` meets its contract. The loop's invariant: the first i rows are closed, the others are where they were. Assumes nothing.
use Rattle.std.proofs.Common.{ℕ, ◌≤◌, ◌≡◌, List, length}
use Rattle.bundle.specs.Closing.{Rows, Closed}
use Rattle.bundle.proofs.close_all.Given as goal

pub record Inv (w k : ℕ) (ends : List ℕ) (t : ℕ) (l m c d : List ℕ) (i : ℕ) : Type 0 where
  pub bound : i ≤ k
  pub rows : Rows w k (length ends) (length m) c
  pub long : length m ≡ length l
  pub long_counts : length d ≡ length c
  pub closed : Closed w k ends t i l m c d

abbrev pub invariant-loop-i : goal.invariant-loop-i
invariant-loop-i l = Inv l.w l.k l.ends l.target l.initial.places l.places l.initial.counts l.counts l.i
