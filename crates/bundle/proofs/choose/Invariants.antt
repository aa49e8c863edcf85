-- `bundle::choose` meets its contract. The loop's invariant: the first i ends are chosen. Assumes nothing.
use Rattle.std.proofs.Common.{ℕ, ◌≤◌, ◌≡◌, List, length}
use Rattle.mesh.specs.Kinds.{kind_of}
use Rattle.bundle.specs.Needs.{Pair}
use Rattle.bundle.specs.Ends.{Chosen}
use Rattle.bundle.proofs.choose.Given as goal

pub record Inv (kind size s t k : ℕ) (l₀ l : List ℕ) (i : ℕ) : Type 0 where
  pub bound : i ≤ k
  pub pair : Pair kind size s t k (length l₀)
  pub long : length l ≡ length l₀
  pub chosen : Chosen ((kind_of kind).near size) s t i l

abbrev pub invariant-loop-i : goal.invariant-loop-i
invariant-loop-i l = Inv l.mesh.kind l.mesh.size l.source l.target l.k l.initial.ends l.ends l.i
