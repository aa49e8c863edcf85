use Rattle.std.proofs.Common.{ℕ, ◌≡◌, List, length}
use Rattle.around_search.specs.Search.{Roomy, Sought, Spreading}
use Rattle.around_search.proofs.levels.spread.Given as goal

pub record Inv (kind n links head tail : ℕ) (room₀ room : List ℕ) (x l end i : ℕ) : Type 0 where
  pub long : length room ≡ length room₀
  pub ground : Roomy kind n links (length room)
  pub some : (stopped : List ℕ) × (t : ℕ) × Spreading kind n links stopped t room head i end x l
  pub all : (stopped : List ℕ) (t : ℕ) → Sought kind n stopped t room₀ head 0 tail → Spreading kind n links stopped t room head i end x l

abbrev pub invariant-loop-i : goal.invariant-loop-i
invariant-loop-i l = Inv l.mesh.kind l.mesh.size l.links l.head l.tail l.initial.lent l.lent l.x l.label l.end l.i
