-- `around_search::levels::search` meets its contract. The invariant: the relays in the queue have been reached, and the links of those before the head followed. Assumes nothing.
use Rattle.std.proofs.Common.{ℕ, ◌-◌, ◌≡◌, List, length}
use Rattle.mesh.specs.Kinds.{mesh_of}
use Rattle.around_search.specs.Search.{Roomy, Sought, Searches}
use Rattle.around_search.proofs.levels.search.Given as goal

pub record Inv (kind n links source : ℕ) (room₀ room : List ℕ) (head tail : ℕ) : Type 0 where
  pub long : length room ≡ length room₀
  pub ground : Roomy kind n links (length room)
  pub some : (stopped : List ℕ) × (t : ℕ) × Searches kind n links source stopped t room₀ × Sought kind n stopped t room head 0 tail
  pub all : (stopped : List ℕ) (t : ℕ) → Searches kind n links source stopped t room₀ → Sought kind n stopped t room head 0 tail

abbrev pub invariant-loop-head : goal.invariant-loop-head
invariant-loop-head l = Inv l.mesh.kind l.mesh.size l.links l.source l.initial.lent l.lent l.head l.tail

abbrev pub decreases-loop-head : goal.decreases-loop-head
decreases-loop-head l = (mesh_of l.mesh.kind l.mesh.size).relays - l.head
