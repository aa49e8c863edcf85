-- `around_search::ways::trace` meets its contract. The invariant: after i hops the first i + 1 places hold a way, and the label of its end is i lower. Assumes nothing.
use Rattle.std.proofs.Common.{ℕ, ◌≤◌, ◌≡◌, List, length}
use Rattle.around_search.specs.Trace.{Traces, Tracing}
use Rattle.around_search.proofs.ways.trace.Given as goal

pub record Inv (kind n links s d : ℕ) (room : List ℕ) (places : ℕ) (out₀ out : List ℕ) (at i : ℕ) : Type 0 where
  pub bound : i ≤ d
  pub long : length out ≡ length out₀
  pub some : (stopped : List ℕ) × (t : ℕ) × Traces kind n links s d stopped t room places × Tracing kind n s d stopped room out₀ out i at
  pub all : (stopped : List ℕ) (t : ℕ) → Traces kind n links s d stopped t room places → Tracing kind n s d stopped room out₀ out i at

abbrev pub invariant-loop-i : goal.invariant-loop-i
invariant-loop-i l = Inv l.mesh.kind l.mesh.size l.links l.source l.d l.lent (length l.initial.out) l.initial.out l.out l.at l.i
