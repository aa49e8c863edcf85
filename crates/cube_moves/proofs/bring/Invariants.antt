-- `cube_moves::bring` meets its contract. The loop's invariant: of the rows passed each has come home, and the others are ready. Assumes nothing.
use Rattle.std.proofs.Common.{◌≡◌, ℕ, List, length}
use Rattle.cube_moves.specs.Bring.{Ready, Fetched}
use Rattle.cube_moves.proofs.bring.Given as goal

pub record Inv (b f shut far home w : ℕ) (g₀ : List ℕ) (todo₀ used₀ : ℕ) (g : List ℕ) (todo used : ℕ) : Type 0 where
  pub long : length g ≡ length g₀
  pub ready : Ready w todo g
  pub goes : (e : List ℕ) → Fetched b f shut far home w e g₀ todo₀ used₀ → Fetched b f shut far home w e g todo used

abbrev pub invariant-loop-j : goal.invariant-loop-j
invariant-loop-j l = Inv l.b l.f l.shut l.far l.home l.w l.initial.grid l.initial.j-iterator.0 l.initial.used l.grid l.j-iterator.0 l.used
