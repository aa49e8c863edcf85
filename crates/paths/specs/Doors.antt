-- A mesh given by which bits a relay may change (`Doors`): its relays are the numbers below 2 ^ bits, and link i of relay u leads to u with bit `door u i` changed, which the
-- relay there may change back. From that alone its links go both ways, none leads to where it comes from, and `near` tells them all, each once (`door-links` in
-- proofs/Doors). Every kind of mesh is given so. Definitions; assumes nothing.
use Rattle.std.specs.Prelude.{ℕ, ◌^◌, ◌<◌, ◌≡◌, true}
use Rattle.bits.specs.Bit.{flip}
use Rattle.paths.specs.Mesh.{Mesh}

pub record Doors (m : Mesh) (bits : ℕ) (near door : ℕ → ℕ → ℕ) : Type 0 where
  pub relays : m.relays ≡ 2 ^ bits
  -- each link changes a bit of its own
  pub within : (u i : ℕ) → u < m.relays → i < m.links → door u i < bits
  pub differ : (u i j : ℕ) → u < m.relays → i < m.links → j < m.links → door u i ≡ door u j → i ≡ j
  pub flips : (u i : ℕ) → u < m.relays → i < m.links → near u i ≡ flip u (door u i)
  -- the relay at its other end may change that bit back
  pub back : (u i : ℕ) → u < m.relays → i < m.links → (j : ℕ) × (j < m.links) × (door (flip u (door u i)) j ≡ door u i)
  -- and these are the links
  pub linked : (u i : ℕ) → u < m.relays → i < m.links → m.linked u (near u i) ≡ true
  pub all : (u v : ℕ) → u < m.relays → v < m.relays → m.linked u v ≡ true → (i : ℕ) × (i < m.links) × (near u i ≡ v)
