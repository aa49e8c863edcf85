-- A mesh whose links are told one by one (`Links`): `near u i` is the relay at the other end of link i of u. What is proved of any mesh with such links
-- is proved of each kind; so that a relay has as many links as its size says (`links-count`). Assumes nothing.
use Rattle.std.specs.Prelude.{ℕ, ◌<◌, ◌≡◌, true, false}
use Rattle.std.proofs.Common.{arith}
use Rattle.scan.specs.Scan.{count}
use Rattle.scan.specs.Counts.{count-places}
use Rattle.paths.specs.Mesh.{Mesh}

-- links go both ways, and none leads to where it comes from; the relays linked to u are `near u i` for i below `links`, all different
pub record Links (m : Mesh) (near : ℕ → ℕ → ℕ) : Type 0 where
  pub both : (u v : ℕ) → u < m.relays → v < m.relays → m.linked u v ≡ m.linked v u
  pub away : (u : ℕ) → u < m.relays → m.linked u u ≡ false
  pub below : (u i : ℕ) → u < m.relays → i < m.links → near u i < m.relays
  pub linked : (u i : ℕ) → u < m.relays → i < m.links → m.linked u (near u i) ≡ true
  pub all : (u v : ℕ) → u < m.relays → v < m.relays → m.linked u v ≡ true → (i : ℕ) × (i < m.links) × (near u i ≡ v)
  pub differ : (u i j : ℕ) → u < m.relays → i < m.links → j < m.links → near u i ≡ near u j → i ≡ j

pub links-count : (m : Mesh) (near : ℕ → ℕ → ℕ) → Links m near → (u : ℕ) → u < m.relays → count (m.linked u) m.relays ≡ m.links
links-count m near k u h =
    count-places (m.linked u) m.relays m.links (near u) (record {
      within = λ i l. k.below u i h l;
      apart = λ i j l g e. let same : i ≡ j = k.differ u i j h (omega arith) g e in omega arith;
      holds = λ i l. k.linked u i h l;
      only = λ v l e. k.all u v h l e;
    })
