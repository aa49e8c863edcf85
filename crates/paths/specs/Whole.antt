-- What has failed (`Failed`), which paths are then whole (`whole`), and how many different things of a mesh have failed (`failures`).
-- Definitions; assumes nothing.
use Rattle.std.specs.Prelude.{ℕ, ◌+◌, ◌*◌, min, max, Bool, false, not, ◌&&◌, ◌||◌, List, [], ◌∷◌, eqb, ltb}
use Rattle.scan.specs.Scan.{pick, any, has, different}
use Rattle.paths.specs.Mesh.{Mesh}
use Rattle.paths.specs.Fan.{relay, hops}

-- the relays that have stopped, and the links that are cut: two relay numbers each, one pair after another, in either order; a last number
-- without a partner is no pair
pub record Failed : Type 0 where
  pub stopped : List ℕ
  pub cuts : List ℕ

-- what has failed, as it is lent
abbrev pub failed : (stopped cuts : List ℕ) → Failed
failed stopped cuts = record { stopped = stopped; cuts = cuts }

-- ---- which paths are whole

-- the pair a, b is u, v in either order
unfoldable pub pair : (a b u v : ℕ) → Bool
pair a b u v = (eqb a u && eqb b v) || (eqb a v && eqb b u)

-- one of the pairs is u, v in either order
unfoldable pub cut : (cuts : List ℕ) (u v : ℕ) → Bool
cut [] u v = false
cut (a ∷ []) u v = false
cut (a ∷ b ∷ cuts) u v = pair a b u v || cut cuts u v

-- the relay at place p of path i has stopped
unfoldable pub stops : (w : ℕ) (places : List ℕ) (f : Failed) (i p : ℕ) → Bool
stops w places f i p = has f.stopped (relay w places i p)

-- the relay at place p of path i and the next one are a cut link
unfoldable pub severs : (w : ℕ) (places : List ℕ) (f : Failed) (i p : ℕ) → Bool
severs w places f i p = cut f.cuts (relay w places i p) (relay w places i (p + 1))

-- something on path i has failed: a relay of it, or a link from one to the next
unfoldable pub broken : (w : ℕ) (places counts : List ℕ) (f : Failed) (i : ℕ) → Bool
broken w places counts f i = any (stops w places f i) 0 (hops counts i + 1) || any (severs w places f i) 0 (hops counts i)

-- nothing on path i has failed
unfoldable pub whole : (w : ℕ) (places counts : List ℕ) (f : Failed) (i : ℕ) → Bool
whole w places counts f i = not (broken w places counts f i)

-- ---- how much has failed

-- the numbers that are relays of the mesh
unfoldable pub relays_of : Mesh → List ℕ → List ℕ
relays_of m [] = []
relays_of m (x ∷ l) = pick (ltb x m.relays) (x ∷ relays_of m l) (relays_of m l)

-- a and b are relays of the mesh, and linked
unfoldable pub link : Mesh → (a b : ℕ) → Bool
link m a b = ltb a m.relays && (ltb b m.relays && (m.linked a b || m.linked b a))

-- two relays as one number, the same in either order
unfoldable pub numbered : Mesh → (a b : ℕ) → ℕ
numbered m a b = min a b * m.relays + max a b

-- the pairs that are links of the mesh, each as one number
unfoldable pub links_of : Mesh → List ℕ → List ℕ
links_of m [] = []
links_of m (a ∷ []) = []
links_of m (a ∷ b ∷ cuts) = pick (link m a b) (numbered m a b ∷ links_of m cuts) (links_of m cuts)

-- how many different relays have stopped, and different links are cut
abbrev pub failures : Mesh → Failed → ℕ
failures m f = different (relays_of m f.stopped) + different (links_of m f.cuts)
