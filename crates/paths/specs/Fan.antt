-- What a fan is, on the slices as they are lent. Path i of a fan begins at place i * width of `places`, the source first, and has as many
-- hops as `counts` says at i; its unused places hold the filler.
use Rattle.std.specs.Prelude.{ℕ, ◌+◌, ◌-◌, ◌*◌, ◌^◌, ◌≤◌, ◌<◌, ◌≡◌, true, ◌⊎◌, List, length, get_or}
use Rattle.paths.specs.Mesh.{Mesh, width}
use Rattle.paths.specs.Rules.{Rules, span, fan_rules}

abbrev pub filler : ℕ
filler = 2 ^ 64 - 1

-- what stands at place p of path i, where a path takes w places
unfoldable pub relay : (w : ℕ) (places : List ℕ) (i p : ℕ) → ℕ
relay w places i p = get_or places (i * w + p) 0

-- the hops of path i
unfoldable pub hops : (counts : List ℕ) (i : ℕ) → ℕ
hops counts i = get_or counts i 0

-- path i runs from s to t along links, within the limit of hops, filler after its end
pub record PathBy (r : Rules) (s t : ℕ) (places counts : List ℕ) (i : ℕ) : Type 0 where
  pub short : hops counts i ≤ r.limit
  pub starts : relay (span r) places i 0 ≡ s
  pub linked : (p : ℕ) → p < hops counts i
      → (relay (span r) places i (p + 1) < r.mesh.relays) × (r.mesh.linked (relay (span r) places i p) (relay (span r) places i (p + 1)) ≡ true)
  pub ends : relay (span r) places i (hops counts i) ≡ t
  pub filled : (p : ℕ) → hops counts i < p → p ≤ r.limit → relay (span r) places i p ≡ filler

-- a path of a fan
abbrev pub Path : (m : Mesh) (s t : ℕ) (places counts : List ℕ) (i : ℕ) → Type 0
Path m = PathBy (fan_rules m)

-- a path to each target; a relay stands twice only where both places are starts, which hold the source
pub record Fan (m : Mesh) (s : ℕ) (targets places counts : List ℕ) : Type 0 where
  pub path : (i : ℕ) → i < length targets → Path m s (get_or targets i 0) places counts i
  pub apart : (i j p q : ℕ) → i < length targets → j < length targets → p ≤ hops counts i → q ≤ hops counts j
      → relay (width m) places i p ≡ relay (width m) places j q → ((i ≡ j) × (p ≡ q)) ⊎ ((p ≡ 0) × (q ≡ 0))
