-- What the search of a path asks of the slices that it reads: a path takes w places, and there are `places` of them.
use Rattle.std.specs.Prelude.{ℕ, ◌+◌, ◌*◌, ◌≤◌, ◌<◌, ◌≡◌, true, List, length}
use Rattle.paths.specs.Rules.{span}
use Rattle.paths.specs.Fan.{hops}
use Rattle.mesh.specs.Kinds.{known}
use Rattle.judge_rows.specs.Rules.{rules_of}
use Rattle.judge_rows.specs.declared.Rules.{Rules}

-- path i lies within the places, and h hops within the path
pub record Row (w places i h : ℕ) : Type 0 where
  pub room : i * w + w ≤ places
  pub short : h < w

-- a mesh that there is, and what a path takes in it
pub record Ruled (r : Rules) : Type 0 where
  pub known : known r.mesh.kind r.mesh.size ≡ true
  pub wide : r.width ≡ span (rules_of r)

-- a path of h hops in such a mesh
pub record Laid (r : Rules) (places i h : ℕ) : Type 0 where
  pub ruled : Ruled r
  pub row : Row r.width places i h

-- a place p of path i, not its first, in a mesh of so many relays
pub record Step (r : Rules) (relays places i p : ℕ) : Type 0 where
  pub ruled : Ruled r
  pub all : relays ≡ (rules_of r).mesh.relays
  pub room : i * r.width + p < places
  pub later : 1 ≤ p

-- path j has its count, and lies within the places with its hops
pub record Held (w places : ℕ) (counts : List ℕ) (j : ℕ) : Type 0 where
  pub counted : j < length counts
  pub row : Row w places j (hops counts j)

-- each path before path i is held, and path i has its count and with h hops lies within the places
pub record After (r : Rules) (places : ℕ) (counts : List ℕ) (i h : ℕ) : Type 0 where
  pub ruled : Ruled r
  pub held : (j : ℕ) → j < i → Held r.width places counts j
  pub counted : i < length counts
  pub row : Row r.width places i h

-- each path before path i is held, and path i has its count and its places
pub record Next (r : Rules) (places : ℕ) (counts : List ℕ) (i : ℕ) : Type 0 where
  pub ruled : Ruled r
  pub held : (j : ℕ) → j < i → Held r.width places counts j
  pub counted : i < length counts
  pub room : i * r.width + r.width ≤ places
