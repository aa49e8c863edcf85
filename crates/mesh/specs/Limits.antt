-- The limits of every mesh that there is, each with its law: most links (`known-links`), and that there are some (`known-linked`), most places of a path (`known-width`), most places of a fan
-- (`known-places`), most relays (`known-relays`); and of every mesh that is planned: most links (`planned-links`), most places of a fan (`planned-places`), most bytes of a sheet (`planned-bytes`). Assumes nothing.
use Rattle.std.specs.Prelude.{ℕ, zero, suc, ◌+◌, ◌*◌, ◌^◌, ◌≤◌, ◌<◌, ◌≡◌, refl, true}
use Rattle.std.proofs.Common.{mul-le-mul, le_trans, arith, pow_mono}
use Rattle.paths.specs.Mesh.{Mesh, width}
use Rattle.paths.specs.Bundles.{longer}
use Rattle.scan.specs.Laws.{true-false}
use Rattle.cube.specs.Cube as cube
use Rattle.cube.specs.Sizes.{known-most}
use Rattle.two_parts.specs.Parts.{known_bounds, longest-few, relays-few}
use Rattle.meta_parts.specs.Sizes.{known-sized}
use Rattle.meta_parts.specs.Sizes as meta
use Rattle.mesh.specs.Kinds.{Kind, kind_of, mesh_of, known, planned}
use Rattle.mesh.specs.Laws.{known_case, planned_case, known-planned}
use Rattle.mesh.specs.Requests.{Ends}

-- a metacube has 37 links at most, and paths of no more than 45 places
abbrev pub any_links : ℕ
any_links = 37

abbrev pub any_places : ℕ
any_places = 1665

-- a cube has 32 links at most, and paths of 34 places; a two-level mesh 6, and paths of 207
abbrev pub most_links : ℕ
most_links = 32

abbrev pub most_width : ℕ
most_width = 207

abbrev pub most_places : ℕ
most_places = 1242

abbrev pub most_bytes : ℕ
most_bytes = 9916

-- the bytes of a sheet whose paths are as many and as long as can be
abbrev pub sheet_most : Mesh → ℕ
sheet_most m = 16 + m.links * (2 + 8 * m.longest)

module _ (n : ℕ) where
  abbrev Within : (links wide : ℕ) → Kind → Type 0
  Within links wide K = ((K.mesh n).links ≤ links) × (width (K.mesh n) ≤ wide)

  -- links and places of a path together, for each kind that is planned
  pub planned_within : (k : ℕ) → planned k n ≡ true → (P : Kind → Type 0) → ((K : Kind) → Within 32 34 K → P K) → ((K : Kind) → Within 6 207 K → P K) → P (kind_of k)
  planned_within k h P c t = planned_case k n h (λ j K. P K)
      (λ z. let most = known-most n refl z in c _ (most, omega arith))
      (λ z. let most = (known_bounds n z).1 in t _ (omega arith, omega (arith, longest-few n most)))

  -- and for each that there is
  known_within : (k : ℕ) → known k n ≡ true → (P : Kind → Type 0) → ((K : Kind) → Within 32 34 K → P K) → ((K : Kind) → Within 6 207 K → P K) → ((K : Kind) → Within 37 45 K → P K) → P (kind_of k)
  known_within k h P c t m = known_case k n h (λ j K. P K)
      (λ z. let most = known-most n refl z in c _ (most, omega arith))
      (λ z. let most = (known_bounds n z).1 in t _ (omega arith, omega (arith, longest-few n most)))
      (λ z. let sized = known-sized n refl z in m _ (meta.links-few sized, omega (arith, meta.longest-few sized)))

-- a cube that there is has a dimension
some : (n : ℕ) → cube.known n ≡ true → 0 < n
some zero e = absurd (true-false e refl)
some (suc n) e = omega arith

module _ (k n : ℕ) (h : known k n ≡ true) where
  pub known-links : (mesh_of k n).links ≤ any_links
  known-links = known_within n k h (λ (K : Kind). (K.mesh n).links ≤ any_links) (λ K w. omega (arith, w.0)) (λ K w. omega (arith, w.0)) (λ K w. w.0)

  pub known-linked : 0 < (mesh_of k n).links
  known-linked = known_case k n h (λ j (K : Kind). 0 < (K.mesh n).links) (λ z. some n z) (λ z. omega arith) (λ z. omega (arith, (known-sized n refl z).some))

  pub known-width : width (mesh_of k n) ≤ most_width
  known-width = known_within n k h (λ (K : Kind). width (K.mesh n) ≤ most_width) (λ K w. omega (arith, w.1)) (λ K w. w.1) (λ K w. omega (arith, w.1))

  pub known-places : (mesh_of k n).links * width (mesh_of k n) ≤ any_places
  known-places = known_within n k h (λ (K : Kind). (K.mesh n).links * width (K.mesh n) ≤ any_places)
      (λ K w. le_trans (mul-le-mul w.0 w.1) (omega arith)) (λ K w. le_trans (mul-le-mul w.0 w.1) (omega arith)) (λ K w. mul-le-mul w.0 w.1)

  -- a bundle has a place more for each path
  pub known_bundle : (mesh_of k n).links * width (longer (mesh_of k n)) ≤ any_places + any_links
  known_bundle = omega (arith, known-places, known-links)

  -- a relay's number takes 37 bits at most
  pub known-relays : (mesh_of k n).relays ≤ 2 ^ 37
  known-relays =
      known_case k n h (λ j (K : Kind). (K.mesh n).relays ≤ 2 ^ 37) (λ z. pow_mono {j = 37} (omega (arith, known-most n refl z))) (λ z. relays-few n (known_bounds n z).1)
      (λ z. meta.relays-few (known-sized n refl z))

module _ (k n : ℕ) (h : planned k n ≡ true) where
  pub planned-links : (mesh_of k n).links ≤ most_links
  planned-links = planned_within n k h (λ (K : Kind). (K.mesh n).links ≤ most_links) (λ K w. w.0) (λ K w. omega (arith, w.0))

  pub planned-places : (mesh_of k n).links * width (mesh_of k n) ≤ most_places
  planned-places = planned_within n k h (λ (K : Kind). (K.mesh n).links * width (K.mesh n) ≤ most_places)
      (λ K w. le_trans (mul-le-mul w.0 w.1) (omega arith)) (λ K w. mul-le-mul w.0 w.1)

  pub planned-bytes : sheet_most (mesh_of k n) ≤ most_bytes
  planned-bytes = planned_within n k h (λ (K : Kind). sheet_most (K.mesh n) ≤ most_bytes)
      (λ K w. let each : 2 + 8 * (K.mesh n).longest ≤ 266 = omega (arith, w.1) in omega (arith, mul-le-mul w.0 each))
      (λ K w. let each : 2 + 8 * (K.mesh n).longest ≤ 1650 = omega (arith, w.1) in omega (arith, mul-le-mul w.0 each))

-- two ends that nothing stands against are of a mesh that is planned
pub ends-links : (k n s t : ℕ) → Ends (kind_of k) n s t → (mesh_of k n).links ≤ most_links
ends-links k n s t e = planned-links k n (known-planned k n e.known e.planned)

-- of a mesh that there is no path is longer than 206 hops
pub short-ways : (k n : ℕ) → known k n ≡ true → (mesh_of k n).longest < 207
short-ways k n h = known_within n k h (λ K. (K.mesh n).longest < 207) (λ K w. omega (arith, w.1)) (λ K w. omega (arith, w.1)) (λ K w. omega (arith, w.1))
