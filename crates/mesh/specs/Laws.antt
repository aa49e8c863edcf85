-- Laws of the kinds. Assumes nothing.
--
-- What holds of the cubes holds of kind 1, and so for each kind (`as_cube`, `as_two`, `as_meta`, `as_other`); a mesh that there is is of one of them
-- (`known_case`): a further kind is one more case there. Its links are told one by one (`known-near`). One that is planned is a cube or a two-level mesh (`planned_case`).
use Rattle.std.specs.Prelude.{ℕ, ◌≡◌, refl, Bool, true, false, not, List, ◌++◌, ◌≢◌, eqb}
use Rattle.std.proofs.Common.{sym, ap₂, ◌∙◌, subst, arith, eq-eqb, ne_eqb}
use Rattle.std.proofs.Math.Path.{ap}
use Rattle.std.proofs.Math.Option.{some}
use Rattle.std.proofs.Math.Decide.{ℕ_discrete}
use Rattle.scan.specs.Scan.{pick}
use Rattle.scan.specs.Laws.{true-false, not-true}
use Rattle.answers.specs.Order.{Fault, first, append_refused, size_faults, served_faults, distance_faults, pair_faults, request_faults}
use Rattle.answers.specs.Pairs.{size-known, size-unknown}
use Rattle.answers.specs.Told.{told, tell}
use Rattle.answers.specs.declared.Refusal.{Refusal}
use Rattle.answers.specs.declared.Refusal.TheVariants.{UnknownSize, NotServed}
use Rattle.cube.specs.Cube as cube
use Rattle.cube.specs.Links as plain
use Rattle.two_parts.specs.Two as two
use Rattle.two_parts.proofs.NearLaws as parts
use Rattle.meta_parts.specs.Meta as meta
use Rattle.meta_parts.specs.Sizes.{known-sized}
use Rattle.meta_parts.proofs.NearLaws as metaLinks
use Rattle.paths.specs.Ways.{distance}
use Rattle.paths.specs.Links.{Links}
use Rattle.mesh.specs.Kinds.{Kind, cubes, twos, metas, others, CUBE, TWO, META, kind_of, known, planned, mesh_of}
use Rattle.mesh.specs.Says.{served_faults_in, request_against, distance_told}

-- ---- a kind by its number

module _ {A : Type 0} (f : Kind → A) where
  pub as_cube : {k : ℕ} → k ≡ CUBE → f cubes ≡ f (kind_of k)
  unfolding kind_of
  as_cube {k} e = ap (λ (b : Bool). f (pick b cubes (pick (eqb k TWO) twos (pick (eqb k META) metas others)))) (sym (eq-eqb k CUBE e))

  no_cube : {k : ℕ} → k ≢ CUBE → f (pick (eqb k TWO) twos (pick (eqb k META) metas others)) ≡ f (kind_of k)
  unfolding kind_of
  no_cube {k} ne = ap (λ (b : Bool). f (pick b cubes (pick (eqb k TWO) twos (pick (eqb k META) metas others)))) (sym (ne_eqb k CUBE ne))

  pub as_two : {k : ℕ} → k ≢ CUBE → k ≡ TWO → f twos ≡ f (kind_of k)
  as_two {k} ne e = ap (λ (b : Bool). f (pick b twos (pick (eqb k META) metas others))) (sym (eq-eqb k TWO e)) ∙ no_cube ne

  no_two : {k : ℕ} → k ≢ CUBE → k ≢ TWO → f (pick (eqb k META) metas others) ≡ f (kind_of k)
  no_two {k} ne nt = ap (λ (b : Bool). f (pick b twos (pick (eqb k META) metas others))) (sym (ne_eqb k TWO nt)) ∙ no_cube ne

  pub as_meta : {k : ℕ} → k ≢ CUBE → k ≢ TWO → k ≡ META → f metas ≡ f (kind_of k)
  as_meta {k} ne nt e = ap (λ (b : Bool). f (pick b metas others)) (sym (eq-eqb k META e)) ∙ no_two ne nt

  pub as_other : {k : ℕ} → k ≢ CUBE → k ≢ TWO → k ≢ META → f others ≡ f (kind_of k)
  as_other {k} ne nt nm = ap (λ (b : Bool). f (pick b metas others)) (sym (ne_eqb k META nm)) ∙ no_two ne nt

-- ---- a mesh that there is

module _ (k n : ℕ) (h : known k n ≡ true) where
  pub known-cube : k ≡ CUBE → cube.known n ≡ true
  known-cube e = as_cube (λ (K : Kind). K.known n) e ∙ h

  pub known_two : k ≡ TWO → two.known n ≡ true
  known_two e = as_two (λ (K : Kind). K.known n) (λ c. omega arith) e ∙ h

  pub known-meta : k ≡ META → meta.known n ≡ true
  known-meta e = as_meta (λ (K : Kind). K.known n) (λ c. omega arith) (λ c. omega arith) e ∙ h

  -- it is of one of the kinds
  pub no_other : k ≢ CUBE → k ≢ TWO → k ≢ META → ⊥
  no_other ne nt nm = true-false h (sym (as_other (λ (K : Kind). K.known n) ne nt nm))

  -- the kinds, case by case: what holds of each of them that there is holds of it
  pub known_case : (P : ℕ → Kind → Type 0) → (cube.known n ≡ true → P CUBE cubes) → (two.known n ≡ true → P TWO twos) → (meta.known n ≡ true → P META metas) → P k (kind_of k)
  known_case P c t m = go (ℕ_discrete k CUBE) (ℕ_discrete k TWO) (ℕ_discrete k META)
    where
      go : Dec (k ≡ CUBE) → Dec (k ≡ TWO) → Dec (k ≡ META) → P k (kind_of k)
      go (yes e) d f = subst (P k) (as_cube (λ K. K) e) (subst (λ (x : ℕ). P x cubes) (sym e) (c (known-cube e)))
      go (no ne) (yes e) f = subst (P k) (as_two (λ K. K) ne e) (subst (λ (x : ℕ). P x twos) (sym e) (t (known_two e)))
      go (no ne) (no nt) (yes e) = subst (P k) (as_meta (λ K. K) ne nt e) (subst (λ (x : ℕ). P x metas) (sym e) (m (known-meta e)))
      go (no ne) (no nt) (no nm) = absurd (no_other ne nt nm)

  -- its links are told one by one
  pub known-near : Links (mesh_of k n) ((kind_of k).near n)
  known-near = known_case (λ k K. Links (K.mesh n) (K.near n)) (λ c. plain.links n) (λ t. parts.links n) (λ m. metaLinks.links (meta.class_bits n) (meta.part_bits n) (known-sized n refl m).some)

-- ---- a mesh that is planned

both_flags : (a b : Bool) → pick a b false ≡ true → (a ≡ true) × (b ≡ true)
both_flags true b e = (refl, e)
both_flags false b e = absurd (true-false e refl)

module _ (k n : ℕ) where
  pub planned-known : planned k n ≡ true → known k n ≡ true
  planned-known h = (both_flags (known k n) (kind_of k).planned h).0

  pub planned-served : planned k n ≡ true → (kind_of k).planned ≡ true
  planned-served h = (both_flags (known k n) (kind_of k).planned h).1

  pub known-planned : known k n ≡ true → (kind_of k).planned ≡ true → planned k n ≡ true
  known-planned h p = ap₂ (λ (x y : Bool). pick x y false) h p

  -- it is a cube or a two-level mesh
  pub planned_case : planned k n ≡ true → (P : ℕ → Kind → Type 0) → (cube.known n ≡ true → P CUBE cubes) → (two.known n ≡ true → P TWO twos) → P k (kind_of k)
  planned_case h P c t =
      known_case k n (planned-known h) (λ j (K : Kind). K.planned ≡ true → P j K) (λ z q. c z) (λ z q. t z) (λ z q. absurd (true-false q refl)) (planned-served h)

  pub no_planned : planned k n ≡ true → k ≢ CUBE → k ≢ TWO → ⊥
  no_planned h ne nt = planned_case h (λ j K. k ≡ j → ⊥) (λ z. ne) (λ z. nt) refl

  -- none of another kind is
  pub planned-none : k ≢ CUBE → k ≢ TWO → planned k n ≡ false
  planned-none ne nt = not-true (λ h. no_planned h ne nt)

  -- every other kind is, where it is known
  pub known-served : k ≢ META → known k n ≡ planned k n
  known-served nm = go (ℕ_discrete k CUBE) (ℕ_discrete k TWO)
    where
      served : (b p : Bool) → p ≡ true → b ≡ pick b p false
      served true p e = sym e
      served false p e = refl

      unknown : (b p : Bool) → b ≡ false → b ≡ pick b p false
      unknown true p e = absurd (true-false refl e)
      unknown false p e = refl

      go : Dec (k ≡ CUBE) → Dec (k ≡ TWO) → known k n ≡ planned k n
      go (yes e) d = served (known k n) (kind_of k).planned (sym (as_cube (λ (K : Kind). K.planned) e))
      go (no ne) (yes e) = served (known k n) (kind_of k).planned (sym (as_two (λ (K : Kind). K.planned) ne e))
      go (no ne) (no nt) = unknown (known k n) (kind_of k).planned (sym (as_other (λ (K : Kind). K.known n) ne nt nm))

-- the flag r is what code has of `planned`
module _ {r : Bool} (k n : ℕ) (l : List Fault) (e : r ≡ planned k n) where
  -- 1 and 52 do not stand against it
  pub served-fine : r ≡ true → first l ≡ first (served_faults_in (kind_of k) n ++ l)
  served-fine t =
      let h = sym e ∙ t in
      ap₂ (λ (x y : Bool). first ((size_faults (not x) ++ served_faults (not y)) ++ l)) (sym (planned-known k n h)) (sym (planned-served k n h))

-- why a mesh that is not planned is refused, whatever comes after
pub unserved_refused : {why : Refusal} (K : Kind) (n : ℕ) (l : List Fault) → some why ≡ first (served_faults_in K n) → some why ≡ first (served_faults_in K n ++ l)
unserved_refused K n l e = sym (append_refused (served_faults_in K n) l (sym e))

pub unserved_known : {r : Bool} (k n : ℕ) → r ≡ known k n → r ≡ true → planned k n ≡ false → some NotServed ≡ first (served_faults_in (kind_of k) n)
unserved_known k n e t f = go (known k n) (kind_of k).planned (sym e ∙ t) f
  where
    go : (a b : Bool) → a ≡ true → pick a b false ≡ false → some NotServed ≡ first (size_faults (not a) ++ served_faults (not b))
    go true true p q = absurd (true-false refl q)
    go true false p q = refl
    go false b p q = absurd (true-false p refl)

pub unserved_unknown : {r : Bool} (k n : ℕ) → r ≡ known k n → r ≡ false → some UnknownSize ≡ first (served_faults_in (kind_of k) n)
unserved_unknown k n e f = size-unknown (served_faults (not (kind_of k).planned)) e f

-- ---- a request

-- the flag r is what code has of `known`
module _ {r : Bool} (K : Kind) (n s : ℕ) (targets : List ℕ) (e : r ≡ K.known n) where
  pub request_known : {relays links : ℕ} → r ≡ true → relays ≡ (K.mesh n).relays → links ≡ (K.mesh n).links
      → first (request_faults relays links s targets) ≡ request_against K n s targets false
  request_known t p q =
      ap₂ (λ (x y : ℕ). first (request_faults x y s targets)) p q
      ∙ size-known (request_faults (K.mesh n).relays (K.mesh n).links s targets) e t

  pub request_unknown : r ≡ false → some UnknownSize ≡ request_against K n s targets false
  request_unknown f = size-unknown (request_faults (K.mesh n).relays (K.mesh n).links s targets) e f

-- ---- distance

-- a cube has none: 9, or 1 where there is no such cube
pub cube-distance : (n s t : ℕ) → pick (cube.known n) (told 9 0 0) (told 1 0 0) ≡ distance_told cubes n s t
cube-distance n s t = go (cube.known n)
  where
    go : (b : Bool) → pick b (told 9 0 0) (told 1 0 0) ≡ tell (first ((size_faults (not b) ++ served_faults false) ++ distance_faults true ++ pair_faults (cube.cube n).relays s t)) 0 (distance (cube.cube n) s t)
    go true = refl
    go false = refl
