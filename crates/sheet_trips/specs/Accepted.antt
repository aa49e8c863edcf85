-- When nothing stands against reading a sheet (`Accepted`): the reader's tests in their order, as facts, there and back (`accepted`, `accepts`); and
-- the writer's (`write_granted`, `write_grants`). Assumes nothing.
use Rattle.std.specs.Prelude.{ℕ, ◌-◌, ◌*◌, ◌≤◌, ◌≡◌, refl, Bool, true, false, not, ◌≢◌, List, eqb, ltb, length}
use Rattle.std.proofs.Common.{ap, ◌∙◌, ltb-false, le-ltb, eqb-true, eq-eqb, ne_eqb}
use Rattle.std.proofs.Math.Option.{Option, none, some}
use Rattle.std.proofs.lemmas.Bool.{eqb-false, not-false}
use Rattle.scan.specs.Scan.{Spot, nowhere, at, pick}
use Rattle.paths.specs.Mesh.{width}
use Rattle.mesh.specs.Kinds.{kind_of, planned}
use Rattle.mesh.specs.Requests.{neither_wanting, room_enough}
use Rattle.mesh.specs.Says.{short}
use Rattle.judge.specs.Alike.{enough}
use Rattle.judge.specs.Says.{Ruling, ruling, number_of, judge_told}
use Rattle.sheet.specs.Flaws.{flawed-none, before-none, no_flaw, none-flawed, none_before}
use Rattle.sheet.specs.Format.{HEAD, length_at, version_at, kind_at, size_at, count_at, source_at}
use Rattle.sheet.specs.Says.{flawed, before, lone}
use Rattle.sheet.specs.declared.Flaw.{Flaw}
use Rattle.sheet.specs.declared.Flaw.TheVariants as flaw
use Rattle.sheet_write.specs.Says.{stray_flaw}
use Rattle.sheet_take.specs.Says.{looked}
use Rattle.sheet_check.specs.Says.{cut, bad_count, mesh_at, sheet_targets, sheet_places, sheet_counts, flaw_in, ruled, head_against, sheet_ruling}
use Rattle.sheet_read.specs.Says.{lacking, read_against}

pub record Accepted (v : ℕ) (l : List ℕ) (places counts targets : ℕ) : Type 0 where
  -- 30, 31, 32, 33, 37
  pub long : HEAD ≤ length l
  pub counted : length_at l ≡ length l - 4
  pub version : version_at l ≡ v
  pub known-mesh : planned (kind_at l) (size_at l) ≡ true
  pub some-path : count_at l ≢ 0
  pub few : count_at l ≤ (mesh_at l).links
  pub not-lone : lone (kind_at l) (count_at l) ≡ false
  -- 8
  pub room : count_at l * width (mesh_at l) ≤ places
  pub room-counts : count_at l ≤ counts
  pub room-targets : count_at l ≤ targets
  -- 34, 30, 36; 2, 5, 6, 7, 22, 24
  pub looks : looked v (mesh_at l).longest l HEAD 0 (count_at l) ≡ none
  pub is_fan : number_of (judge_told (kind_of (kind_at l)) (size_at l) (source_at l) (sheet_targets v l) (sheet_places v l) (sheet_counts v l) false) ≡ 0

neither : {a b : Bool} → a ≡ false → b ≡ false → pick a true b ≡ false
neither {a} {b} e f = ap (λ (a : Bool). pick a true b) e ∙ f

-- nothing is told of what the judge passes, and of nothing else
ruled-none : (r : Ruling) → ruled r ≡ none → number_of r ≡ 0
ruled-none (ruling n i p) e = go (eqb n 0) refl e
  where
    go : (b : Bool) → eqb n 0 ≡ b → pick b none (some (flaw_in (ruling n i p))) ≡ none → n ≡ 0
    go true f g = eqb-true n 0 f
    go false f g = no_flaw g

none-ruled : (r : Ruling) → number_of r ≡ 0 → ruled r ≡ none
none-ruled r e = ap (λ (b : Bool). pick b none (some (flaw_in r))) (eq-eqb (number_of r) 0 e)

module _ (v : ℕ) (l : List ℕ) (places counts targets : ℕ) where
  pub accepted : read_against v l places counts targets ≡ none → Accepted v l places counts targets
  accepted e =
      let k = count_at l in
      let m = mesh_at l in
      let h = before-none (head_against v l) _ e in
      let cut-not = flawed-none (cut l) flaw.Cut _ h.0 in
      let version-not = flawed-none (not (eqb (version_at l) v)) flaw.Version _ cut-not.1 in
      let mesh-not = flawed-none (not (planned (kind_at l) (size_at l))) flaw.NoMesh _ version-not.1 in
      let paths-not = flawed-none (bad_count m.links k) flaw.Paths _ mesh-not.1 in
      let lone-not = flawed-none (lone (kind_at l) k) flaw.Lone none paths-not.1 in
      let room-not = flawed-none (lacking l places counts targets) flaw.NoRoom _ h.1 in
      let look-not = before-none (looked v m.longest l HEAD 0 k) _ room-not.1 in
      let c = neither_wanting (ltb (length l) HEAD) (not (eqb (length_at l) (length l - 4))) refl cut-not.0 in
      let p = neither_wanting (eqb k 0) (ltb m.links k) refl paths-not.0 in
      let r = neither_wanting (short m k places counts) (ltb targets k) refl room-not.0 in
      let held = room_enough m k places counts r.0 in
      record {
        long = ltb-false (length l) HEAD c.0;
        counted = eqb-true (length_at l) (length l - 4) (not-false _ c.1);
        version = eqb-true (version_at l) v (not-false _ version-not.0);
        known-mesh = not-false (planned (kind_at l) (size_at l)) mesh-not.0;
        some-path = eqb-false k 0 p.0;
        few = ltb-false m.links k p.1;
        not-lone = lone-not.0;
        room = held.0;
        room-counts = held.1;
        room-targets = ltb-false targets k r.1;
        looks = look-not.0;
        is_fan = ruled-none (sheet_ruling v l) look-not.1;
      }

  pub accepts : Accepted v l places counts targets → read_against v l places counts targets ≡ none
  accepts a =
      let k = count_at l in
      let m = mesh_at l in
      none_before
      (none-flawed flaw.Cut (neither (le-ltb (length l) HEAD a.long) (ap not (eq-eqb (length_at l) (length l - 4) a.counted)))
      (none-flawed flaw.Version (ap not (eq-eqb (version_at l) v a.version))
      (none-flawed flaw.NoMesh (ap not a.known-mesh)
      (none-flawed flaw.Paths (neither (ne_eqb k 0 a.some-path) (le-ltb m.links k a.few))
      (none-flawed flaw.Lone a.not-lone refl)))))
      (none-flawed flaw.NoRoom (neither (enough m k places counts a.room a.room-counts) (le-ltb targets k a.room-targets))
      (none_before a.looks
      (none-ruled (sheet_ruling v l) a.is_fan)))

-- what stands against writing so many bytes into room for so many, where the judge tells n, the path is a lone one or not, the version is another or not, and a zone may be in the way
abbrev pub write_flaw : (alone other : Bool) (stray : Spot) (n bytes room : ℕ) → Option Flaw
write_flaw alone other stray n bytes room =
    flawed alone flaw.Lone
    (flawed other flaw.Version
    (pick (eqb n 0) (before (stray_flaw stray) (flawed (ltb room bytes) flaw.NoRoom none)) (pick (eqb n 8) (some flaw.NoRoom) (some flaw.NotAFan))))

pub record Granted (alone other : Bool) (stray : Spot) (n bytes room : ℕ) : Type 0 where
  pub several : alone ≡ false
  pub known : other ≡ false
  pub is_fan : n ≡ 0
  pub unzoned : stray ≡ nowhere
  pub fits : bytes ≤ room

pub stray_none : (x : Spot) → stray_flaw x ≡ none → x ≡ nowhere
stray_none nowhere e = refl
stray_none (at i) e = no_flaw e

pub write_granted : (alone other : Bool) (stray : Spot) (n bytes room : ℕ) → write_flaw alone other stray n bytes room ≡ none → Granted alone other stray n bytes room
write_granted alone other stray n bytes room e =
    let f = flawed-none alone flaw.Lone _ e in
    let h = flawed-none other flaw.Version _ f.1 in
    let g = go (eqb n 0) (eqb n 8) refl h.1 in
    record { several = f.0; known = h.0; is_fan = g.0; unzoned = g.1; fits = g.2 }
  where
    go : (a b : Bool) → eqb n 0 ≡ a → pick a (before (stray_flaw stray) (flawed (ltb room bytes) flaw.NoRoom none)) (pick b (some flaw.NoRoom) (some flaw.NotAFan)) ≡ none
        → (n ≡ 0) × (stray ≡ nowhere) × (bytes ≤ room)
    go true b f g =
        let h = before-none (stray_flaw stray) _ g in
        (eqb-true n 0 f, stray_none stray h.0, ltb-false room bytes (flawed-none (ltb room bytes) flaw.NoRoom none h.1).0)
    go false true f g = no_flaw g
    go false false f g = no_flaw g

pub write_grants : (alone other : Bool) (stray : Spot) (n bytes room : ℕ) → Granted alone other stray n bytes room → write_flaw alone other stray n bytes room ≡ none
write_grants alone other stray n bytes room g = simp (g.several, g.known, eq-eqb n 0 g.is_fan, g.unzoned, le-ltb room bytes g.fits)
