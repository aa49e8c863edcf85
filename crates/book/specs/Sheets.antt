-- What a book asks of a sheet that is added (`against`: what the reader of either version has against it, but 8), and all that it knows of one that is accepted (`Sheet`, `accepted`): it is as long as it
-- tells, its version is not 0, and its key is one. Nothing else of this library's sheets matters to a book. Assumes nothing.
use Rattle.std.specs.Prelude.{ℕ, ◌-◌, ◌≤◌, ◌<◌, ◌≡◌, refl, Bool, true, false, not, List, eqb, ltb, length, Ok, Err}
use Rattle.std.proofs.Math.Path.{sym, ap}
use Rattle.std.proofs.Common.{ap₂, ◌∙◌, arith, ltb-false, eqb-true, ne_eqb}
use Rattle.std.proofs.Math.Option.{Option, none, some}
use Rattle.std.proofs.lemmas.Bool.{not-false}
use Rattle.scan.specs.Scan.{pick}
use Rattle.cube.specs.Sizes.{known-most}
use Rattle.two_parts.specs.Parts.{known_bounds}
use Rattle.mesh.specs.Kinds.{kind_of, planned}
use Rattle.mesh.specs.Laws.{planned_case, planned-known}
use Rattle.mesh.specs.Limits.{known-relays}
use Rattle.mesh.specs.Requests.{neither_wanting}
use Rattle.judge.specs.Says.{number_of}
use Rattle.sheet.specs.Format.{VERSION, ZONED, HEAD, zoned, version_of, length_at, version_at, kind_at, size_at, source_at, count_at}
use Rattle.sheet.specs.Flaws.{flawed-none, before-none, no_flaw}
use Rattle.sheet.specs.Judging.{judged, judged-fine}
use Rattle.sheet.specs.Says.{reading_told, read_kind, read_size, read_source}
use Rattle.sheet.specs.declared.Head.{Head}
use Rattle.sheet_check.specs.Told.{told_flaw, told_none}
use Rattle.sheet.specs.declared.Flaw.{Flaw}
use Rattle.sheet.specs.declared.Flaw.TheVariants as flaw
use Rattle.sheet_take.specs.Says.{looked}
use Rattle.sheet_check.specs.Says.{cut, mesh_at, flaw_in, ruled, head_against, paths_against, check_against, sheet_ruling, sheet_told, sheet_targets, sheet_places, sheet_counts}
use Rattle.book.specs.Pieces.{length_of, live, SOURCES, key, key_at}

unfoldable pub against : List ℕ → Option Flaw
against l = check_against (version_of l) l

-- a kind, a size and a source that a sheet can have
pub record Keyed (kind size source : ℕ) : Type 0 where
  pub some-kind : 1 ≤ kind
  pub few_kinds : kind ≤ 2
  pub small : size < 256
  pub near : source < SOURCES

pub record Sheet (l : List ℕ) : Type 0 where
  pub long : HEAD ≤ length l
  pub told : length_of l ≡ length l
  pub alive : live l ≡ true
  pub keyed : Keyed (kind_at l) (size_at l) (source_at l)

ruled-none : (n : ℕ) (f : Flaw) → pick (eqb n 0) none (some f) ≡ none → n ≡ 0
ruled-none n f e = go (eqb n 0) refl e
  where
    go : (b : Bool) → eqb n 0 ≡ b → pick b none (some f) ≡ none → n ≡ 0
    go true q z = eqb-true n 0 q
    go false q z = no_flaw z

planned-few : (kind size : ℕ) → planned kind size ≡ true → (1 ≤ kind) × (kind ≤ 2) × (size < 256)
planned-few kind size h =
    planned_case kind size h (λ j K. (1 ≤ j) × (j ≤ 2) × (size < 256))
    (λ z. (omega arith, omega arith, omega (arith, known-most size refl z))) (λ z. (omega arith, omega arith, omega (arith, (known_bounds size z).1)))

some_version : (b : Bool) → 1 ≤ pick b ZONED VERSION
some_version true = omega arith
some_version false = omega arith

pub accepted : (l : List ℕ) → against l ≡ none → Sheet l
unfolding against
accepted l e =
    let w = version_of l in
    let whole = before-none (head_against w l) (paths_against w l) e in
    let p = flawed-none (cut l) flaw.Cut _ whole.0 in
    let q = flawed-none (not (eqb (version_at l) w)) flaw.Version _ p.1 in
    let r = flawed-none (not (planned (kind_at l) (size_at l))) flaw.NoMesh _ q.1 in
    let version = eqb-true (version_at l) w (not-false (eqb (version_at l) w) q.0) in
    let there = not-false (planned (kind_at l) (size_at l)) r.0 in
    let lengths = neither_wanting (ltb (length l) HEAD) (not (eqb (length_at l) (length l - 4))) refl p.0 in
    let long : HEAD ≤ length l = ltb-false (length l) HEAD lengths.0 in
    let told = eqb-true (length_at l) (length l - 4) (not-false (eqb (length_at l) (length l - 4)) lengths.1) in
    let found = ruled-none (number_of (sheet_ruling w l)) (flaw_in (sheet_ruling w l)) (before-none (looked w (mesh_at l).longest l HEAD 0 (count_at l)) (ruled (sheet_ruling w l)) whole.1).1 in
    let fine = judged-fine (kind_of (kind_at l)) (size_at l) (source_at l) (sheet_targets w l)
    (judged (kind_of (kind_at l)) (size_at l) (source_at l) (sheet_targets w l) (sheet_places w l) (sheet_counts w l) found) in
    let few = planned-few (kind_at l) (size_at l) there in
    record {
      long = long;
      told = omega arith;
      alive = ap not (ne_eqb (version_at l) 0 (λ z. omega (arith, some_version (zoned (version_at l)), version)));
      keyed = record {
        some-kind = few.0;
        few_kinds = few.1;
        small = few.2;
        near = omega (arith, fine.sound.source, known-relays (kind_at l) (size_at l) (planned-known (kind_at l) (size_at l) there));
      };
    }

-- ---- what the check tells

-- a sheet that is read, and its key
pub record Checked (l : List ℕ) (kind size source : ℕ) : Type 0 where
  pub fine : against l ≡ none
  pub kind_is : kind ≡ kind_at l
  pub size_is : size ≡ size_at l
  pub source_is : source ≡ source_at l

module _ (l : List ℕ) where
  pub check_fan : (h : Head) → reading_told (Ok h) ≡ sheet_told l (check_against (version_of l) l) → Checked l h.mesh.kind h.mesh.size h.source
  unfolding against
  check_fan h t =
      let clean = told_none l (check_against (version_of l) l) {kind = h.mesh.kind} {size = h.mesh.size} {s = h.source} {k = h.paths} t in
      let all = t ∙ ap (sheet_told l) clean in
      record { fine = clean; kind_is = ap read_kind all; size_is = ap read_size all; source_is = ap read_source all }

  pub check_refused : (f : Flaw) → reading_told (Err f) ≡ sheet_told l (check_against (version_of l) l) → against l ≡ some f
  unfolding against
  check_refused f t = sym (told_flaw l (check_against (version_of l) l) {f = f} t)

  -- its key is one
  pub checked_keyed : {kind size source : ℕ} → Checked l kind size source → Keyed kind size source
  checked_keyed c =
      let k = (accepted l c.fine).keyed in
      record {
        some-kind = omega (arith, c.kind_is, k.some-kind);
        few_kinds = omega (arith, c.kind_is, k.few_kinds);
        small = omega (arith, c.size_is, k.small);
        near = omega (arith, c.source_is, k.near);
      }

  pub checked_key : {kind size source n : ℕ} → Checked l kind size source → n ≡ key kind size source → n ≡ key_at l
  checked_key {kind} {size} {source} c e = e ∙ ap₂ (λ (k z : ℕ). key k z source) c.kind_is c.size_is ∙ ap (key (kind_at l) (size_at l)) c.source_is
