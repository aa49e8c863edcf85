-- What a head with nothing wrong says of its sheet (`head_bodied`, and `body-known` to `body_small`), and what is wrong with a head is told of the
-- sheet (`head-flawed`). Assumes nothing.
use Rattle.std.specs.Prelude.{ℕ, ◌-◌, ◌≤◌, ◌≡◌, refl, true, false, not, ◌≢◌, List, eqb, ltb, length, Result, Ok, Err}
use Rattle.std.proofs.Common.{sym, ap, ap₂, ◌∙◌, arith, ltb-false}
use Rattle.std.proofs.Math.Option.{Option, none, some}
use Rattle.std.proofs.lemmas.Bool.{eqb-false, not-false}
use Rattle.paths.specs.Mesh.{Mesh, width}
use Rattle.mesh.specs.Kinds.{mesh_of, known, planned}
use Rattle.mesh.specs.Laws.{planned-known}
use Rattle.mesh.specs.Limits.{known-width}
use Rattle.mesh.specs.Requests.{neither_wanting}
use Rattle.sheet.specs.Format.{HEAD, length_at, version_at, kind_at, size_at, count_at}
use Rattle.sheet.specs.Says.{flaw_number, before, read_number, read_kind, read_size, read_source, read_count, reading_told}
use Rattle.sheet.specs.Flaws.{flaw_some, flawed-none}
use Rattle.sheet.specs.declared.Flaw.{Flaw}
use Rattle.sheet.specs.declared.Head.{Head}
use Rattle.sheet.specs.declared.Flaw.TheVariants as flaw
use Rattle.sheet_check.specs.Says.{cut, bad_count, mesh_at, head_against, paths_against, check_against, sheet_told}
use Rattle.sheet_check.specs.Needs.{Bodied}
use Rattle.sheet_check.specs.Told.{told_flaw}

module _ (v : ℕ) (l : List ℕ) where
  -- the head is read
  pub head_bodied : (h : Head) → reading_told (Ok h) ≡ sheet_told l (head_against v l) → Bodied v l h.mesh.kind h.mesh.size h.source h.paths
  head_bodied h t = go (head_against v l) refl t
    where
      go : (o : Option Flaw) → head_against v l ≡ o → reading_told (Ok h) ≡ sheet_told l o → Bodied v l h.mesh.kind h.mesh.size h.source h.paths
      go none e g = record { head = e; kind_is = ap read_kind g; size_is = ap read_size g; source_is = ap read_source g; count_is = ap read_count g }
      go (some f) e g = absurd (eqb-false (flaw_number f) 0 (flaw_some f) (sym (ap read_number g)))

  -- what is wrong with the head
  pub head_flaw : {f : Flaw} → reading_told (Err f) ≡ sheet_told l (head_against v l) → some f ≡ head_against v l
  head_flaw {f} t = told_flaw l (head_against v l) {f = f} t

  pub head-flawed : (f : Flaw) → reading_told (Err f) ≡ sheet_told l (head_against v l) → reading_told (Err f) ≡ sheet_told l (check_against v l)
  head-flawed f t = ap (λ (o : Option Flaw). sheet_told l (before o (paths_against v l))) (head_flaw {f = f} t)

-- ---- what a head with nothing wrong says

module _ {v : ℕ} {l : List ℕ} {kind size s k : ℕ} (b : Bodied v l kind size s k) where
  faultless : (cut l ≡ false) × (planned (kind_at l) (size_at l) ≡ true) × (bad_count (mesh_at l).links (count_at l) ≡ false)
  faultless =
      let p = flawed-none (cut l) flaw.Cut _ b.head in
      let q = flawed-none (not (eqb (version_at l) v)) flaw.Version _ p.1 in
      let r = flawed-none (not (planned (kind_at l) (size_at l))) flaw.NoMesh _ q.1 in
      let t = flawed-none (bad_count (mesh_at l).links (count_at l)) flaw.Paths _ r.1 in
      (p.0, not-false (planned (kind_at l) (size_at l)) r.0, t.0)

  pub mesh_is : mesh_of kind size ≡ mesh_at l
  mesh_is = ap₂ mesh_of b.kind_is b.size_is

  pub body-planned : planned kind size ≡ true
  body-planned = ap₂ planned b.kind_is b.size_is ∙ faultless.1

  pub body-known : known kind size ≡ true
  body-known = planned-known kind size body-planned

  counted : (eqb (count_at l) 0 ≡ false) × (ltb (mesh_at l).links (count_at l) ≡ false)
  counted = neither_wanting (eqb (count_at l) 0) (ltb (mesh_at l).links (count_at l)) refl faultless.2

  pub body-some : k ≢ 0
  body-some z = eqb-false (count_at l) 0 counted.0 (sym b.count_is ∙ z)

  pub body-few : k ≤ (mesh_of kind size).links
  body-few = omega (arith, ltb-false (mesh_at l).links (count_at l) counted.1, ap (λ (m : Mesh). m.links) mesh_is, b.count_is)

  pub body_long : HEAD ≤ length l
  body_long = ltb-false (length l) HEAD (neither_wanting (ltb (length l) HEAD) (not (eqb (length_at l) (length l - 4))) refl faultless.0).0

  -- a longest path of code, which is one less than the places
  module _ {w : ℕ} (e : w ≡ width (mesh_of kind size)) where
    pub longest_is : w - 1 ≡ (mesh_of kind size).longest
    longest_is = omega (arith, e)

    pub body_small : w - 1 ≤ 206
    body_small = omega (arith, e, known-width kind size body-known)

  -- what is told of the paths is told of the sheet
  pub body_checked : (r : Result Head Flaw) → reading_told r ≡ sheet_told l (paths_against v l) → reading_told r ≡ sheet_told l (check_against v l)
  body_checked r t = t ∙ ap (λ (o : Option Flaw). sheet_told l (before o (paths_against v l))) (sym b.head)
