-- Why a sheet's head is read as the definition says: its tests one by one. Assumes nothing.
use Rattle.std.specs.Prelude.{ℕ, ◌-◌, ◌≤◌, ◌<◌, ◌≡◌, refl, Bool, true, false, not, ◌≢◌, List, eqb, ltb, length}
use Rattle.std.proofs.Common.{sym, ap, ap₂, ◌∙◌, lt-ltb, le-ltb, eq-eqb, ne_eqb}
use Rattle.std.proofs.Math.Option.{none, some}
use Rattle.scan.specs.Scan.{pick}
use Rattle.mesh.specs.Kinds.{planned}
use Rattle.sheet.specs.Format.{HEAD, length_at, version_at, kind_at, size_at, count_at}
use Rattle.sheet.specs.Says.{flawed, lone}
use Rattle.sheet.specs.declared.Flaw.TheVariants as flaw
use Rattle.sheet_check.specs.Says.{cut, bad_count, count_against, mesh_at, head_against}

-- ---- how many paths

module _ (kind links k : ℕ) where
  count_is : (b : Bool) → bad_count links k ≡ b → flawed b flaw.Paths (flawed (lone kind k) flaw.Lone none) ≡ count_against kind links k
  count_is b e = ap (λ (x : Bool). flawed x flaw.Paths (flawed (lone kind k) flaw.Lone none)) (sym e)

  pub count_none : k ≡ 0 → some flaw.Paths ≡ count_against kind links k
  count_none e = count_is true (ap (λ (b : Bool). pick b true (ltb links k)) (eq-eqb k 0 e))

  pub count_many : k ≢ 0 → links < k → some flaw.Paths ≡ count_against kind links k
  count_many ne h = count_is true (ap (λ (b : Bool). pick b true (ltb links k)) (ne_eqb k 0 ne) ∙ lt-ltb links k h)

  -- what code has of a lone path
  module _ (ne : k ≢ 0) (h : k ≤ links) {r : Bool} (is : r ≡ lone kind k) where
    few_is : flawed r flaw.Lone none ≡ count_against kind links k
    few_is = ap (λ (x : Bool). flawed x flaw.Lone none) is ∙ count_is false (ap (λ (b : Bool). pick b true (ltb links k)) (ne_eqb k 0 ne) ∙ le-ltb links k h)

    pub count-lone : r ≡ true → some flaw.Lone ≡ count_against kind links k
    count-lone t = ap (λ (x : Bool). flawed x flaw.Lone none) (sym t) ∙ few_is

    pub count-fine : r ≡ false → none ≡ count_against kind links k
    count-fine f = ap (λ (x : Bool). flawed x flaw.Lone none) (sym f) ∙ few_is

-- ---- the head

module _ (v : ℕ) (l : List ℕ) where
  head_is : {a b c : Bool} → cut l ≡ a → not (eqb (version_at l) v) ≡ b → not (planned (kind_at l) (size_at l)) ≡ c
      → flawed a flaw.Cut (flawed b flaw.Version (flawed c flaw.NoMesh (count_against (kind_at l) (mesh_at l).links (count_at l)))) ≡ head_against v l
  head_is {a} {b} {c} p q r =
      ap (λ (x : Bool). flawed x flaw.Cut (flawed b flaw.Version (flawed c flaw.NoMesh (count_against (kind_at l) (mesh_at l).links (count_at l))))) (sym p)
      ∙ ap₂ (λ (x y : Bool). flawed (cut l) flaw.Cut (flawed x flaw.Version (flawed y flaw.NoMesh (count_against (kind_at l) (mesh_at l).links (count_at l))))) (sym q) (sym r)

  cut_is : (b : Bool) → ltb (length l) HEAD ≡ b → pick b true (not (eqb (length_at l) (length l - 4))) ≡ cut l
  cut_is b e = ap (λ (x : Bool). pick x true (not (eqb (length_at l) (length l - 4)))) (sym e)

  pub head_few : length l < HEAD → some flaw.Cut ≡ head_against v l
  head_few h = head_is (sym (cut_is true (lt-ltb (length l) HEAD h))) refl refl

  -- the length field, as code has it
  module _ (h : HEAD ≤ length l) {told : ℕ} (e : told ≡ length_at l) where
    long_is : (b : Bool) → eqb (length_at l) (length l - 4) ≡ b → cut l ≡ not b
    long_is b t = sym (cut_is false (le-ltb (length l) HEAD h)) ∙ ap not t

    pub head_long : told ≢ length l - 4 → some flaw.Cut ≡ head_against v l
    head_long ne = head_is (long_is false (ne_eqb (length_at l) (length l - 4) (λ t. ne (e ∙ t)))) refl refl

    module _ (t : told ≡ length l - 4) where
      uncut : cut l ≡ false
      uncut = long_is true (eq-eqb (length_at l) (length l - 4) (sym e ∙ t))

      pub head_version : version_at l ≢ v → some flaw.Version ≡ head_against v l
      head_version ne = head_is uncut (ap not (ne_eqb (version_at l) v ne)) refl

      module _ (own : version_at l ≡ v) {r : Bool} (k : r ≡ planned (kind_at l) (size_at l)) where
        pub head-unknown : r ≡ false → some flaw.NoMesh ≡ head_against v l
        head-unknown f = head_is uncut (ap not (eq-eqb (version_at l) v own)) (ap not (sym k ∙ f))

        pub head-known : r ≡ true → count_against (kind_at l) (mesh_at l).links (count_at l) ≡ head_against v l
        head-known f = head_is uncut (ap not (eq-eqb (version_at l) v own)) (ap not (sym k ∙ f))
