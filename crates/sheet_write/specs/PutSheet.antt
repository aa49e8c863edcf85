-- Why `lay_sheet` keeps its promise: what it asks of the functions that it calls, and the pieces put together (`put_done`). Assumes nothing.
use Rattle.std.specs.Prelude.{ℕ, ◌+◌, ◌≤◌, ◌<◌, ◌≡◌, refl, Bool, true, false, List, ◌++◌, ltb, length, drop, Ok, Err}
use Rattle.std.proofs.Common.{sym, ap, ap₂, ◌∙◌, subst, zero-add, arith, lt-ltb, le-ltb}
use Rattle.std.proofs.Math.Option.{Option, none}
use Rattle.std.proofs.lemmas.List.Edits.{sets, sets-eq}
use Rattle.scan.specs.Runs.{sets_append}
use Rattle.paths.specs.Mesh.{width}
use Rattle.cube.specs.Sizes.{known-most}
use Rattle.two_parts.specs.Parts.{known_bounds}
use Rattle.mesh.specs.Kinds.{Kind, mesh_of}
use Rattle.mesh.specs.Laws.{planned_case}
use Rattle.sheet.specs.Format.{paths_bytes, paths_of}
use Rattle.sheet.specs.Lengths.{sheet-length, paths_from-length}
use Rattle.sheet.specs.Says.{flawed, settled, wrote, tell_written, version_number}
use Rattle.sheet.specs.declared.Flaw.{Flaw}
use Rattle.sheet.specs.declared.Version.{Version}
use Rattle.sheet.specs.declared.Version.TheVariants.{One, Two}
use Rattle.sheet.specs.declared.Flaw.TheVariants as flaw
use Rattle.sheet_put.specs.Needs.{Paths}
use Rattle.sheet_put.specs.Total.{total, paths-total, total-most}
use Rattle.sheet_write.specs.Heads.{head_bytes, head-length, sheet_is}
use Rattle.sheet_write.specs.Needs.{Sheeted}
use Rattle.sheet_write.specs.Says.{bytes_in, lay_against, Laid}

-- a version takes a byte
pub number_small : (v : Version) → version_number v < 256
number_small One = omega arith
number_small Two = omega arith

module _ (v : ℕ) (zones : List ℕ) (kind size s k : ℕ) (places counts out : List ℕ) (a : Sheeted kind size k (length places) counts) where
  abbrev w : ℕ
  w = width (mesh_of kind size)

  abbrev ps : List (List ℕ)
  ps = paths_of w places counts k

  pub put_small : total v counts k ≤ 52928
  put_small = omega (arith, total-most v a.paths.headed k (omega arith), a.paths.headed.few)

  pub paths-asked : {x : ℕ} → x ≡ w → Paths x k (length places) counts
  paths-asked e = subst (λ (y : ℕ). Paths y k (length places) counts) (sym e) a.paths

  -- kind, size and how many paths take a byte each
  single : (kind < 256) × (size < 256)
  single = planned_case kind size a.planned (λ (k : ℕ) (K : Kind). (k < 256) × (size < 256))
      (λ h. let most = known-most size refl h in (omega arith, omega arith))
      (λ h. let most = (known_bounds size h).1 in (omega arith, omega arith))

  module _ {n : ℕ} (e : n ≡ total v counts k) where
    long : length (bytes_in v zones kind size s k places counts) ≡ n + 16
    long = sheet-length v kind size s zones ps ∙ ap (λ (x : ℕ). x + 16) (paths-total v w places counts zones k ∙ sym e)

    against_is : (b : Bool) → ltb (length out) (n + 16) ≡ b → lay_against v zones kind size s k places counts out ≡ flawed b flaw.NoRoom none
    against_is b f = ap (λ (x : Bool). flawed x flaw.NoRoom none) (ap (ltb (length out)) long ∙ f)

    pub put_refused : length out < n + 16 → Laid v zones kind size s k places counts out (Err flaw.NoRoom) out
    put_refused l =
        let o = against_is true (lt-ltb (length out) (n + 16) l) in
        record {
          told = ap (λ (x : Option Flaw). tell_written x (length (bytes_in v zones kind size s k places counts))) (sym o);
          held = ap (λ (x : Option Flaw). settled x (bytes_in v zones kind size s k places counts ++ drop (length (bytes_in v zones kind size s k places counts)) out) out) (sym o);
        }

    pub put_done : {x : ℕ} {out₁ out₂ : List ℕ} → v < 256 → n + 16 ≤ length out → x ≡ w → out₁ ≡ sets out 0 (head_bytes v kind size s k n)
        → out₂ ≡ sets out₁ 16 (paths_bytes v zones (paths_of x places counts k)) → Laid v zones kind size s k places counts out (Ok (n + 16)) out₂
    put_done {x} {out₁} {out₂} small l wide p q =
        let o = against_is false (le-ltb (length out) (n + 16) l) in
        record {
          told = ap (wrote 0 0 0) (sym long) ∙ ap (λ (x : Option Flaw). tell_written x (length (bytes_in v zones kind size s k places counts))) (sym o);
          held = whole ∙ ap (λ (x : Option Flaw). settled x (bytes_in v zones kind size s k places counts ++ drop (length (bytes_in v zones kind size s k places counts)) out) out) (sym o);
        }
      where
        counted : length ps ≡ k
        counted = paths_from-length w places counts 0 k

        headed : head_bytes v kind size s k n ≡ head_bytes v kind size s (length ps) (length (paths_bytes v zones ps))
        headed = ap₂ (head_bytes v kind size s) (sym counted) (e ∙ sym (paths-total v w places counts zones k))

        whole : out₂ ≡ bytes_in v zones kind size s k places counts ++ drop (length (bytes_in v zones kind size s k places counts)) out
        whole =
            q ∙ ap₂ (λ (x : List ℕ) (y : ℕ). sets x 16 (paths_bytes v zones (paths_of y places counts k))) p wide
            ∙ ap (λ (x : ℕ). sets (sets out 0 (head_bytes v kind size s k n)) x (paths_bytes v zones ps)) (sym (head-length v kind size s k n) ∙ sym (zero-add (length (head_bytes v kind size s k n))))
            ∙ sym (sets_append out 0 (head_bytes v kind size s k n) (paths_bytes v zones ps))
            ∙ ap (sets out 0) (ap (λ (x : List ℕ). x ++ paths_bytes v zones ps) headed ∙ sheet_is v zones kind size s ps small single.0 single.1 (omega (arith, counted, a.paths.headed.few)))
            ∙ sets-eq (bytes_in v zones kind size s k places counts) out 0 (omega (arith, long))
            ∙ ap (λ (x : ℕ). bytes_in v zones kind size s k places counts ++ drop x out) (zero-add (length (bytes_in v zones kind size s k places counts)))
