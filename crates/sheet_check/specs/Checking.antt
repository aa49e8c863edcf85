-- Why the paths after a head are checked as the definition says: they are looked through (`paths-flawed`), and then judged in room of their own
-- (`paths_judgeable`, `paths-fan`, `paths-not`). Assumes nothing.
use Rattle.std.specs.Prelude.{ℕ, ◌+◌, ◌*◌, ◌≡◌, refl, Bool, true, false, ◌≢◌, List, eqb, Ok, Err}
use Rattle.std.proofs.Common.{sym, ap, ap₂, ◌∙◌, mul-le-mul_right, arith, eq-eqb, ne_eqb}
use Rattle.std.proofs.Math.Option.{Option, none, some}
use Rattle.scan.specs.Scan.{pick}
use Rattle.paths.specs.Mesh.{Mesh}
use Rattle.mesh.specs.Kinds.{mesh_of}
use Rattle.mesh.specs.Limits.{most_links, most_places, planned-links, known-width, planned-places}
use Rattle.mesh.specs.declared.Mesh as code
use Rattle.judge.specs.Says.{Ruling, ruling, number_of, path_of, place_of}
use Rattle.sheet.specs.Format.{HEAD, kind_at, size_at, count_at, paths_at}
use Rattle.sheet.specs.Says.{before, reads, reading_told}
use Rattle.sheet.specs.declared.Flaw.{Flaw}
use Rattle.sheet_take.specs.Says.{looked}
use Rattle.sheet_check.specs.Says.{ruling_of, flaw_in, ruled, mesh_at, sheet_ruling, paths_against, sheet_told}
use Rattle.sheet_check.specs.Needs.{Bodied, Judgeable}
use Rattle.sheet_check.specs.Bodied.{mesh_is, body-planned, body-known, body-few}

-- number, path and place are all that a ruling has
ruling_back : (n i p : ℕ) (r : Ruling) → n ≡ number_of r → i ≡ path_of r → p ≡ place_of r → ruling n i p ≡ r
ruling_back n i p (ruling x y z) a b c = ap₂ (λ (x y : ℕ). ruling x y p) a b ∙ ap (ruling x y) c

module _ {v : ℕ} {l : List ℕ} {kind size s k : ℕ} (b : Bodied v l kind size s k) {longest : ℕ} (e : longest ≡ (mesh_of kind size).longest) where
  pub looked_is : looked v longest l HEAD 0 k ≡ looked v (mesh_at l).longest l HEAD 0 (count_at l)
  looked_is = ap₂ (λ (x n : ℕ). looked v x l HEAD 0 n) (e ∙ ap (λ (m : Mesh). m.longest) (mesh_is b)) b.count_is

  paths_is : {o x : Option Flaw} → o ≡ looked v longest l HEAD 0 k → x ≡ ruled (sheet_ruling v l) → before o x ≡ paths_against v l
  paths_is p q = ap₂ before (p ∙ looked_is) q

  pub paths-flawed : {g : Flaw} → some g ≡ looked v longest l HEAD 0 k → reading_told (Err g) ≡ sheet_told l (paths_against v l)
  paths-flawed h = ap (sheet_told l) (paths_is {x = ruled (sheet_ruling v l)} h refl)

  module _ (h : none ≡ looked v longest l HEAD 0 k) where
    pub paths_judgeable : Judgeable v l kind size longest k most_places most_links most_links
    paths_judgeable =
        let all = mul-le-mul_right (longest + 1) (body-few b) in
        record {
          wide = e;
          taken = record {
            sound = sym h;
            small = omega (arith, e, known-width kind size (body-known b));
            room = omega (arith, all, planned-places kind size (body-planned b), ap (λ (x : ℕ). (mesh_of kind size).links * (x + 1)) e);
            counted = omega (arith, body-few b, planned-links kind size (body-planned b));
            aimed = omega (arith, body-few b, planned-links kind size (body-planned b));
          };
        }

    -- the verdict, and its number as code has it
    module _ {r : Ruling} {n : ℕ} (g : r ≡ ruling_of kind size s (paths_at v l HEAD k)) (is : n ≡ number_of r) where
      ruling_is : r ≡ sheet_ruling v l
      ruling_is =
          g ∙ ap₂ (λ (x y : ℕ). ruling_of x y s (paths_at v l HEAD k)) b.kind_is b.size_is
          ∙ ap₂ (λ (x y : ℕ). ruling_of (kind_at l) (size_at l) x (paths_at v l HEAD y)) b.source_is b.count_is

      -- what the verdict is told as
      ruled_is : (y : Bool) → eqb n 0 ≡ y → pick y none (some (flaw_in r)) ≡ ruled (sheet_ruling v l)
      ruled_is y f = ap (λ (x : Bool). pick x none (some (flaw_in r))) (sym f ∙ ap (λ (x : ℕ). eqb x 0) is) ∙ ap ruled ruling_is

      pub paths-fan : {m : code.Mesh} → m.kind ≡ kind → m.size ≡ size → n ≡ 0 → reading_told (Ok (record { mesh = m; source = s; paths = k })) ≡ sheet_told l (paths_against v l)
      paths-fan {m} mk ms z =
          ap₂ (λ (x y : ℕ). reads 0 0 0 x y s k) (mk ∙ b.kind_is) (ms ∙ b.size_is) ∙ ap₂ (reads 0 0 0 (kind_at l) (size_at l)) b.source_is b.count_is
          ∙ ap (sheet_told l) (paths_is h (ruled_is true (eq-eqb n 0 z)))

      -- path and place as code has them too
      pub paths-not : {i p : ℕ} {f : Flaw} → n ≢ 0 → i ≡ path_of r → p ≡ place_of r → f ≡ flaw_in (ruling n i p)
          → reading_told (Err f) ≡ sheet_told l (paths_against v l)
      paths-not {i} {p} ne j q e =
          ap (λ (x : Flaw). reading_told (Err x)) (e ∙ ap flaw_in (ruling_back n i p r is j q))
          ∙ ap (sheet_told l) (paths_is h (ruled_is false (ne_eqb n 0 ne)))
