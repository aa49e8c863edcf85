-- Case G (`case_g`): in the cube of 2 dimensions the paths 0, 2, 3 and 0, 1 are a fan from 0 to 3 and 1, and there is no other. Assumes nothing.
use Rattle.std.specs.Prelude.{ℕ, ◌≡◌, refl, List, [], ◌∷◌}
use Rattle.std.proofs.Common.{ap, ◌∙◌, inl, ⊎_elim, arith}
use Rattle.std.specs.Int.Count.{ones}
use Rattle.scan.specs.Scan.{seek, any, among}
use Rattle.paths.specs.Fan.{filler, relay, hops, Fan}
use Rattle.paths.specs.Finding.{finding_by, finding_from, finding_of, unlinked_at, seen_at, unfilled_at, unlinked, seen, twinned, on, unfilled}
use Rattle.paths.specs.Forced.{Links, other, links, first, onward, arrived, meets}
use Rattle.paths.proofs.Judged.{clean_fan}
use Rattle.paths.specs.Lists.{Lists}
use Rattle.paths.specs.Read.{read, fan_lists}
use Rattle.cube.specs.Cube.{linked, cube}

abbrev targets : List ℕ
targets = 3 ∷ 1 ∷ []

-- `read` gives the relays of a path after its source
pub record CaseG : Type 0 where
  pub is : Fan (cube 2) 0 targets (0 ∷ 2 ∷ 3 ∷ filler ∷ 0 ∷ 1 ∷ filler ∷ filler ∷ []) (2 ∷ 1 ∷ [])
  pub only : (places counts : List ℕ) → Fan (cube 2) 0 targets places counts → (read 4 places counts 0 ≡ 2 ∷ 3 ∷ []) × (read 4 places counts 1 ≡ 1 ∷ [])

of_0 : Links (cube 2) 0 1 2
unfolding other any seek linked ones
of_0 = links (cube 2) 0 1 2 refl

of_2 : Links (cube 2) 2 0 3
unfolding other any seek linked ones
of_2 = links (cube 2) 2 0 3 refl

module _ {paths : ℕ → List ℕ} (f : Lists (cube 2) 0 targets paths) where
  -- 1 ends the second path, so the first leaves 0 by 2, and goes on to 3
  one : paths 0 ≡ 2 ∷ 3 ∷ []
  one = ⊎_elim
      (λ z. absurd (f.apart 0 1 (omega arith) (omega arith) (λ e. omega arith) 1 (rw z.1 (inl refl)) (meets (cube 2) 0 1 (paths 1) (f.chain 1 (omega arith)) (λ e. omega arith))))
      (λ a.
      let b = onward {m = cube 2} a.0 a.2 (λ e. omega arith) of_2 in
      a.1 ∙ ap (λ (l : List ℕ). 2 ∷ l) (b.1 ∙ ap (λ (l : List ℕ). 3 ∷ l) (arrived {m = cube 2} b.0 b.2)))
      (first {m = cube 2} (paths 0) (f.chain 0 (omega arith)) (f.fresh 0 (omega arith)) (λ e. omega arith) of_0)

  -- 2 stands on the first path, so the second leaves 0 by 1
  two : paths 1 ≡ 1 ∷ []
  two = ⊎_elim
      (λ a. a.1 ∙ ap (λ (l : List ℕ). 1 ∷ l) (arrived {m = cube 2} a.0 a.2))
      (λ z. absurd (f.apart 0 1 (omega arith) (omega arith) (λ e. omega arith) 2 (rw one (inl refl)) (rw z.1 (inl refl))))
      (first {m = cube 2} (paths 1) (f.chain 1 (omega arith)) (f.fresh 1 (omega arith)) (λ e. omega arith) of_0)

pub case_g : CaseG
unfolding finding_by finding_from finding_of unlinked_at seen_at unfilled_at unlinked seen twinned on unfilled relay hops seek any among linked ones
case_g = record {
  is = clean_fan (cube 2) 0 targets (0 ∷ 2 ∷ 3 ∷ filler ∷ 0 ∷ 1 ∷ filler ∷ filler ∷ []) (2 ∷ 1 ∷ []) refl;
  only = λ places counts f. let l = fan_lists (cube 2) 0 targets places counts f in (one l, two l);
}
