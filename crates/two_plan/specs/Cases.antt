-- Case H (`case_h`): in order 1 the paths 0, 1, 5, 4 and 0, 2, 3, 7, 6 are a fan from 0 to 4 and 6, and there is no other. Assumes nothing.
use Rattle.std.specs.Prelude.{ℕ, ◌≡◌, refl, List, [], ◌∷◌}
use Rattle.std.proofs.Common.{ap, ◌∙◌, inl, inr, ⊎_elim, arith}
use Rattle.std.specs.Int.Count.{ones, ones_in}
use Rattle.scan.specs.Scan.{seek, any, among}
use Rattle.paths.specs.Fan.{filler, relay, hops, Fan}
use Rattle.paths.specs.Finding.{finding_by, finding_from, finding_of, unlinked_at, seen_at, unfilled_at, unlinked, seen, twinned, on, unfilled}
use Rattle.paths.specs.Forced.{Links, At, other, links, first, onward, arrived, meets}
use Rattle.paths.proofs.Judged.{clean_fan}
use Rattle.paths.specs.Lists.{Lists}
use Rattle.paths.specs.Read.{read, fan_lists}
use Rattle.two_parts.specs.Two.{joined, linked, two}

abbrev targets : List ℕ
targets = 4 ∷ 6 ∷ []

abbrev rest : List ℕ → List ℕ
rest l = filler ∷ filler ∷ filler ∷ filler ∷ filler ∷ filler ∷ l

-- 11 places for each path
abbrev the_places : List ℕ
the_places = 0 ∷ 1 ∷ 5 ∷ 4 ∷ filler ∷ rest (0 ∷ 2 ∷ 3 ∷ 7 ∷ 6 ∷ rest [])

-- `read` gives the relays of a path after its source
pub record CaseH : Type 0 where
  pub is : Fan (two 1) 0 targets the_places (3 ∷ 4 ∷ [])
  pub only : (places counts : List ℕ) → Fan (two 1) 0 targets places counts → (read 11 places counts 0 ≡ 1 ∷ 5 ∷ 4 ∷ []) × (read 11 places counts 1 ≡ 2 ∷ 3 ∷ 7 ∷ 6 ∷ [])

-- the links of the relays that have a path through them
pub record Ring : Type 0 where
  pub of_0 : Links (two 1) 0 1 2
  pub of_1 : Links (two 1) 1 0 5
  pub of_5 : Links (two 1) 5 1 4
  pub of_2 : Links (two 1) 2 0 3
  pub of_3 : Links (two 1) 3 2 7
  pub of_7 : Links (two 1) 7 3 6

ring : Ring
unfolding other any seek linked joined ones ones_in
ring = record {
  of_0 = links (two 1) 0 1 2 refl;
  of_1 = links (two 1) 1 0 5 refl;
  of_5 = links (two 1) 5 1 4 refl;
  of_2 = links (two 1) 2 0 3 refl;
  of_3 = links (two 1) 3 2 7 refl;
  of_7 = links (two 1) 7 3 6 refl;
}

abbrev put : ℕ → List ℕ → List ℕ
put x l = x ∷ l

-- a path that leaves 0 by 1 and ends at 4
by_1 : (l : List ℕ) → At (two 1) 0 1 4 l → 1 ∷ l ≡ 1 ∷ 5 ∷ 4 ∷ []
by_1 l a =
    let b = onward l a (λ e. omega arith) ring.of_1 in
    let c = onward b.0 b.2 (λ e. omega arith) ring.of_5 in
    ap (put 1) (b.1 ∙ ap (put 5) (c.1 ∙ ap (put 4) (arrived c.0 c.2)))

-- a path that leaves 0 by 2 comes to 6, where it ends at neither of 2, 3, 7
by_2 : (t : ℕ) (l : List ℕ) → At (two 1) 0 2 t l → (2 ≡ t → ⊥) → (3 ≡ t → ⊥) → (7 ≡ t → ⊥) → (r : List ℕ) × (2 ∷ l ≡ 2 ∷ 3 ∷ 7 ∷ 6 ∷ r) × At (two 1) 7 6 t r
by_2 t l a ne-2 ne-3 ne-7 =
    let b = onward l a ne-2 ring.of_2 in
    let c = onward b.0 b.2 ne-3 ring.of_3 in
    let d = onward c.0 c.2 ne-7 ring.of_7 in
    (d.0, ap (put 2) (b.1 ∙ ap (put 3) (c.1 ∙ ap (put 7) d.1)), d.2)

module _ {paths : ℕ → List ℕ} (f : Lists (two 1) 0 targets paths) where
  -- by 2 the first path would meet 6, which ends the second
  one : paths 0 ≡ 1 ∷ 5 ∷ 4 ∷ []
  one = ⊎_elim
      (λ a. a.1 ∙ by_1 a.0 a.2)
      (λ a.
      let b = by_2 4 a.0 a.2 (λ e. omega arith) (λ e. omega arith) (λ e. omega arith) in
      absurd (f.apart 0 1 (omega arith) (omega arith) (λ e. omega arith) 6 (rw (a.1 ∙ b.1) (inr (inr (inr (inl refl))))) (meets (two 1) 0 6 (paths 1) (f.chain 1 (omega arith)) (λ e. omega arith))))
      (first (paths 0) (f.chain 0 (omega arith)) (f.fresh 0 (omega arith)) (λ e. omega arith) ring.of_0)

  -- 1 stands on the first path, so the second leaves 0 by 2
  another : paths 1 ≡ 2 ∷ 3 ∷ 7 ∷ 6 ∷ []
  another = ⊎_elim
      (λ z. absurd (f.apart 0 1 (omega arith) (omega arith) (λ e. omega arith) 1 (rw one (inl refl)) (rw z.1 (inl refl))))
      (λ a.
      let b = by_2 6 a.0 a.2 (λ e. omega arith) (λ e. omega arith) (λ e. omega arith) in
      a.1 ∙ b.1 ∙ ap (λ (l : List ℕ). 2 ∷ 3 ∷ 7 ∷ 6 ∷ l) (arrived b.0 b.2))
      (first (paths 1) (f.chain 1 (omega arith)) (f.fresh 1 (omega arith)) (λ e. omega arith) ring.of_0)

pub case_h : CaseH
unfolding finding_by finding_from finding_of unlinked_at seen_at unfilled_at unlinked seen twinned on unfilled relay hops seek any among linked joined ones ones_in
case_h = record {
  is = clean_fan (two 1) 0 targets the_places (3 ∷ 4 ∷ []) refl;
  only = λ places counts f. let l = fan_lists (two 1) 0 targets places counts f in (one l, another l);
}
