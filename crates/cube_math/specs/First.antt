-- The first hops of a fan go through different doors (`first_differ`); with as many paths as open doors each is used (`first-all`). Assumes nothing.
use Rattle.std.specs.Prelude.{ℕ, ◌+◌, ◌-◌, ◌≤◌, ◌≡◌, refl, List}
use Rattle.std.proofs.Common.{sym, ap, ◌∙◌, subst, ⊎_elim, arith}
use Rattle.std.specs.Int.Count.{ones}
use Rattle.bits.specs.Bit.{bit, flip}
use Rattle.bits.specs.Laws.{bit-lt, bit-none, flip-other, ones_clear, ones_none, ones-zero, same_or}
use Rattle.cube_math.specs.Doors.{Door, Doors}
use Rattle.cube_math.specs.Paths.{in_cast, in_first}
use Rattle.cube_math.specs.Masks.{mask_ind, less, bit-less}
use Rattle.cube_math.specs.Choose.{cleared, gather, ones-less}

-- different members with different values in a set: it has no fewer members
pub no_fewer : (R : ℕ → ℕ → Type 0) (m r : ℕ) → ((j : ℕ) → bit j m ≡ 1 → (i : ℕ) × R j i × (bit i r ≡ 1)) → ((j k i : ℕ) → R j i → R k i → j ≡ k) → ones m ≤ ones r
no_fewer R = mask_ind
    (λ (m : ℕ). (r : ℕ) → ((j : ℕ) → bit j m ≡ 1 → (i : ℕ) × R j i × (bit i r ≡ 1)) → ((j k i : ℕ) → R j i → R k i → j ≡ k) → ones m ≤ ones r)
    (λ r g one. omega (arith, ones-zero))
    (λ m j o ih r g one.
    let x = g j o in
    let rest = ih (flip r x.0) (λ c p.
    let q = cleared m j o c p in
    let u = g c q.0 in
    (u.0, u.1, flip-other r x.0 u.0 (λ e. q.1 (one c j x.0 (subst (R c) e u.1) x.1)) ∙ u.2)) one in
    omega (arith, ones_clear j m o, ones_clear x.0 r x.2))

-- a part with as many members is the whole
pub part-all : (a r : ℕ) → ((i : ℕ) → bit i r ≡ 1 → bit i a ≡ 1) → ones a ≤ ones r → (i : ℕ) → bit i a ≡ 1 → bit i r ≡ 1
part-all a r sub h i o =
    let none : less a r ≡ 0 = ones_none (less a r) (omega (arith, ones-less a r sub)) in
    omega (arith, bit-less i a r, ap (bit i) none, bit-none i, bit-lt i r)

module _ (n free s shut m : ℕ) (to : ℕ → ℕ) (hops : ℕ → List ℕ) (d : Doors n free s shut m to hops) where
  -- the path of j, a member, begins through the door i
  pub record Begins (j i : ℕ) : Type 0 where
    pub member : bit j m ≡ 1
    pub via : Door free s shut (hops j)
    pub is : via.dim ≡ i

  pub first_differ : (j k i : ℕ) → Begins j i → Begins k i → j ≡ k
  first_differ j k i a b =
      ⊎_elim (λ e. e)
      (λ ne. absurd (d.apart j k a.member b.member ne (flip s i)
      (in_cast (hops j) (ap (flip s) a.is) (in_first a.via.first)) (in_cast (hops k) (ap (flip s) b.is) (in_first b.via.first))))
      (same_or j k)

  pub first-all : ((i : ℕ) → bit i shut ≡ 1 → bit i free ≡ 1) → ones free ≤ ones m + ones shut → (i : ℕ) → bit i free ≡ 1 → bit i shut ≡ 0 → (j : ℕ) × Begins j i
  first-all held full i o z =
      let g = gather Begins m (λ j p. let w = d.each j p in (w.door.dim, record { member = p; via = w.door; is = refl })) in
      let inside : (c : ℕ) → bit c g.0 ≡ 1 → bit c (less free shut) ≡ 1 = λ c p.
      let b = (g.1.from c p).2 in
      let e : bit c (less free shut) ≡ bit c free - bit c shut = bit-less c free shut in
      let f : bit c free ≡ 1 = ap (λ (y : ℕ). bit y free) (sym b.is) ∙ b.via.within in
      let h : bit c shut ≡ 0 = ap (λ (y : ℕ). bit y shut) (sym b.is) ∙ b.via.ajar in
      omega arith in
      let many : ones m ≤ ones g.0 = no_fewer Begins m g.0 g.1.uses first_differ in
      let all = part-all (less free shut) g.0 inside (omega (arith, ones-less free shut held)) i (omega (arith, bit-less i free shut)) in
      ((g.1.from i all).0, (g.1.from i all).2)
