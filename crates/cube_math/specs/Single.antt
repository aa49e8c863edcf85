-- One path through a given door, built from its end: what a loop that builds it keeps (`Tail`, `tail_more`, `tail-way`); and families of no path and of
-- one (`nothing`, `alone`). Assumes nothing.
use Rattle.std.specs.Prelude.{ℕ, zero, suc, ◌+◌, ◌-◌, ◌≤◌, ◌<◌, ◌≡◌, refl, ◌⊎◌, ◌≢◌, List, [], ◌∷◌, length}
use Rattle.std.proofs.Common.{sym, ap, ◌∙◌, subst, inl, inr, ⊎_elim, arith}
use Rattle.std.specs.Int.Bits.{bit_xor, differ}
use Rattle.std.specs.Int.Count.{ones}
use Rattle.bits.specs.Bit.{bit, flip}
use Rattle.bits.specs.Laws.{bit-lt, bit-none, bit-xor, clash, flip-other, flip-flip, flip-xor, ones_clear, ones_none, ones-zero, xor-zero-eq, same_or, flip_turns}
use Rattle.cube_math.specs.Doors.{In, Fresh, Walk, Way, Doors}
use Rattle.cube_math.specs.Paths.{off_on}
use Rattle.cube_math.specs.Masks.{some-bit, ones_mono}

-- in how many bits x and y differ
unfoldable pub rank : ℕ → ℕ → ℕ
rank y x = ones (bit_xor x y)

pub differ_one : (x y : ℕ) → x < 2 → y < 2 → x ≢ y → differ x y ≡ 1
differ_one zero zero h g ne = absurd (ne refl)
differ_one zero (suc zero) h g ne = refl
differ_one zero (suc (suc y)) h g ne = absurd (omega arith)
differ_one (suc zero) zero h g ne = refl
differ_one (suc zero) (suc zero) h g ne = absurd (ne refl)
differ_one (suc zero) (suc (suc y)) h g ne = absurd (omega arith)
differ_one (suc (suc x)) y h g ne = absurd (omega arith)

pub differ_two : (x y : ℕ) → differ x y ≡ 1 → x ≢ y
differ_two zero zero h e = omega arith
differ_two zero (suc y) h e = omega arith
differ_two (suc x) zero h e = omega arith
differ_two (suc x) (suc y) h e = differ_two x y h (omega arith)

pub bit_differs : (c x y : ℕ) → bit c x ≢ bit c y → bit c (bit_xor x y) ≡ 1
bit_differs c x y ne = bit-xor c x y ∙ differ_one (bit c x) (bit c y) (bit-lt c x) (bit-lt c y) ne

pub differs_bit : (c x y : ℕ) → bit c (bit_xor x y) ≡ 1 → bit c x ≢ bit c y
differs_bit c x y o = differ_two (bit c x) (bit c y) (sym (bit-xor c x y) ∙ o)

pub rank_less : (goal u c : ℕ) → bit c u ≢ bit c goal → rank goal (flip u c) + 1 ≡ rank goal u
unfolding rank
rank_less goal u c ne = ap (λ (x : ℕ). ones x + 1) (flip-xor u c goal) ∙ ones_clear c (bit_xor u goal) (bit_differs c u goal ne)

-- the end of a path to d, from u on; towards its front it comes nearer to `goal`, and but for d it has the bit i of `goal`
pub record Tail (free goal i d u : ℕ) (l : List ℕ) : Type 0 where
  pub walk : Walk free u d l
  pub fresh : Fresh (u ∷ l)
  pub nearer : (x : ℕ) → In x (u ∷ l) → rank goal u ≤ rank goal x
  pub hops : length l + rank goal u ≡ rank goal d
  pub turned : (x : ℕ) → In x (u ∷ l) → (bit i x ≡ bit i goal) ⊎ (x ≡ d)
  pub inside : (c : ℕ) → bit c u ≢ bit c goal → bit c free ≡ 1

pub tail_none : (free goal i d : ℕ) → ((c : ℕ) → bit c d ≢ bit c goal → bit c free ≡ 1) → Tail free goal i d d []
tail_none free goal i d h = record {
  walk = refl;
  fresh = ((λ g. g), tt);
  nearer = λ x g. ⊎_elim (λ e. omega (arith, ap (rank goal) e)) (λ z. absurd z) g;
  hops = omega arith;
  turned = λ x g. ⊎_elim (λ e. inr e) (λ z. absurd z) g;
  inside = h;
}

-- one relay more in front
pub tail_more : {free goal i d u : ℕ} {l : List ℕ} (c : ℕ) → Tail free goal i d u l → bit c u ≢ bit c goal → bit i (flip u c) ≡ bit i goal
    → Tail free goal i d (flip u c) (u ∷ l)
tail_more {free} {goal} {i} {d} {u} {l} c t ne e =
    let r = rank_less goal u c ne in
    record {
      walk = (c, t.inside c ne, sym (flip-flip u c), t.walk);
      fresh = ((λ h. omega (arith, t.nearer (flip u c) h)), t.fresh);
      nearer = λ x h. ⊎_elim (λ q. omega (arith, ap (rank goal) q)) (λ q. omega (arith, t.nearer x q)) h;
      hops = omega (arith, t.hops);
      turned = λ x h. ⊎_elim (λ q. inl (ap (bit i) q ∙ e)) (t.turned x) h;
      inside = λ k q. ⊎_elim (λ z. subst (λ (y : ℕ). bit y free ≡ 1) (sym z) (t.inside c ne)) (λ z. t.inside k (λ y. q (flip-other u c k z ∙ y))) (same_or k c);
    }

-- then every other
pub tail_all : {free goal i d : ℕ} (r u : ℕ) (l : List ℕ) → rank goal u ≡ r → bit i u ≡ bit i goal → Tail free goal i d u l
    → (q : List ℕ) × Tail free goal i d goal q
unfolding rank
tail_all {free} {goal} {i} {d} zero u l z e t = (l, subst (λ (y : ℕ). Tail free goal i d y l) (xor-zero-eq u goal (ones_none (bit_xor u goal) z)) t)
tail_all {free} {goal} {i} {d} (suc r) u l z e t =
    let x = some-bit (bit_xor u goal) (λ y. omega (arith, ap ones y, ones-zero)) in
    let ne : bit x.0 u ≢ bit x.0 goal = differs_bit x.0 u goal x.1 in
    let keep : bit i (flip u x.0) ≡ bit i goal = flip-other u x.0 i (λ y. ne (subst (λ (w : ℕ). bit w u ≡ bit w goal) y e)) ∙ e in
    tail_all r (flip u x.0) (u ∷ l) (omega (arith, rank_less goal u x.0 ne)) keep (tail_more x.0 t ne keep)

-- the whole path, through the open door i
pub tail-way : {free s i d : ℕ} {l : List ℕ} (n shut : ℕ) → Tail free (flip s i) i d (flip s i) l → bit i free ≡ 1 → bit i shut ≡ 0 → s ≢ d
    → rank (flip s i) d ≤ n → Way n free s shut d (flip s i ∷ l)
tail-way {free} {s} {i} {d} {l} n shut t o z ne h =
    record {
      walk = (i, o, refl, t.walk);
      short = omega (arith, t.hops);
      away = λ g. ⊎_elim (λ e. flip_turns s i (sym e)) ne (t.turned s g);
      fresh = t.fresh;
      door = record { dim = i; within = o; ajar = z; rest = l; first = refl };
      shuns = λ j q g. ⊎_elim (λ e. absurd (flip_turns s i (sym e ∙ flip-other s j i (off_on i j shut z q)))) (λ e. e) (t.turned (flip s j) g);
    }

-- a target in the cube differs from a neighbour of s in bits of `free` only, and in at most as many as there are
pub rank-le : (free goal d : ℕ) → ((c : ℕ) → bit c d ≢ bit c goal → bit c free ≡ 1) → rank goal d ≤ ones free
unfolding rank
rank-le free goal d h = ones_mono (bit_xor d goal) free (λ c o. h c (differs_bit c d goal o))

pub inside-flip : (free s i d : ℕ) → bit i free ≡ 1 → ((c : ℕ) → bit c d ≢ bit c s → bit c free ≡ 1) → (c : ℕ) → bit c d ≢ bit c (flip s i) → bit c free ≡ 1
inside-flip free s i d o h c ne =
    ⊎_elim (λ e. subst (λ (y : ℕ). bit y free ≡ 1) (sym e) o) (λ z. h c (λ e. ne (e ∙ sym (flip-other s i c z)))) (same_or c i)

-- a family of no path
pub nothing : {n free s shut m : ℕ} {to : ℕ → ℕ} (hops : ℕ → List ℕ) → m ≡ 0 → Doors n free s shut m to hops
nothing hops z = record {
  each = λ j o. absurd (clash (ap (bit j) z ∙ bit-none j) o);
  apart = λ i j o. absurd (clash (ap (bit i) z ∙ bit-none i) o);
}

-- a family of one path
pub alone : {n free s shut m : ℕ} {to : ℕ → ℕ} {hops : ℕ → List ℕ} (j : ℕ) → ((c : ℕ) → bit c m ≡ 1 → c ≡ j)
    → Way n free s shut (to j) (hops j) → Doors n free s shut m to hops
alone {n} {free} {s} {shut} {m} {to} {hops} j one w =
    record {
      each = λ c o. subst (λ (y : ℕ). Way n free s shut (to y) (hops y)) (sym (one c o)) w;
      apart = λ c d o q ne. absurd (ne (one c o ∙ sym (one d q)));
    }
