-- Targets behind open doors: a row whose target stands behind one needs no more (`sort_some`). Assumes nothing.
use Rattle.std.specs.Prelude.{ℕ, ◌^◌, ◌<◌, ◌≡◌, refl, ◌≢◌, List, [], ◌∷◌}
use Rattle.std.proofs.Common.{sym, ap, ◌∙◌, subst, ⊎_elim, arith}
use Rattle.std.specs.Int.Bits.{bit_xor, bit_and, bit_or, xor_zero_r, xor_self}
use Rattle.std.proofs.lemmas.Nat.{xor_comm}
use Rattle.bits.specs.Bit.{bit, flip}
use Rattle.bits.specs.Laws.{bit-cases, bit-lt, bit-and, bit-none, bit-pow-same, bit-pow-other, clash, xor_assoc, same-all-bits, same_or}
use Rattle.cube_math.specs.Masks.{less, bit-less}
use Rattle.cube_math.specs.Choose.{less-on}
use Rattle.cube_math.specs.Loops.{Plus, plus_or, Sorting, sort_skip, sort_take}

-- r is the door of `free` behind which t stands, as a set, or nothing
pub record Doored (s free t r : ℕ) : Type 0 where
  pub none : r ≡ 0 → (i : ℕ) → t ≡ flip s i → bit i free ≡ 0
  pub some : r ≢ 0 → (i : ℕ) × (bit i free ≡ 1) × (t ≡ flip s i) × (r ≡ 2 ^ i)

-- s ^ (s ^ t) is t
pub xor-over : (s t : ℕ) → bit_xor s (bit_xor s t) ≡ t
xor-over s t = sym (xor_assoc s s t) ∙ ap (λ (y : ℕ). bit_xor y t) (xor_self s) ∙ xor_comm 0 t ∙ xor_zero_r t

-- t stands behind the door i where s ^ t is 2 ^ i
pub flip_of : (s t i : ℕ) → bit_xor s t ≡ 2 ^ i → t ≡ flip s i
unfolding flip
flip_of s t i e = sym (xor-over s t) ∙ ap (bit_xor s) e

pub of-flip : (s t i : ℕ) → t ≡ flip s i → bit_xor s t ≡ 2 ^ i
unfolding flip
of-flip s t i e = ap (bit_xor s) e ∙ xor-over s (2 ^ i)

pow-and : (i free : ℕ) → bit i free ≡ 1 → bit_and (2 ^ i) free ≡ 2 ^ i
pow-and i free o = same-all-bits (bit_and (2 ^ i) free) (2 ^ i) (λ c. ⊎_elim
    (λ e. omega (arith, bit-and c (2 ^ i) free, ap (λ (y : ℕ). bit y free) e ∙ o, ap (λ (y : ℕ). bit y (2 ^ i)) e ∙ bit-pow-same i))
    (λ ne. omega (arith, bit-and c (2 ^ i) free, bit-pow-other c i ne)) (same_or c i))

pow-and-none : (i free : ℕ) → bit i free ≡ 0 → bit_and (2 ^ i) free ≡ 0
pow-and-none i free z = same-all-bits (bit_and (2 ^ i) free) 0 (λ c. ⊎_elim
    (λ e. omega (arith, bit-and c (2 ^ i) free, ap (λ (y : ℕ). bit y free) e ∙ z, bit-none c))
    (λ ne. omega (arith, bit-and c (2 ^ i) free, bit-pow-other c i ne, bit-none c)) (same_or c i))

pub doored_one : (s free t : ℕ) → (i : ℕ) × (i < 64) × (bit_xor s t ≡ 2 ^ i) → Doored s free t (bit_and (bit_xor s t) free)
doored_one s free t x =
    let i : ℕ = x.0 in
    let e : bit_xor s t ≡ 2 ^ i = x.2 in
    let w = flip_of s t i e in
    ⊎_elim
    (λ (z : bit i free ≡ 0). record {
      none = λ r c q. ap (λ (y : ℕ). bit y free) (pow-same c i (sym (of-flip s t c q) ∙ e)) ∙ z;
      some = λ ne. absurd (ne (ap (λ (y : ℕ). bit_and y free) e ∙ pow-and-none i free z));
    })
    (λ (o : bit i free ≡ 1). record {
      none = λ r. absurd (clash (ap (bit i) (sym (ap (λ (y : ℕ). bit_and y free) e ∙ pow-and i free o) ∙ r) ∙ bit-none i) (bit-pow-same i));
      some = λ ne. (i, o, w, ap (λ (y : ℕ). bit_and y free) e ∙ pow-and i free o);
    })
    (bit-cases i free)
  where
    pow-same : (c i : ℕ) → 2 ^ c ≡ 2 ^ i → c ≡ i
    pow-same c i e = ⊎_elim (λ z. z) (λ ne. absurd (clash (bit-pow-other c i ne) (sym (ap (bit c) e) ∙ bit-pow-same c))) (same_or c i)

pub doored_none : (s free t : ℕ) → ((i : ℕ) → bit_xor s t ≢ 2 ^ i) → Doored s free t 0
doored_none s free t h = record { none = λ r i q. absurd (h i (of-flip s t i q)); some = λ ne. absurd (ne refl) }

-- one row is looked at: its target is t, and its path would be t alone
pub record SortStep (free s left more t j fewer wider : ℕ) : Type 0 where
  pub step : (shut m todo : ℕ) (to : ℕ → ℕ) (rows : ℕ → List ℕ) → to j ≡ t → rows j ≡ to j ∷ [] → Sorting free s shut m todo left more to rows → bit j todo ≡ 1
      → Sorting free s shut m (flip todo j) fewer wider to rows

pub sort_none : (free s left more t j doors r : ℕ) → doors ≡ less free more → Doored s doors t r → r ≡ 0 → SortStep free s left more t j left more
sort_none free s left more t j doors r same d z = record {
  step = λ shut m todo to rows e new a o. sort_skip free s shut m to j a o (λ i f q.
      omega (arith, sym (ap (bit i) same) ∙ d.none z i (sym e ∙ q), bit-less i free more, bit-lt i more));
}

pub sort_some : (free s left more t j doors r fewer : ℕ) → doors ≡ less free more → fewer ≡ flip left j → Doored s doors t r → r ≢ 0
    → SortStep free s left more t j fewer (bit_or more r)
sort_some free s left more t j doors r fewer same cut d ne =
    let x = d.some ne in
    let on = less-on x.0 free more (sym (ap (bit x.0) same) ∙ x.1) in
    record {
      step = λ shut m todo to rows e new a o. subst (λ (y : ℕ). Sorting free s shut m (flip todo j) y (bit_or more r) to rows) (sym cut)
          (sort_take free s shut m to j x.0 (bit_or more r) a o on.0 on.1 (e ∙ x.2)
          (subst (λ (y : ℕ). Plus more x.0 (bit_or more y)) (sym x.3) (plus_or more x.0))
          new (λ c n. refl));
    }

pub sorting_at : {free s shut m todo next left more : ℕ} {to : ℕ → ℕ} {rows : ℕ → List ℕ} → todo ≡ next → Sorting free s shut m todo left more to rows
    → Sorting free s shut m next left more to rows
sorting_at {free} {s} {shut} {m} {todo} {next} {left} {more} {to} {rows} e a = subst (λ (y : ℕ). Sorting free s shut m y left more to rows) e a
