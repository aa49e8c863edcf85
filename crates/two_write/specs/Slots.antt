-- Slots of one block, written as relays one after another. Assumes nothing.
use Rattle.std.specs.Prelude.{ℕ, ◌+◌, ◌*◌, ◌^◌, ◌≤◌, ◌<◌, ◌≡◌, refl, List, [], ◌∷◌, ◌++◌, length, get_or, take, set}
use Rattle.std.proofs.Common.{sym, ap, ◌∙◌, subst, add-one, arith, length-set, length-take, take-suc, take_all}
use Rattle.std.proofs.lemmas.List.Edits.{sets}
use Rattle.two_math.specs.Relays.{inside}
use Rattle.two_math.specs.Numbers.{numbers}
use Rattle.scan.specs.Runs.{sets_append}
use Rattle.two_write.specs.Walked.{relays, relays-numbers, relays-append, relays-length}

-- the first n slots of the list are slots of a block
abbrev pub Below : (m n : ℕ) (l : List ℕ) → Type 0
Below m n l = (i : ℕ) → i < n → get_or l i 0 < 2 ^ m

-- the relays of the slots l of the block b stand from `at` on
pub record Slotted (m b : ℕ) (l : List ℕ) (at : ℕ) (was now : List ℕ) (r : ℕ) : Type 0 where
  pub wrote : now ≡ sets was at (numbers m (inside b l))
  pub next : r ≡ at + length l

-- the first i of them
pub record Slotting (base : ℕ) (l : List ℕ) (at : ℕ) (was now : List ℕ) (i : ℕ) : Type 0 where
  pub bound : i ≤ length l
  pub wrote : now ≡ sets was at (relays base (take i l))
  pub long : length now ≡ length was

pub slotting_none : (base : ℕ) (l : List ℕ) (at : ℕ) (was : List ℕ) → Slotting base l at was was 0
slotting_none base l at was = record { bound = omega arith; wrote = refl; long = refl }

pub slotting_more : {base : ℕ} {l : List ℕ} {at : ℕ} {was now : List ℕ} {i : ℕ} → Slotting base l at was now i → i < length l
    → Slotting base l at was (set now (at + i) (base + get_or l i 0)) (i + 1)
slotting_more {base} {l} {at} {was} {now} {i} k h =
    let taken : take (i + 1) l ≡ take i l ++ (get_or l i 0 ∷ []) = ap (λ (y : ℕ). take y l) (add-one i) ∙ take-suc l i 0 h in
    let size : length (relays base (take i l)) ≡ i = relays-length base (take i l) ∙ length-take i l ∙ omega arith in
    record {
      bound = omega arith;
      wrote = sym (ap (λ (y : List ℕ). sets was at (relays base y)) taken ∙ ap (sets was at) (relays-append base (take i l) (get_or l i 0 ∷ []))
          ∙ sets_append was at (relays base (take i l)) ((base + get_or l i 0) ∷ [])
          ∙ ap (λ (y : ℕ). set (sets was at (relays base (take i l))) (at + y) (base + get_or l i 0)) size
          ∙ ap (λ (y : List ℕ). set y (at + i) (base + get_or l i 0)) (sym k.wrote));
      long = length-set now (at + i) (base + get_or l i 0) ∙ k.long;
    }

pub slotting_done : {base : ℕ} {l : List ℕ} {at : ℕ} {was now : List ℕ} {i : ℕ} (m b : ℕ) → base ≡ b * 2 ^ m → Slotting base l at was now i → length l ≤ i → Slotted m b l at was now (at + length l)
slotting_done {base} {l} {at} {was} {now} {i} m b e k h =
    record {
      wrote = k.wrote ∙ ap (λ (y : List ℕ). sets was at (relays base y)) (take_all i l h) ∙ ap (λ (y : ℕ). sets was at (relays y l)) e ∙ ap (sets was at) (sym (relays-numbers m b l));
      next = refl;
    }

-- all of them
pub slotted_all : {m b : ℕ} {l : List ℕ} {at : ℕ} {was now : List ℕ} {r : ℕ} (n : ℕ) → n ≡ length l → Slotted m b (take n l) at was now r → Slotted m b l at was now r
slotted_all {m} {b} {l} {at} {was} {now} {r} n e s = subst (λ (y : List ℕ). Slotted m b y at was now r) (take_all n l (omega arith)) s
