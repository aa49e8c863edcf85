-- Runs of numbers written into a list one after another (`sets_append`), by a loop (`Running`); and places filled with one number: they hold it
-- (`filled_in`), and the others what they held (`filled_out`); numbers moved to the front one by one (`Shifted`). Assumes nothing.
use Rattle.std.specs.Prelude.{ℕ, zero, suc, ◌+◌, ◌≤◌, ◌<◌, ◌≡◌, refl, ◌⊎◌, ◌≢◌, List, [], ◌∷◌, ◌++◌, length, get_or, set, replicate}
use Rattle.std.proofs.Common.{sym, ap, ap₂, ◌∙◌, subst, inl, inr, ⊎_elim, add-one, arith, length-set, get_or-set_same, get_or-set_other}
use Rattle.std.proofs.Math.Decide.{ℕ_discrete}
use Rattle.std.proofs.lemmas.List.{length-replicate, replicate-append-replicate}
use Rattle.std.proofs.lemmas.List.Edits.{sets}

pub sets_append : (l : List ℕ) (at : ℕ) (a b : List ℕ) → sets l at (a ++ b) ≡ sets (sets l at a) (at + length a) b
sets_append l at [] b = ap (λ (i : ℕ). sets l i b) (omega arith)
sets_append l at (x ∷ a) b = sets_append (set l at x) (suc at) a b ∙ ap (λ (i : ℕ). sets (sets (set l at x) (suc at) a) i b) (omega arith)

-- ---- written by a loop

-- the first i numbers of a run are written from the place `to` on
pub record Running (run : ℕ → List ℕ) (to n : ℕ) (l₀ l : List ℕ) (i : ℕ) : Type 0 where
  pub within : i ≤ n
  pub long : length l ≡ length l₀
  pub is : l ≡ sets l₀ to (run i)

-- a run of numbers, one more each time
pub record Run (run : ℕ → List ℕ) (x : ℕ → ℕ) : Type 0 where
  pub none : run 0 ≡ []
  pub more : (i : ℕ) → run (suc i) ≡ run i ++ (x i ∷ [])
  pub count : (i : ℕ) → length (run i) ≡ i

pub running_starts : {run x : ℕ → _} → Run run x → (to n : ℕ) (l : List ℕ) → Running run to n l l 0
running_starts r to n l = record { within = omega arith; long = refl; is = ap (sets l to) (sym r.none) }

pub running_more : {run : ℕ → List ℕ} {x : ℕ → ℕ} {to n : ℕ} {l₀ l : List ℕ} {i y : ℕ} → Run run x → Running run to n l₀ l i → i < n → y ≡ x i → Running run to n l₀ (set l (to + i) y) (i + 1)
running_more {run} {x} {to} {n} {l₀} {l} {i} {y} r v h e = record {
  within = omega arith;
  long = length-set l (to + i) y ∙ v.long;
  is =
      ap₂ (λ (o : List ℕ) (z : ℕ). set o (to + i) z) v.is e
      ∙ ap (λ (p : ℕ). set (sets l₀ to (run i)) (to + p) (x i)) (sym (r.count i))
      ∙ sym (sets_append l₀ to (run i) (x i ∷ []))
      ∙ ap (sets l₀ to) (sym (r.more i) ∙ ap run (sym (add-one i)));
}

pub running_ends : {run : ℕ → List ℕ} {to n : ℕ} {l₀ l : List ℕ} {i : ℕ} → Running run to n l₀ l i → n ≤ i → l ≡ sets l₀ to (run n)
running_ends {run} {to} {n} {l₀} {l} {i} v h = v.is ∙ ap (λ (j : ℕ). sets l₀ to (run j)) (omega (arith, v.within))

pub replicate-run : (a : ℕ) → Run (λ n. replicate n a) (λ i. a)
replicate-run a = record {
  none = refl;
  more = λ i. ap (λ (n : ℕ). replicate n a) (sym (add-one i)) ∙ sym (replicate-append-replicate i 1 a);
  count = λ i. length-replicate i a;
}

-- ---- one number in many places

pub filled_out : (l : List ℕ) (from n x i : ℕ) → (i < from) ⊎ (from + n ≤ i) → get_or (sets l from (replicate n x)) i 0 ≡ get_or l i 0
filled_out l from zero x i h = refl
filled_out l from (suc n) x i h =
    filled_out (set l from x) (suc from) n x i (⊎_elim (λ a. inl (omega arith)) (λ a. inr (omega arith)) h)
    ∙ get_or-set_other l from i x 0 (λ e. ⊎_elim (λ (a : i < from). omega arith) (λ a. omega arith) h)

pub filled_in : (l : List ℕ) (from n x i : ℕ) → from + n ≤ length l → from ≤ i → i < from + n → get_or (sets l from (replicate n x)) i 0 ≡ x
filled_in l from zero x i r h g = absurd (omega arith)
filled_in l from (suc n) x i r h g = go (ℕ_discrete i from) (λ le lt. filled_in (set l from x) (suc from) n x i (omega (arith, length-set l from x)) le lt)
  where
    go : Dec (i ≡ from) → (suc from ≤ i → i < suc from + n → get_or (sets (set l from x) (suc from) (replicate n x)) i 0 ≡ x) → get_or (sets (set l from x) (suc from) (replicate n x)) i 0 ≡ x
    go (yes e) rest = filled_out (set l from x) (suc from) n x i (inl (omega arith)) ∙ ap (λ (j : ℕ). get_or (set l from x) j 0) e ∙ get_or-set_same l from x 0 (omega arith)
    go (no ne) rest = rest (omega arith) (omega arith)

-- ---- numbers moved to the front

pub record Shifted (to from n : ℕ) (before after : List ℕ) : Type 0 where
  pub is : (q : ℕ) → q < n → get_or after (to + q) 0 ≡ get_or before (from + q) 0
  pub rest : (i : ℕ) → (i < to) ⊎ (to + n ≤ i) → get_or after i 0 ≡ get_or before i 0

pub shifted_none : (to from n : ℕ) (l : List ℕ) → n ≡ 0 → Shifted to from n l l
shifted_none to from n l e = record { is = λ q h. absurd (omega arith); rest = λ i h. refl }

pub shifted_more : (to from n : ℕ) (l m : List ℕ) → Shifted to from n l m → to ≤ from → to + n < length m
    → Shifted to from (n + 1) l (set m (to + n) (get_or m (from + n) 0))
shifted_more to from n l m a le h = record {
  is = λ q r. moved q r (ℕ_discrete q n);
  rest = λ i r. other i (λ e. ⊎_elim (λ (y : i < to). omega arith) (λ y. omega arith) r) ∙ a.rest i (⊎_elim inl (λ y. inr (omega arith)) r);
}
  where
    new : List ℕ
    new = set m (to + n) (get_or m (from + n) 0)

    other : (i : ℕ) → i ≢ to + n → get_or new i 0 ≡ get_or m i 0
    other i ne = get_or-set_other m (to + n) i (get_or m (from + n) 0) 0 ne

    moved : (q : ℕ) → q < n + 1 → Dec (q ≡ n) → get_or new (to + q) 0 ≡ get_or l (from + q) 0
    moved q r (yes e) =
        subst (λ (y : ℕ). get_or new (to + y) 0 ≡ get_or l (from + y) 0) (sym e)
        (get_or-set_same m (to + n) (get_or m (from + n) 0) 0 h ∙ a.rest (from + n) (inr (omega arith)))
    moved q r (no ne) = other (to + q) (λ e. ne (omega arith)) ∙ a.is q (omega arith)

pub shifted_all : {to from q n : ℕ} {l m : List ℕ} → q ≡ n → Shifted to from q l m → Shifted to from n l m
shifted_all {to} {from} {q} {n} {l} {m} e a = subst (λ (y : ℕ). Shifted to from y l m) e a
