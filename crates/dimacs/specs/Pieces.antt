-- The text of a mesh piece by piece: how long each is, and what loops over relays and links have counted (`Summing`) or written (`Eaching`). Assumes nothing.
use Rattle.std.specs.Prelude.{ℕ, zero, suc, ◌+◌, ◌-◌, ◌*◌, ◌^◌, ◌≤◌, ◌<◌, ◌≡◌, refl, Bool, true, false, List, [], ◌∷◌, ◌++◌, ltb, length}
use Rattle.std.proofs.Common.{sym, ap, ◌∙◌, append_assoc, append-nil, arith, add-one, add-zero, add-suc, length-append}
use Rattle.scan.specs.Scan.{pick}
use Rattle.decimal.specs.Digits.{digits, digits-short}
use Rattle.decimal.specs.Write.{Put, put_long, put-none, put_then, put_as}
use Rattle.line.specs.Text.{spaced, line_end}
use Rattle.dimacs.specs.Text.{Edge, edge, pair_text, edge_text, edges_text, each}
use Rattle.dimacs.specs.Rows.{onward, onward-up, onward_down, each_none, each_more}

pub text-none : edges_text [] ≡ []
unfolding edges_text
text-none = refl

pub text-append : (a b : List Edge) → edges_text (a ++ b) ≡ edges_text a ++ edges_text b
unfolding edges_text
text-append [] b = refl
text-append (e ∷ a) b = ap (λ (l : List ℕ). edge_text e ++ l) (text-append a b) ∙ sym (append_assoc (edge_text e) (edges_text a) (edges_text b))

text-one : (e : Edge) → edges_text (e ∷ []) ≡ edge_text e
unfolding edges_text
text-one e = append-nil (edge_text e)

-- ---- one line

pub pair_long : (word : List ℕ) (a b : ℕ) → length (pair_text word a b) ≡ length word + 3 + length (digits a) + length (digits b)
unfolding spaced
pair_long word a b =
    length-append word (spaced (a ∷ b ∷ []) ++ line_end)
    ∙ omega (arith, length-append (spaced (a ∷ b ∷ [])) line_end, length-append (digits a) (32 ∷ (digits b ++ [])), length-append (digits b) [])

module _ (u v : ℕ) where
  pub onward-text : u < v → edges_text (onward u v) ≡ edge_text (edge (u + 1) (v + 1))
  onward-text h = ap edges_text (onward-up u v h) ∙ text-one (edge (u + 1) (v + 1))

  pub onward_blank : v ≤ u → edges_text (onward u v) ≡ []
  onward_blank h = ap edges_text (onward_down u v h) ∙ text-none

  pub onward_long : u < v → length (edges_text (onward u v)) ≡ 4 + length (digits (u + 1)) + length (digits (v + 1))
  onward_long h = ap length (onward-text h) ∙ pair_long (101 ∷ []) (u + 1) (v + 1)

-- ---- one after another

module _ (f : ℕ → List Edge) where
  pub next-text : (i : ℕ) → edges_text (each f (suc i)) ≡ edges_text (each f i) ++ edges_text (f i)
  next-text i = ap edges_text (each_more f i) ∙ text-append (each f i) (f i)

  pub next_long : (i : ℕ) → length (edges_text (each f (suc i))) ≡ length (edges_text (each f i)) + length (edges_text (f i))
  next_long i = ap length (next-text i) ∙ length-append (edges_text (each f i)) (edges_text (f i))

  first_long : length (edges_text (each f 0)) ≡ 0
  first_long = ap length (ap edges_text (each_none f) ∙ text-none)

  -- fewer take no more
  part_long : (i k : ℕ) → length (edges_text (each f i)) ≤ length (edges_text (each f (i + k)))
  part_long i zero = let e = ap (λ (n : ℕ). length (edges_text (each f n))) (add-zero i) in omega arith
  part_long i (suc k) = let e = ap (λ (n : ℕ). length (edges_text (each f n))) (add-suc i k) in omega (arith, part_long i k, next_long (i + k))

  pub each_long : (i n : ℕ) → i ≤ n → length (edges_text (each f i)) ≤ length (edges_text (each f n))
  each_long i n h = let e : i + (n - i) ≡ n = omega arith in let p = ap (λ (x : ℕ). length (edges_text (each f x))) e in omega (arith, part_long i (n - i))

  pub each-short : (c n : ℕ) → ((i : ℕ) → i < n → length (edges_text (f i)) ≤ c) → length (edges_text (each f n)) ≤ n * c
  each-short c zero h = omega (arith, first_long)
  each-short c (suc n) h = omega (arith, next_long n, h n (omega arith), each-short c n (λ i l. h i (omega arith)))

  -- ---- counted by a loop

  pub record Summing (n i p : ℕ) : Type 0 where
    pub within : i ≤ n
    pub sum : p ≡ length (edges_text (each f i))

  pub sum-start : (n : ℕ) → Summing n 0 0
  sum-start n = record { within = omega arith; sum = sym first_long }

  module _ {n i p : ℕ} (s : Summing n i p) where
    pub sum_more : {q : ℕ} → i < n → q ≡ length (edges_text (f i)) → Summing n (i + 1) (p + q)
    sum_more {q} h e = record { within = omega arith; sum = let g = ap (λ (x : ℕ). length (edges_text (each f x))) (add-one i) in omega (arith, s.sum, next_long i) }

    pub sum-all : n ≤ i → p ≡ length (edges_text (each f n))
    sum-all h = let e : i ≡ n = omega (arith, s.within) in s.sum ∙ ap (λ (x : ℕ). length (edges_text (each f x))) e

  -- ---- written by a loop

  pub record Eaching (was : List ℕ) (at n i p : ℕ) (now : List ℕ) : Type 0 where
    pub within : i ≤ n
    pub put : Put was at (edges_text (each f i)) p now

  module _ (was : List ℕ) (at n : ℕ) where
    pub each_start : Eaching was at n 0 at was
    each_start = record { within = omega arith; put = put_as (sym (ap edges_text (each_none f) ∙ text-none)) (put-none was at) }

    module _ {i p : ℕ} {now : List ℕ} (l : Eaching was at n i p now) where
      pub each-room : i < n → at + length (edges_text (each f n)) ≤ length was → p + length (edges_text (f i)) ≤ length now
      each-room h g = omega (arith, each_long (suc i) n h, next_long i, l.put.place, put_long l.put)

      pub each-put : {q : ℕ} {then : List ℕ} → i < n → Put now p (edges_text (f i)) q then → Eaching was at n (i + 1) q then
      each-put h w = record { within = omega arith; put = put_as (sym (ap (λ (x : ℕ). edges_text (each f x)) (add-one i) ∙ next-text i)) (put_then l.put w) }

      pub each_all : n ≤ i → Put was at (edges_text (each f n)) p now
      each_all h = let e : i ≡ n = omega (arith, l.within) in put_as (ap (λ (x : ℕ). edges_text (each f x)) e) l.put

-- no line takes more than 44 bytes
pub onward-short : (u v : ℕ) → u + 1 < 2 ^ 64 → v + 1 < 2 ^ 64 → length (edges_text (onward u v)) ≤ 44
onward-short u v h g = go (ltb u v)
  where
    go : (b : Bool) → length (edges_text (pick b (edge (u + 1) (v + 1) ∷ []) [])) ≤ 44
    go true = omega (arith, ap length (text-one (edge (u + 1) (v + 1))), pair_long (101 ∷ []) (u + 1) (v + 1), digits-short (u + 1) h, digits-short (v + 1) g)
    go false = omega (arith, ap length text-none)
