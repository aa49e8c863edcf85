-- The bytes that the first k paths take (`total`): so many are written (`paths-total`), and so many does the loop over counts sum (`Summed`).
-- Assumes nothing.
use Rattle.std.specs.Prelude.{ℕ, zero, suc, ◌+◌, ◌*◌, ◌≤◌, ◌<◌, ◌≡◌, refl, List, [], ◌++◌, ◌∷◌, length, get_or, take, drop}
use Rattle.std.proofs.Common.{sym, ap, ap₂, ◌∙◌, subst, append_assoc, append-nil, add-one, arith, length-append, length-take, get_or-take, get_or-drop}
use Rattle.std.proofs.Math.Decide.{ℕ_discrete}
use Rattle.paths.specs.Fan.{hops}
use Rattle.paths.specs.Lists.{ahead-length}
use Rattle.paths.specs.Read.{read}
use Rattle.sheet.specs.Format.{head, paths_of, path_bytes, paths_bytes, paths_from}
use Rattle.sheet.specs.Lengths.{head_bounds, path-length, paths_from-length}
use Rattle.sheet_put.specs.Needs.{Headed}

-- the bytes of the first k paths
unfoldable pub total : (v : ℕ) (counts : List ℕ) (k : ℕ) → ℕ
total v counts zero = 0
total v counts (suc k) = total v counts k + head v + hops counts k * 8

pub total-more : (v : ℕ) (counts : List ℕ) (k : ℕ) → total v counts (suc k) ≡ total v counts k + head v + hops counts k * 8
unfolding total
total-more v counts k = refl

paths_from-more : (w : ℕ) (places counts : List ℕ) (i n : ℕ) → paths_from w places counts i (suc n) ≡ paths_from w places counts i n ++ (read w places counts (i + n) ∷ [])
unfolding paths_from
paths_from-more w places counts i zero = ap (λ (j : ℕ). read w places counts j ∷ []) (omega arith)
paths_from-more w places counts i (suc n) =
    ap (λ (r : List (List ℕ)). read w places counts i ∷ r) (paths_from-more w places counts (suc i) n)
    ∙ ap (λ (j : ℕ). read w places counts i ∷ (paths_from w places counts (suc i) n ++ (read w places counts j ∷ []))) (omega arith)

paths-more : (v : ℕ) (zones : List ℕ) (l : List (List ℕ)) (p : List ℕ) → paths_bytes v zones (l ++ (p ∷ [])) ≡ paths_bytes v zones l ++ path_bytes v (get_or zones (length l) 0) p
unfolding paths_bytes
paths-more v zones [] p = append-nil (path_bytes v (get_or zones 0 0) p)
paths-more v zones (q ∷ l) p =
    let one : 1 + length l ≡ suc (length l) = omega arith in
    ap (λ (r : List ℕ). path_bytes v (get_or zones 0 0) q ++ r)
    (paths-more v (drop 1 zones) l p
    ∙ ap (λ (z : ℕ). paths_bytes v (drop 1 zones) l ++ path_bytes v z p) (get_or-drop 1 zones (length l) 0 ∙ ap (λ (i : ℕ). get_or zones i 0) one))
    ∙ sym (append_assoc (path_bytes v (get_or zones 0 0) q) (paths_bytes v (drop 1 zones) l) (path_bytes v (get_or zones (suc (length l)) 0) p))

-- the bytes of one path more
pub paths_of-more : (v w : ℕ) (places counts zones : List ℕ) (k : ℕ)
    → paths_bytes v zones (paths_of w places counts (suc k)) ≡ paths_bytes v zones (paths_of w places counts k) ++ path_bytes v (get_or zones k 0) (read w places counts k)
paths_of-more v w places counts zones k =
    ap (paths_bytes v zones) (paths_from-more w places counts 0 k)
    ∙ paths-more v zones (paths_of w places counts k) (read w places counts (0 + k))
    ∙ ap₂ (λ (i j : ℕ). paths_bytes v zones (paths_of w places counts k) ++ path_bytes v (get_or zones i 0) (read w places counts j)) (paths_from-length w places counts 0 k) (omega arith)

pub paths-total : (v w : ℕ) (places counts zones : List ℕ) (k : ℕ) → length (paths_bytes v zones (paths_of w places counts k)) ≡ total v counts k
unfolding paths_bytes paths_from total
paths-total v w places counts zones zero = refl
paths-total v w places counts zones (suc k) =
    ap length (paths_of-more v w places counts zones k)
    ∙ length-append (paths_bytes v zones (paths_of w places counts k)) (path_bytes v (get_or zones k 0) (read w places counts k))
    ∙ omega (arith, paths-total v w places counts zones k, path-length v (get_or zones k 0) (read w places counts k), ahead-length places (k * w + 1) (hops counts k))

-- 206 hops take 1,654 bytes at most
pub total-most : (v : ℕ) {k : ℕ} {counts : List ℕ} → Headed k counts → (i : ℕ) → i ≤ k → total v counts i ≤ i * 1654
unfolding total
total-most v h zero l = omega arith
total-most v h (suc i) l = omega (arith, total-most v h i (omega arith), h.short i (omega arith), (head_bounds v).1)

-- what i paths take, and the next, is within what k take
pub total_within : (v : ℕ) (counts : List ℕ) (k i : ℕ) → i < k → total v counts i + head v + hops counts i * 8 ≤ total v counts k
unfolding total
total_within v counts zero i l = absurd (omega arith)
total_within v counts (suc k) i l = go (ℕ_discrete i k) (λ h. total_within v counts k i h)
  where
    go : Dec (i ≡ k) → (i < k → total v counts i + head v + hops counts i * 8 ≤ total v counts k) → total v counts i + head v + hops counts i * 8 ≤ total v counts k + head v + hops counts k * 8
    go (yes e) h = omega (arith, ap (λ (j : ℕ). total v counts j + head v + hops counts j * 8) e)
    go (no ne) h = omega (arith, h (omega arith))

pub record Summed (v : ℕ) (counts : List ℕ) (k n i : ℕ) : Type 0 where
  pub asked : Headed k counts
  pub within : i ≤ k
  pub is : n ≡ total v counts i

pub summed_starts : {v : ℕ} {counts : List ℕ} {k : ℕ} → Headed k counts → Summed v counts k 0 0
unfolding total
summed_starts h = record { asked = h; within = omega arith; is = refl }

-- what is summed is small, and so is a count
pub summed_small : {v : ℕ} {counts : List ℕ} {k n i : ℕ} → Summed v counts k n i → i < k → (n ≤ 52928) × (get_or counts i 0 ≤ 206) × (i < length counts)
unfolding hops
summed_small {v} {counts} {k} {n} {i} q l =
    (omega (arith, q.is, total-most v q.asked i q.within, q.asked.few), q.asked.short i l, omega (arith, q.asked.counted))

pub summed_more : {v : ℕ} {counts : List ℕ} {k n i h head₁ : ℕ} → Summed v counts k n i → i < k → head₁ ≡ head v → h ≡ get_or counts i 0 → Summed v counts k (n + head₁ + h * 8) (i + 1)
unfolding hops
summed_more {v} {counts} {k} {n} {i} {h} {head₁} q l f e = record {
  asked = q.asked;
  within = omega arith;
  is = ap₂ (λ (x y : ℕ). n + x + y * 8) f e ∙ ap (λ (x : ℕ). x + head v + get_or counts i 0 * 8) q.is ∙ sym (total-more v counts i) ∙ ap (total v counts) (sym (add-one i));
}

pub summed_ends : {v : ℕ} {counts : List ℕ} {k n i : ℕ} → Summed v counts k n i → k ≤ i → n ≡ total v counts k
summed_ends {v} {counts} {k} {n} {i} q l = q.is ∙ ap (total v counts) (omega (arith, q.within))

-- the same of the next of the first k counts, as a slice of them has it
module _ {v : ℕ} {counts : List ℕ} {k n i : ℕ} (q : Summed v counts k n i) (l : i < length (take k counts)) where
  below : i < k
  below = omega (arith, length-take k counts)

  same : get_or (take k counts) i 0 ≡ get_or counts i 0
  same = get_or-take k counts i 0 below

  pub taken_small : (n ≤ 52928) × (get_or (take k counts) i 0 ≤ 206)
  taken_small = let s = summed_small q below in (s.0, omega (arith, same, s.1))

  pub taken_more : {head₁ : ℕ} → head₁ ≡ head v → Summed v counts k (n + (head₁ + get_or (take k counts) i 0 * 8)) (i + 1)
  taken_more {head₁} e = subst (λ (x : ℕ). Summed v counts k x (i + 1)) (omega arith) (summed_more {h = get_or (take k counts) i 0} {head₁ = head₁} q below e same)

pub taken_ends : {v : ℕ} {counts : List ℕ} {k n i : ℕ} → Summed v counts k n i → length (take k counts) ≤ i → n ≡ total v counts k
taken_ends {counts = counts} {k = k} q l = summed_ends q (omega (arith, length-take k counts, q.asked.counted))
