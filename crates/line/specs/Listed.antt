-- The library's search of a list, `list_any`, is `any` over its places. Assumes nothing.
use Rattle.std.specs.Prelude.{ℕ, zero, suc, ◌+◌, ◌≤◌, ◌≡◌, refl, Bool, true, false, List, length, get_or, take, drop}
use Rattle.std.specs.List.{list_any}
use Rattle.std.proofs.Common.{◌||◌, ap, ◌∙◌, arith, drop-cons}
use Rattle.scan.specs.Scan.{at, pick, found, seek, any}

pub listed : (p : ℕ → Bool) (l : List ℕ) (i n : ℕ) → i + n ≤ length l → list_any p (take n (drop i l)) ≡ any (λ j. p (get_or l j 0)) i n
unfolding any seek
listed p l i zero h = refl
listed p l i (suc n) h = ap (λ (m : List ℕ). list_any p (take (suc n) m)) (drop-cons l i 0 (omega arith)) ∙ go (p (get_or l i 0)) (listed p l (suc i) n (omega arith))
  where
    go : (b : Bool) → list_any p (take n (drop (suc i) l)) ≡ any (λ j. p (get_or l j 0)) (suc i) n
        → (b || list_any p (take n (drop (suc i) l))) ≡ found (pick b (at i) (seek (λ j. p (get_or l j 0)) (suc i) n))
    go true e = refl
    go false e = e
