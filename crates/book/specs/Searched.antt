-- The search in a lent index, of which the first n places rise: it finds the place of a key (`search_below`), tells whether it is there (`search_hit`), and where to put it in
-- (`search_put`). Assumes nothing.
use Rattle.std.specs.Prelude.{ℕ, ◌+◌, ◌≤◌, ◌<◌, ◌≡◌, Bool, true, false, ◌⊎◌, ◌≢◌, List, ◌∷◌, ◌++◌, eqb, ltb, length, get_or, take, drop}
use Rattle.std.proofs.Common.{sym, ap, ap₂, ◌∙◌, subst, inl, inr, arith, get_or-take, length-take-le, ltb-true}
use Rattle.scan.specs.Scan.{pick}
use Rattle.scan.specs.Laws.{true-or}
use Rattle.paths.specs.Lists.{In}
use Rattle.book_parts.specs.Place.{place, Placed, place-placed}
use Rattle.book_parts.specs.Moved.{opened, opened-front}
use Rattle.book.specs.Ordered.{STARTS, entry, key_of, insert, below, Rising, rising_at, below_is, below_within, below-entry, insert-at, hit}

module _ (index l : List ℕ) (n : ℕ) (g : n ≤ length index) (e : take n index ≡ l) (r : Rising l) where
  pub searched_long : length l ≡ n
  searched_long = sym (ap length e) ∙ length-take-le n index g

  searched_at : (i : ℕ) → i < n → get_or index i 0 ≡ get_or l i 0
  searched_at i h = sym (get_or-take n index i 0 h) ∙ ap (λ (m : List ℕ). get_or m i 0) e

  pub search_below : (k : ℕ) → place index 0 n (entry k 0) ≡ below (entry k 0) l
  search_below k =
      sym (below_is (entry k 0) l (place index 0 n (entry k 0)) (omega (arith, p.within, searched_long))
      (λ j h. subst (λ (x : ℕ). x < entry k 0) (searched_at j (omega (arith, p.within))) (p.before j h))
      (λ h. subst (λ (x : ℕ). entry k 0 ≤ x) (searched_at (place index 0 n (entry k 0)) (omega (arith, searched_long))) (p.after (omega (arith, searched_long)))))
    where
      up : (i j : ℕ) → i < j → j < n → get_or index i 0 < get_or index j 0
      up i j a b = omega (arith, rising_at l r i j a (omega (arith, searched_long)), searched_at i (omega arith), searched_at j b)

      p : Placed index (entry k 0) n (place index 0 n (entry k 0))
      p = place-placed index (entry k 0) n up

  pub search_hit : (k : ℕ) {i : ℕ} → i ≡ place index 0 n (entry k 0) → pick (ltb i n) (eqb (key_of (get_or index i 0)) k) false ≡ hit k l (below (entry k 0) l)
  search_hit k ei =
      ap₂ (λ (j m : ℕ). pick (ltb j m) (eqb (key_of (get_or index j 0)) k) false) (ei ∙ search_below k) (sym searched_long)
      ∙ go (true-or (ltb (below (entry k 0) l) (length l)))
    where
      go : (ltb (below (entry k 0) l) (length l) ≡ true) ⊎ (ltb (below (entry k 0) l) (length l) ≡ false)
          → pick (ltb (below (entry k 0) l) (length l)) (eqb (key_of (get_or index (below (entry k 0) l) 0)) k) false ≡ hit k l (below (entry k 0) l)
      go (inl t) =
          let h = ltb-true (below (entry k 0) l) (length l) t in
          ap (λ (x : ℕ). pick (ltb (below (entry k 0) l) (length l)) (eqb (key_of x) k) false) (searched_at (below (entry k 0) l) (omega (arith, searched_long)))
      go (inr f) =
          ap (λ (c : Bool). pick c (eqb (key_of (get_or index (below (entry k 0) l) 0)) k) false) f
          ∙ sym (ap (λ (c : Bool). pick c (eqb (key_of (get_or l (below (entry k 0) l) 0)) k) false) f)

  pub search_put : (k s : ℕ) {i : ℕ} → i ≡ place index 0 n (entry k 0) → s < STARTS → ((y : ℕ) → In y l → key_of y ≢ k) → n < length index
      → take (n + 1) (opened index i n (entry k s)) ≡ insert (entry k s) l
  search_put k s ei h new room =
      ap (λ (j : ℕ). take (n + 1) (opened index j n (entry k s))) (ei ∙ search_below k ∙ below-entry k s l h new)
      ∙ opened-front index (below (entry k s) l) n (entry k s) (omega (arith, below_within (entry k s) l, searched_long)) room
      ∙ ap (λ (m : List ℕ). take (below (entry k s) l) m ++ (entry k s ∷ drop (below (entry k s) l) m)) e
      ∙ insert-at (entry k s) l
