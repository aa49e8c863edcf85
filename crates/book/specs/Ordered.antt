-- Places of an index in their order. A place is a key and a start in one number (`entry`); a list of them rises by keys (`Rising`), so that no key stands twice. A place is
-- put in before the first that is not below it (`insert`), found by counting those below it (`below`), and taken out (`without`). Assumes nothing.
use Rattle.std.specs.Prelude.{ℕ, zero, suc, ◌+◌, ◌*◌, ◌/◌, ◌%◌, ◌≤◌, ◌<◌, ◌≡◌, refl, Bool, true, false, ◌⊎◌, ◌≢◌, List, [], ◌∷◌, ◌++◌, ltb, eqb, length, get_or, take, drop}
use Rattle.std.proofs.Common.{sym, ap, ap₂, ◌∙◌, inl, inr, ⊎_elim, arith, ltb-true, ltb-false, lt-ltb, le-ltb, eqb-true, eq-eqb, ne_eqb}
use Rattle.std.proofs.Math.Decide.{ℕ_discrete}
use Rattle.std.proofs.lemmas.Bool.{eqb-false}
use Rattle.scan.specs.Scan.{pick}
use Rattle.scan.specs.Laws.{true-or, true-false}
use Rattle.paths.specs.Lists.{In}

-- ---- definitions

-- the starts that a place can tell
abbrev pub STARTS : ℕ
STARTS = 65536

-- a key and a start as one number: in order as the keys are
abbrev pub entry : (key start : ℕ) → ℕ
entry key start = key * STARTS + start

abbrev pub key_of : ℕ → ℕ
key_of x = x / STARTS

abbrev pub start_of : ℕ → ℕ
start_of x = x % STARTS

-- before the first that is not below it
unfoldable pub insert : (x : ℕ) (l : List ℕ) → List ℕ
insert x [] = x ∷ []
insert x (y ∷ l) = pick (ltb y x) (y ∷ insert x l) (x ∷ y ∷ l)

-- all but x
unfoldable pub without : (x : ℕ) (l : List ℕ) → List ℕ
without x [] = []
without x (y ∷ l) = pick (eqb y x) (without x l) (y ∷ without x l)

-- how many come before the first that is not below x
unfoldable pub below : (x : ℕ) (l : List ℕ) → ℕ
below x [] = 0
below x (y ∷ l) = pick (ltb y x) (suc (below x l)) 0

-- each key is above those before it
abbrev pub Rising : List ℕ → Type 0
Rising [] = Unit
Rising (x ∷ l) = ((y : ℕ) → In y l → key_of x < key_of y) × Rising l

-- each number is at least those before it
abbrev pub Up : List ℕ → Type 0
Up [] = Unit
Up (x ∷ l) = ((y : ℕ) → In y l → x ≤ y) × Up l

-- ---- what stands in a list

pub get_d_in : (l : List ℕ) (i : ℕ) → i < length l → In (get_or l i 0) l
get_d_in [] i h = absurd (omega arith)
get_d_in (x ∷ l) zero h = inl refl
get_d_in (x ∷ l) (suc i) h = inr (get_d_in l i (omega arith))

pub rising_at : (l : List ℕ) → Rising l → (i j : ℕ) → i < j → j < length l → key_of (get_or l i 0) < key_of (get_or l j 0)
rising_at [] r i j h g = absurd (omega arith)
rising_at (x ∷ l) r zero zero h g = absurd (omega arith)
rising_at (x ∷ l) r zero (suc j) h g = r.0 (get_or l j 0) (get_d_in l j (omega arith))
rising_at (x ∷ l) r (suc i) zero h g = absurd (omega arith)
rising_at (x ∷ l) r (suc i) (suc j) h g = rising_at l r.1 i j (omega arith) (omega arith)

-- a key stands once
pub same_key : (l : List ℕ) → Rising l → (x y : ℕ) → In x l → In y l → key_of x ≡ key_of y → x ≡ y
same_key [] r x y a b e = absurd a
same_key (z ∷ l) r x y (inl a) (inl b) e = a ∙ sym b
same_key (z ∷ l) r x y (inl a) (inr b) e = absurd (omega (arith, r.0 y b, ap key_of a))
same_key (z ∷ l) r x y (inr a) (inl b) e = absurd (omega (arith, r.0 x a, ap key_of b))
same_key (z ∷ l) r x y (inr a) (inr b) e = same_key l r.1 x y a b e

-- ---- put in

-- what holds of both answers of a test holds of it
either : {A : Type 0} (P : A → Type 0) (b : Bool) (x y : A) → (b ≡ true → P x) → (b ≡ false → P y) → P (pick b x y)
either P true x y s t = s refl
either P false x y s t = t refl

pub in_insert : (x z : ℕ) (l : List ℕ) → In z (insert x l) → (z ≡ x) ⊎ In z l
unfolding insert
in_insert x z [] (inl e) = inl e
in_insert x z [] (inr h) = absurd h
in_insert x z (y ∷ l) h =
    either (λ m. In z m → (z ≡ x) ⊎ In z (y ∷ l)) (ltb y x) (y ∷ insert x l) (x ∷ y ∷ l)
    (λ t. ⊎_elim (λ e. inr (inl e)) (λ i. ⊎_elim inl (λ k. inr (inr k)) (in_insert x z l i))) (λ f. λ i. i) h

pub insert_in : (x z : ℕ) (l : List ℕ) → (z ≡ x) ⊎ In z l → In z (insert x l)
unfolding insert
insert_in x z [] (inl e) = inl e
insert_in x z [] (inr h) = absurd h
insert_in x z (y ∷ l) h =
    either (λ m. In z m) (ltb y x) (y ∷ insert x l) (x ∷ y ∷ l)
    (λ t. ⊎_elim (λ e. inr (insert_in x z l (inl e))) (λ i. ⊎_elim inl (λ k. inr (insert_in x z l (inr k))) i) h) (λ f. h)

pub rising_insert : (x : ℕ) (l : List ℕ) → Rising l → ((y : ℕ) → In y l → key_of y ≢ key_of x) → Rising (insert x l)
unfolding insert
rising_insert x [] r new = ((λ y i. absurd i), tt)
rising_insert x (y ∷ l) r new =
    either Rising (ltb y x) (y ∷ insert x l) (x ∷ y ∷ l)
    (λ t. let p = ltb-true y x t in
    ((λ z i. ⊎_elim (λ e. omega (arith, new y (inl refl), ap key_of e)) (λ k. r.0 z k) (in_insert x z l i)), rising_insert x l r.1 (λ z i. new z (inr i))))
    (λ f. let p = ltb-false y x f in
    ((λ z i. ⊎_elim (λ e. omega (arith, new y (inl refl), ap key_of e)) (λ k. omega (arith, new y (inl refl), r.0 z k)) i), r))

pub up-insert : (x : ℕ) (l : List ℕ) → Up l → Up (insert x l)
unfolding insert
up-insert x [] r = ((λ y i. absurd i), tt)
up-insert x (y ∷ l) r =
    either Up (ltb y x) (y ∷ insert x l) (x ∷ y ∷ l)
    (λ t. let p = ltb-true y x t in ((λ z i. ⊎_elim (λ e. omega arith) (λ k. r.0 z k) (in_insert x z l i)), up-insert x l r.1))
    (λ f. let p = ltb-false y x f in ((λ z i. ⊎_elim (λ e. omega arith) (λ k. omega (arith, r.0 z k)) i), r))

insert_past : (x y : ℕ) (l : List ℕ) → y < x → insert x (y ∷ l) ≡ y ∷ insert x l
unfolding insert
insert_past x y l h = ap (λ (b : Bool). pick b (y ∷ insert x l) (x ∷ y ∷ l)) (lt-ltb y x h)

insert-here : (x y : ℕ) (l : List ℕ) → x ≤ y → insert x (y ∷ l) ≡ x ∷ y ∷ l
unfolding insert
insert-here x y l h = ap (λ (b : Bool). pick b (y ∷ insert x l) (x ∷ y ∷ l)) (le-ltb y x h)

insert-two : (a b : ℕ) (m : List ℕ) → a < b → insert b (insert a m) ≡ insert a (insert b m)
unfolding insert
insert-two a b [] h = insert_past b a [] h ∙ sym (insert-here a b [] (omega arith))
insert-two a b (z ∷ m) h = at (true-or (ltb z a)) (true-or (ltb z b)) (insert-two a b m h)
  where
    at : (ltb z a ≡ true) ⊎ (ltb z a ≡ false) → (ltb z b ≡ true) ⊎ (ltb z b ≡ false) → insert b (insert a m) ≡ insert a (insert b m)
        → insert b (insert a (z ∷ m)) ≡ insert a (insert b (z ∷ m))
    at (inl p) (inl q) r =
        let u = ltb-true z a p in let v = ltb-true z b q in
        ap (insert b) (insert_past a z m u) ∙ insert_past b z (insert a m) v ∙ ap (λ (k : List ℕ). z ∷ k) r
        ∙ sym (ap (insert a) (insert_past b z m v) ∙ insert_past a z (insert b m) u)
    at (inl p) (inr q) r = let u = ltb-true z a p in let v = ltb-false z b q in absurd (omega arith)
    at (inr p) (inl q) r =
        let u = ltb-false z a p in let v = ltb-true z b q in
        ap (insert b) (insert-here a z m u) ∙ insert_past b a (z ∷ m) h ∙ ap (λ (k : List ℕ). a ∷ k) (insert_past b z m v)
        ∙ sym (ap (insert a) (insert_past b z m v) ∙ insert-here a z (insert b m) u)
    at (inr p) (inr q) r =
        let u = ltb-false z a p in let v = ltb-false z b q in
        ap (insert b) (insert-here a z m u) ∙ insert_past b a (z ∷ m) h ∙ ap (λ (k : List ℕ). a ∷ k) (insert-here b z m v)
        ∙ sym (ap (insert a) (insert-here b z m v) ∙ insert-here a b (z ∷ m) (omega arith))

-- the order in which two are put in does not matter
pub insert-both : (x y : ℕ) (l : List ℕ) → insert x (insert y l) ≡ insert y (insert x l)
insert-both x y l = go (true-or (ltb x y)) (true-or (ltb y x))
  where
    go : (ltb x y ≡ true) ⊎ (ltb x y ≡ false) → (ltb y x ≡ true) ⊎ (ltb y x ≡ false) → insert x (insert y l) ≡ insert y (insert x l)
    go (inl p) q = sym (insert-two x y l (ltb-true x y p))
    go (inr p) (inl q) = insert-two y x l (ltb-true y x q)
    go (inr p) (inr q) =
        let u = ltb-false x y p in let v = ltb-false y x q in let e : x ≡ y = omega arith in
        ap (λ (z : ℕ). insert z (insert y l)) e ∙ ap (λ (z : ℕ). insert y (insert z l)) (sym e)

-- ---- the place

pub insert-at : (x : ℕ) (l : List ℕ) → take (below x l) l ++ (x ∷ drop (below x l) l) ≡ insert x l
unfolding insert below
insert-at x [] = refl
insert-at x (y ∷ l) = go (ltb y x) (insert-at x l)
  where
    go : (b : Bool) → take (below x l) l ++ (x ∷ drop (below x l) l) ≡ insert x l
        → take (pick b (suc (below x l)) 0) (y ∷ l) ++ (x ∷ drop (pick b (suc (below x l)) 0) (y ∷ l)) ≡ pick b (y ∷ insert x l) (x ∷ y ∷ l)
    go true r = ap (λ (m : List ℕ). y ∷ m) r
    go false r = refl

pub below_is : (x : ℕ) (l : List ℕ) (r : ℕ) → r ≤ length l → ((j : ℕ) → j < r → get_or l j 0 < x) → (r < length l → x ≤ get_or l r 0) → below x l ≡ r
unfolding below
below_is x [] r w b a = omega arith
below_is x (y ∷ l) zero w b a = ap (λ (t : Bool). pick t (suc (below x l)) 0) (le-ltb y x (a (omega arith)))
below_is x (y ∷ l) (suc r) w b a =
    ap (λ (t : Bool). pick t (suc (below x l)) 0) (lt-ltb y x (b 0 (omega arith)))
    ∙ ap suc (below_is x l r (omega arith) (λ j h. b (suc j) (omega arith)) (λ h. a (omega arith)))

pub below_within : (x : ℕ) (l : List ℕ) → below x l ≤ length l
unfolding below
below_within x [] = omega arith
below_within x (y ∷ l) = go (ltb y x) (below_within x l)
  where
    go : (b : Bool) → below x l ≤ length l → pick b (suc (below x l)) 0 ≤ suc (length l)
    go true r = omega arith
    go false r = omega arith

-- whether the place of the key tells the key
abbrev pub hit : (key : ℕ) (l : List ℕ) (i : ℕ) → Bool
hit key l i = pick (ltb i (length l)) (eqb (key_of (get_or l i 0)) key) false

pub record Hit (key : ℕ) (l : List ℕ) (i : ℕ) : Type 0 where
  pub within : i < length l
  pub is : key_of (get_or l i 0) ≡ key

pub hit-true : (key : ℕ) (l : List ℕ) (i : ℕ) → hit key l i ≡ true → Hit key l i
hit-true key l i h = go (ltb i (length l)) (eqb (key_of (get_or l i 0)) key) refl refl h
  where
    go : (a b : Bool) → ltb i (length l) ≡ a → eqb (key_of (get_or l i 0)) key ≡ b → pick a b false ≡ true → Hit key l i
    go true true p q e = record { within = ltb-true _ _ p; is = eqb-true _ _ q }
    go true false p q e = absurd (true-false e refl)
    go false b p q e = absurd (true-false e refl)

-- where it does not, the key stands nowhere
pub missed : (key : ℕ) (l : List ℕ) → Rising l → hit key l (below (entry key 0) l) ≡ false → (y : ℕ) → In y l → key_of y ≢ key
unfolding below
missed key [] r h y i = absurd i
missed key (z ∷ l) r h y i = go (true-or (ltb z (entry key 0))) (missed key l r.1) h i
  where
    go : (ltb z (entry key 0) ≡ true) ⊎ (ltb z (entry key 0) ≡ false) → (hit key l (below (entry key 0) l) ≡ false → (y : ℕ) → In y l → key_of y ≢ key)
        → hit key (z ∷ l) (pick (ltb z (entry key 0)) (suc (below (entry key 0) l)) 0) ≡ false → In y (z ∷ l) → key_of y ≢ key
    go (inl t) rest h i =
        let p = ltb-true z (entry key 0) t in
        let h' : hit key (z ∷ l) (suc (below (entry key 0) l)) ≡ false = rw t at h in
        ⊎_elim (λ e. λ q. omega (arith, ap key_of e)) (λ k. rest (on h') y k) i
      where
        on : hit key (z ∷ l) (suc (below (entry key 0) l)) ≡ false → hit key l (below (entry key 0) l) ≡ false
        on e = step (true-or (ltb (below (entry key 0) l) (length l)))
          where
            step : (ltb (below (entry key 0) l) (length l) ≡ true) ⊎ (ltb (below (entry key 0) l) (length l) ≡ false) → hit key l (below (entry key 0) l) ≡ false
            step (inl a) =
                let b = lt-ltb (suc (below (entry key 0) l)) (suc (length l)) (omega (arith, ltb-true (below (entry key 0) l) (length l) a)) in
                ap (λ (c : Bool). pick c (eqb (key_of (get_or l (below (entry key 0) l) 0)) key) false) (a ∙ sym b) ∙ e
            step (inr a) = ap (λ (c : Bool). pick c (eqb (key_of (get_or l (below (entry key 0) l) 0)) key) false) a
    go (inr f) rest h i =
        let p = ltb-false z (entry key 0) f in
        let h' : hit key (z ∷ l) 0 ≡ false = rw f at h in
        let n = eqb-false (key_of z) key (ap (λ (c : Bool). pick c (eqb (key_of z) key) false) (sym (lt-ltb 0 (suc (length l)) (omega arith))) ∙ h') in
        ⊎_elim (λ e. λ q. n (sym (ap key_of e) ∙ q)) (λ k. λ q. omega (arith, r.0 y k)) i

-- and the place of the key is that of any start beside it
pub below-entry : (key start : ℕ) (l : List ℕ) → start < STARTS → ((y : ℕ) → In y l → key_of y ≢ key) → below (entry key 0) l ≡ below (entry key start) l
unfolding below
below-entry key start [] s new = refl
below-entry key start (y ∷ l) s new = go (true-or (ltb y (entry key 0))) (true-or (ltb y (entry key start))) (below-entry key start l s (λ z i. new z (inr i)))
  where
    go : (ltb y (entry key 0) ≡ true) ⊎ (ltb y (entry key 0) ≡ false) → (ltb y (entry key start) ≡ true) ⊎ (ltb y (entry key start) ≡ false)
        → below (entry key 0) l ≡ below (entry key start) l
        → pick (ltb y (entry key 0)) (suc (below (entry key 0) l)) 0 ≡ pick (ltb y (entry key start)) (suc (below (entry key start) l)) 0
    go (inl a) (inl b) r = ap₂ (λ (t : Bool) (n : ℕ). pick t (suc n) 0) (a ∙ sym b) r
    go (inl a) (inr b) r = absurd (let p = ltb-true y (entry key 0) a in let q = ltb-false y (entry key start) b in omega arith)
    go (inr a) (inl b) r = absurd (let p = ltb-false y (entry key 0) a in let q = ltb-true y (entry key start) b in omega (arith, new y (inl refl)))
    go (inr a) (inr b) r = ap₂ (λ (t : Bool) (n : ℕ). pick t (suc n) 0) (a ∙ sym b) r

-- ---- taken out

pub in_without : (x z : ℕ) (l : List ℕ) → In z (without x l) → In z l
unfolding without
in_without x z [] h = h
in_without x z (y ∷ l) h =
    either (λ m. In z m → In z (y ∷ l)) (eqb y x) (without x l) (y ∷ without x l)
    (λ t. λ i. inr (in_without x z l i)) (λ f. λ i. ⊎_elim inl (λ k. inr (in_without x z l k)) i) h

pub rising_without : (x : ℕ) (l : List ℕ) → Rising l → Rising (without x l)
unfolding without
rising_without x [] r = tt
rising_without x (y ∷ l) r =
    either Rising (eqb y x) (without x l) (y ∷ without x l) (λ t. rising_without x l r.1) (λ f. ((λ z i. r.0 z (in_without x z l i)), rising_without x l r.1))

pub without-none : (x : ℕ) (l : List ℕ) → (In x l → ⊥) → without x l ≡ l
unfolding without
without-none x [] h = refl
without-none x (y ∷ l) h =
    ap (λ (b : Bool). pick b (without x l) (y ∷ without x l)) (ne_eqb y x (λ e. h (inl (sym e)))) ∙ ap (λ (m : List ℕ). y ∷ m) (without-none x l (λ i. h (inr i)))

without-first : (x : ℕ) (l : List ℕ) → without x (x ∷ l) ≡ without x l
unfolding without
without-first x l = ap (λ (b : Bool). pick b (without x l) (x ∷ without x l)) (eq-eqb x x refl)

without_past : (x y : ℕ) (l : List ℕ) → y ≢ x → without x (y ∷ l) ≡ y ∷ without x l
unfolding without
without_past x y l h = ap (λ (b : Bool). pick b (without x l) (y ∷ without x l)) (ne_eqb y x h)

-- what was put in is taken out
pub without-insert : (x : ℕ) (l : List ℕ) → without x (insert x l) ≡ without x l
unfolding insert
without-insert x [] = without-first x []
without-insert x (y ∷ l) = go (true-or (ltb y x)) (without-insert x l)
  where
    go : (ltb y x ≡ true) ⊎ (ltb y x ≡ false) → without x (insert x l) ≡ without x l → without x (insert x (y ∷ l)) ≡ without x (y ∷ l)
    go (inl t) r =
        let p = ltb-true y x t in
        ap (without x) (insert_past x y l p) ∙ without_past x y (insert x l) (λ e. omega arith) ∙ ap (λ (m : List ℕ). y ∷ m) r ∙ sym (without_past x y l (λ e. omega arith))
    go (inr f) r = ap (without x) (insert-here x y l (ltb-false y x f)) ∙ without-first x (y ∷ l)

insert-first : (x : ℕ) (l : List ℕ) → ((y : ℕ) → In y l → x ≤ y) → insert x l ≡ x ∷ l
unfolding insert
insert-first x [] h = refl
insert-first x (y ∷ l) h = insert-here x y l (h y (inl refl))

-- another one stays
pub without_other : (x y : ℕ) (l : List ℕ) → Up l → y ≢ x → without x (insert y l) ≡ insert y (without x l)
unfolding insert without
without_other x y [] u ne = without_past x y [] ne
without_other x y (z ∷ l) u ne = go (true-or (ltb z y)) (ℕ_discrete z x) (without_other x y l u.1 ne)
  where
    go : (ltb z y ≡ true) ⊎ (ltb z y ≡ false) → Dec (z ≡ x) → without x (insert y l) ≡ insert y (without x l) → without x (insert y (z ∷ l)) ≡ insert y (without x (z ∷ l))
    go (inl t) (yes e) r =
        ap (without x) (insert_past y z l (ltb-true z y t)) ∙ ap (λ (b : Bool). pick b (without x (insert y l)) (z ∷ without x (insert y l))) (eq-eqb z x e) ∙ r
        ∙ ap (insert y) (sym (ap (λ (b : Bool). pick b (without x l) (z ∷ without x l)) (eq-eqb z x e)))
    go (inl t) (no n) r =
        ap (without x) (insert_past y z l (ltb-true z y t)) ∙ without_past x z (insert y l) n ∙ ap (λ (m : List ℕ). z ∷ m) r
        ∙ sym (ap (insert y) (without_past x z l n) ∙ insert_past y z (without x l) (ltb-true z y t))
    go (inr f) d r =
        let p = ltb-false z y f in
        ap (without x) (insert-here y z l p) ∙ without_past x y (z ∷ l) ne
        ∙ sym (insert-first y (without x (z ∷ l)) (λ w i. ⊎_elim (λ e. omega arith) (λ k. omega (arith, u.0 w k)) (in_without x w (z ∷ l) i)))

-- the place i taken out
pub without_at : (l : List ℕ) → Rising l → (i : ℕ) → i < length l → take i l ++ drop (suc i) l ≡ without (get_or l i 0) l
without_at [] r i h = absurd (omega arith)
without_at (y ∷ l) r zero h =
    sym (without-first y l ∙ without-none y l (λ k. omega (arith, r.0 y k)))
without_at (y ∷ l) r (suc i) h =
    ap (λ (m : List ℕ). y ∷ m) (without_at l r.1 i (omega arith))
    ∙ sym (without_past (get_or l i 0) y l (λ e. omega (arith, r.0 (get_or l i 0) (get_d_in l i (omega arith)), ap key_of e)))
