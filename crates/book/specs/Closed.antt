-- A book closed up. Of its bytes the live pieces are kept, one after another (`kept`), by the lengths that they tell; a start becomes how many live bytes stood before it (`slid`).
-- Of bytes that are pieces that is the live ones of them (`kept-joined`), with their index (`placed-lives`), and every key has the sheet that it had (`sheet-lives`). Assumes nothing.
use Rattle.std.specs.Prelude.{ℕ, zero, suc, ◌+◌, ◌-◌, ◌≤◌, ◌<◌, ◌≡◌, Bool, true, false, ◌⊎◌, ◌≢◌, ltb, take, drop}
use Rattle.std.proofs.Math.Path.{refl, sym, ap}
use Rattle.std.proofs.Common.{ap₂, ◌∙◌, subst, inl, inr, ⊎_elim, arith, length-append, length-take, length-drop, take_at, drop_at}
use Rattle.std.proofs.Math.Option.{Option, some}
use mathlib.Core.List.{List, [], ◌∷◌, ◌++◌, append_assoc, append-nil, map}
use Rattle.std.proofs.Math.ListN.{length}
use Rattle.std.proofs.Math.Seq.{take-append_seam}
use borrow.Author.Tests.{ltb-true, ltb-false, lt-ltb, le-ltb}
use Rattle.scan.specs.Scan.{pick}
use Rattle.scan.specs.Laws.{true-or}
use Rattle.paths.specs.Lists.{In}
use Rattle.sheet.specs.Format.{HEAD}
use Rattle.book.specs.Ordered.{STARTS, entry, key_of, start_of, insert, Rising, insert_in}
use Rattle.book.specs.Pieces.{length_of, live, key_at, of, joined, placed, sheet_of}
use Rattle.book.specs.Stands.{Piece, Sound, Stands, length_front, live-front}
use Rattle.book.specs.Removed.{gone, mark, gone-live, mark-here, mark_later, beyond}

-- ---- definitions

-- the bytes of the live pieces, piece by piece by the lengths that they tell, in so many steps at most; what is shorter than a head is no piece
unfoldable pub keep : (steps : ℕ) (l : List ℕ) → List ℕ
keep zero l = []
keep (suc steps) l =
    pick (ltb (length l) HEAD) []
    (pick (live l) (take (length_of l) l ++ keep steps (drop (length_of l) l)) (keep steps (drop (length_of l) l)))

unfoldable pub kept : List ℕ → List ℕ
kept l = keep (length l) l

-- a place of the index, where the bytes in use are l
unfoldable pub slid : (l : List ℕ) (x : ℕ) → ℕ
slid l x = entry (key_of x) (length (kept (take (start_of x) l)))

-- the live ones of pieces
unfoldable pub lives : List (List ℕ) → List (List ℕ)
lives [] = []
lives (p ∷ ps) = pick (live p) (p ∷ lives ps) (lives ps)

-- ---- steps enough

more-steps : (steps : ℕ) (l : List ℕ) → length l ≤ steps → keep (suc steps) l ≡ keep steps l
unfolding keep
more-steps zero l h = ap (λ (b : Bool). pick b [] (pick (live l) (take (length_of l) l ++ []) [])) (lt-ltb (length l) HEAD (omega arith))
more-steps (suc steps) l h =
    let less : length (drop (length_of l) l) ≤ steps = omega (arith, length-drop (length_of l) l) in
    ap (λ (r : List ℕ). pick (ltb (length l) HEAD) [] (pick (live l) (take (length_of l) l ++ r) r)) (more-steps steps (drop (length_of l) l) less)

enough : (more steps : ℕ) (l : List ℕ) → length l ≤ steps → keep (steps + more) l ≡ keep steps l
enough zero steps l h = let e : steps + 0 ≡ steps = omega arith in ap (λ (n : ℕ). keep n l) e
enough (suc more) steps l h =
    let e : steps + suc more ≡ suc (steps + more) = omega arith in
    ap (λ (n : ℕ). keep n l) e ∙ more-steps (steps + more) l (omega arith) ∙ enough more steps l h

pub kept-steps : (steps : ℕ) (l : List ℕ) → length l ≤ steps → keep steps l ≡ kept l
unfolding kept
kept-steps steps l h =
    let e : steps ≡ length l + (steps - length l) = omega arith in
    ap (λ (n : ℕ). keep n l) e ∙ enough (steps - length l) (length l) l (omega arith)

-- ---- one step

pub kept-short : (l : List ℕ) → length l < HEAD → kept l ≡ []
unfolding keep
kept-short l h =
    sym (kept-steps (suc (length l)) l (omega arith))
    ∙ ap (λ (b : Bool). pick b [] (pick (live l) (take (length_of l) l ++ keep (length l) (drop (length_of l) l)) (keep (length l) (drop (length_of l) l)))) (lt-ltb (length l) HEAD h)

pub kept_step : (l : List ℕ) → HEAD ≤ length l → kept l ≡ pick (live l) (take (length_of l) l ++ kept (drop (length_of l) l)) (kept (drop (length_of l) l))
unfolding keep
kept_step l h =
    let less : length (drop (length_of l) l) ≤ length l = omega (arith, length-drop (length_of l) l) in
    sym (kept-steps (suc (length l)) l (omega arith))
    ∙ ap (λ (b : Bool). pick b [] (pick (live l) (take (length_of l) l ++ keep (length l) (drop (length_of l) l)) (keep (length l) (drop (length_of l) l)))) (le-ltb (length l) HEAD h)
    ∙ ap (λ (r : List ℕ). pick (live l) (take (length_of l) l ++ r) r) (kept-steps (length l) (drop (length_of l) l) less)

keep_long : (steps : ℕ) (l : List ℕ) → length (keep steps l) ≤ length l
unfolding keep
keep_long zero l = omega arith
keep_long (suc steps) l = go (ltb (length l) HEAD) (live l) (keep_long steps (drop (length_of l) l))
  where
    go : (a b : Bool) → length (keep steps (drop (length_of l) l)) ≤ length (drop (length_of l) l)
        → length (pick a [] (pick b (take (length_of l) l ++ keep steps (drop (length_of l) l)) (keep steps (drop (length_of l) l)))) ≤ length l
    go true b r = omega arith
    go false true r = omega (arith, length-append (take (length_of l) l) (keep steps (drop (length_of l) l)), length-take (length_of l) l, length-drop (length_of l) l)
    go false false r = omega (arith, length-drop (length_of l) l)

pub kept_long : (l : List ℕ) → length (kept l) ≤ length l
unfolding kept
kept_long l = keep_long (length l) l

-- ---- of pieces

pub kept-joined : (ps : List (List ℕ)) → Sound ps → kept (joined ps) ≡ joined (lives ps)
unfolding joined lives
kept-joined [] d = kept-short [] (omega arith)
kept-joined (p ∷ ps) d =
    let long = d.0.long in
    let n = length_front p (joined ps) long ∙ d.0.told in
    kept_step (p ++ joined ps) (omega (arith, length-append p (joined ps)))
    ∙ ap (λ (k : ℕ). pick (live (p ++ joined ps)) (take k (p ++ joined ps) ++ kept (drop k (p ++ joined ps))) (kept (drop k (p ++ joined ps)))) n
    ∙ ap₂ (λ (a b : List ℕ). pick (live (p ++ joined ps)) (a ++ kept b) (kept b)) (take-append_seam p (joined ps)) (drop_at p (joined ps) (length p) refl)
    ∙ ap₂ (λ (b : Bool) (r : List ℕ). pick b (p ++ r) r) (live-front p (joined ps) long) (kept-joined ps d.1)
    ∙ go (live p)
  where
    go : (b : Bool) → pick b (p ++ joined (lives ps)) (joined (lives ps)) ≡ joined (pick b (p ∷ lives ps) (lives ps))
    go true = refl
    go false = refl

pub sound_lives : (ps : List (List ℕ)) → Sound ps → Sound (lives ps)
unfolding lives
sound_lives [] d = tt
sound_lives (p ∷ ps) d = go (live p) (sound_lives ps d.1)
  where
    go : (b : Bool) → Sound (lives ps) → Sound (pick b (p ∷ lives ps) (lives ps))
    go true r = (d.0, r)
    go false r = r

pub sheet-lives : (kind size source : ℕ) (ps : List (List ℕ)) → sheet_of kind size source (lives ps) ≡ sheet_of kind size source ps
unfolding lives sheet_of
sheet-lives kind size source [] = refl
sheet-lives kind size source (p ∷ ps) = go (live p) refl (sheet-lives kind size source ps)
  where
    go : (b : Bool) → live p ≡ b → sheet_of kind size source (lives ps) ≡ sheet_of kind size source ps
        → sheet_of kind size source (pick b (p ∷ lives ps) (lives ps)) ≡ pick b (pick (of kind size source p) (some p) (sheet_of kind size source ps)) (sheet_of kind size source ps)
    go true e r =
        ap (λ (c : Bool). pick c (pick (of kind size source p) (some p) (sheet_of kind size source (lives ps))) (sheet_of kind size source (lives ps))) e
        ∙ ap (λ (o : Option (List ℕ)). pick (of kind size source p) (some p) o) r
    go false e r = r

pub lives_more : (ps : List (List ℕ)) (q : List ℕ) → live q ≡ true → lives (ps ++ (q ∷ [])) ≡ lives ps ++ (q ∷ [])
unfolding lives
lives_more [] q e = ap (λ (b : Bool). pick b (q ∷ []) []) e
lives_more (p ∷ ps) q e = ap (λ (r : List (List ℕ)). pick (live p) (p ∷ r) r) (lives_more ps q e) ∙ go (live p)
  where
    go : (b : Bool) → pick b (p ∷ (lives ps ++ (q ∷ []))) (lives ps ++ (q ∷ [])) ≡ pick b (p ∷ lives ps) (lives ps) ++ (q ∷ [])
    go true = refl
    go false = refl

pub lives_twice : (ps : List (List ℕ)) → lives (lives ps) ≡ lives ps
unfolding lives
lives_twice [] = refl
lives_twice (p ∷ ps) = go (live p) refl (lives_twice ps)
  where
    go : (b : Bool) → live p ≡ b → lives (lives ps) ≡ lives ps → lives (pick b (p ∷ lives ps) (lives ps)) ≡ pick b (p ∷ lives ps) (lives ps)
    go true e r = ap₂ (λ (c : Bool) (m : List (List ℕ)). pick c (p ∷ m) m) e r
    go false e r = r

-- ---- places of the index

slid-start : (l : List ℕ) (x : ℕ) → length (kept (take (start_of x) l)) < STARTS
slid-start l x = omega (arith, kept_long (take (start_of x) l), length-take (start_of x) l)

pub slid-key : (l : List ℕ) (x : ℕ) → key_of (slid l x) ≡ key_of x
unfolding slid
slid-key l x = go (key_of x) (length (kept (take (start_of x) l))) (slid-start l x)
  where
    go : (k s : ℕ) → s < STARTS → key_of (entry k s) ≡ k
    go k s h = omega arith

module _ (f : ℕ → ℕ) (same : (x : ℕ) → key_of (f x) ≡ key_of x) where
  in_map : (l : List ℕ) (y : ℕ) → In y (map f l) → (x : ℕ) × (In x l × (y ≡ f x))
  in_map [] y i = absurd i
  in_map (x ∷ l) y (inl e) = (x, (inl refl, e))
  in_map (x ∷ l) y (inr i) = let r = in_map l y i in (r.0, (inr r.1.0, r.1.1))

  pub rising_map : (l : List ℕ) → Rising l → Rising (map f l)
  rising_map [] r = tt
  rising_map (x ∷ l) r = (
    λ y i. let m = in_map l y i in omega (arith, r.0 m.0 m.1.0, same x, same m.0, ap key_of m.1.1),
    rising_map l r.1,
  )

  insert-map : (x : ℕ) (l : List ℕ) → ((y : ℕ) → In y l → key_of y ≢ key_of x) → map f (insert x l) ≡ insert (f x) (map f l)
  unfolding insert
  insert-map x [] new = refl
  insert-map x (y ∷ l) new = go (true-or (ltb y x)) (true-or (ltb (f y) (f x))) (insert-map x l (λ z i. new z (inr i)))
    where
      go : (ltb y x ≡ true) ⊎ (ltb y x ≡ false) → (ltb (f y) (f x) ≡ true) ⊎ (ltb (f y) (f x) ≡ false) → map f (insert x l) ≡ insert (f x) (map f l)
          → map f (pick (ltb y x) (y ∷ insert x l) (x ∷ y ∷ l)) ≡ pick (ltb (f y) (f x)) (f y ∷ insert (f x) (map f l)) (f x ∷ f y ∷ map f l)
      go (inl a) (inl b) r =
          ap (λ (c : Bool). map f (pick c (y ∷ insert x l) (x ∷ y ∷ l))) a ∙ ap (λ (m : List ℕ). f y ∷ m) r
          ∙ sym (ap (λ (c : Bool). pick c (f y ∷ insert (f x) (map f l)) (f x ∷ f y ∷ map f l)) b)
      go (inl a) (inr b) r = let p = ltb-true y x a in let q = ltb-false (f y) (f x) b in absurd (omega (arith, new y (inl refl), same x, same y))
      go (inr a) (inl b) r = let p = ltb-false y x a in let q = ltb-true (f y) (f x) b in absurd (omega (arith, new y (inl refl), same x, same y))
      go (inr a) (inr b) r =
          ap (λ (c : Bool). map f (pick c (y ∷ insert x l) (x ∷ y ∷ l))) a
          ∙ sym (ap (λ (c : Bool). pick c (f y ∷ insert (f x) (map f l)) (f x ∷ f y ∷ map f l)) b)

-- a key that was put in stood nowhere, and the rest rises
rising_rest : (x : ℕ) (l : List ℕ) → Rising (insert x l) → ((y : ℕ) → In y l → key_of y ≢ key_of x) × Rising l
unfolding insert
rising_rest x [] r = ((λ y i. absurd i), tt)
rising_rest x (y ∷ l) r = go (ltb y x) r (rising_rest x l)
  where
    go : (b : Bool) → Rising (pick b (y ∷ insert x l) (x ∷ y ∷ l)) → (Rising (insert x l) → ((z : ℕ) → In z l → key_of z ≢ key_of x) × Rising l)
        → ((z : ℕ) → In z (y ∷ l) → key_of z ≢ key_of x) × Rising (y ∷ l)
    go true r rest =
        let w = rest r.1 in
        ((λ z i. ⊎_elim (λ e. λ q. omega (arith, r.0 x (insert_in x x l (inl refl)), ap key_of e)) (λ k. w.0 z k) i), ((λ z i. r.0 z (insert_in x z l (inr i))), w.1))
    go false r rest = ((λ z i q. omega (arith, r.0 z i)), r.1)

-- ---- the index of the live ones

-- a place of pieces before which the pieces qs stand, where rs come after: its start becomes the length of the live ones among them
slid_at : (qs rs : List (List ℕ)) (k n : ℕ) → Sound qs → n ≡ length (joined qs) → n < STARTS → slid (joined qs ++ joined rs) (entry k n) ≡ entry k (length (joined (lives qs)))
unfolding slid
slid_at qs rs k n d e h =
    let key : key_of (entry k n) ≡ k = (far k n h).0 in
    let start : start_of (entry k n) ≡ n = (far k n h).1 in
    ap₂ (λ (a b : ℕ). entry a (length (kept (take b (joined qs ++ joined rs))))) key start
    ∙ ap (λ (l : List ℕ). entry k (length (kept l))) (take_at (joined qs) (joined rs) n (sym e))
    ∙ ap (λ (l : List ℕ). entry k (length l)) (kept-joined qs d)
  where
    far : (k n : ℕ) → n < STARTS → (key_of (entry k n) ≡ k) × (start_of (entry k n) ≡ n)
    far k n h = (omega arith, omega arith)

joined-both : (ps qs : List (List ℕ)) → joined (ps ++ qs) ≡ joined ps ++ joined qs
unfolding joined
joined-both [] qs = refl
joined-both (p ∷ ps) qs = ap (λ (l : List ℕ). p ++ l) (joined-both ps qs) ∙ sym (append_assoc p (joined ps) (joined qs))

-- the live ones of qs are behind those of ps
lives-both : (ps qs : List (List ℕ)) → lives (ps ++ qs) ≡ lives ps ++ lives qs
unfolding lives
lives-both [] qs = refl
lives-both (p ∷ ps) qs = ap (λ (r : List (List ℕ)). pick (live p) (p ∷ r) r) (lives-both ps qs) ∙ go (live p)
  where
    go : (b : Bool) → pick b (p ∷ (lives ps ++ lives qs)) (lives ps ++ lives qs) ≡ pick b (p ∷ lives ps) (lives ps) ++ lives qs
    go true = refl
    go false = refl

sound_both : (ps : List (List ℕ)) (q : List ℕ) → Sound ps → Piece q → Sound (ps ++ (q ∷ []))
sound_both [] q s h = (h, tt)
sound_both (p ∷ ps) q s h = (s.0, sound_both ps q s.1 h)

module _ (l : List ℕ) where
  placed_behind : (qs rs : List (List ℕ)) → Sound qs → Sound rs → l ≡ joined qs ++ joined rs → length l ≤ STARTS → Rising (placed (length (joined qs)) rs)
      → placed (length (joined (lives qs))) (lives rs) ≡ map (slid l) (placed (length (joined qs)) rs)
  unfolding placed lives joined
  placed_behind qs [] a d e h r = refl
  placed_behind qs (p ∷ rs) a d e h r =
      go (live p) refl r (λ (r' : Rising (placed (length (joined qs) + length p) rs)).
      placed_behind (qs ++ (p ∷ [])) rs (sound_both qs p a d.0) d.1 whole h (subst (λ (n : ℕ). Rising (placed n rs)) (sym further) r')
      ∙ ap (λ (n : ℕ). map (slid l) (placed n rs)) further)
    where
      whole : l ≡ joined (qs ++ (p ∷ [])) ++ joined rs
      whole =
          e ∙ sym (append_assoc (joined qs) p (joined rs))
          ∙ ap (λ (m : List ℕ). m ++ joined rs) (ap (λ (m : List ℕ). joined qs ++ m) (sym (append-nil p)) ∙ sym (joined-both qs (p ∷ [])))

      further : length (joined (qs ++ (p ∷ []))) ≡ length (joined qs) + length p
      further = ap length (joined-both qs (p ∷ [])) ∙ length-append (joined qs) (p ++ []) ∙ ap (λ (m : List ℕ). length (joined qs) + length m) (append-nil p)

      long : length l ≡ length (joined qs) + length p + length (joined rs)
      long = ap length whole ∙ length-append (joined (qs ++ (p ∷ []))) (joined rs) ∙ ap (λ (n : ℕ). n + length (joined rs)) further

      here : slid l (entry (key_at p) (length (joined qs))) ≡ entry (key_at p) (length (joined (lives qs)))
      here =
          ap (λ (m : List ℕ). slid m (entry (key_at p) (length (joined qs)))) e
          ∙ slid_at qs (p ∷ rs) (key_at p) (length (joined qs)) a refl (omega (arith, long, d.0.long))

      go : (b : Bool) → live p ≡ b → Rising (pick b (insert (entry (key_at p) (length (joined qs))) (placed (length (joined qs) + length p) rs)) (placed (length (joined qs) + length p) rs))
          → (Rising (placed (length (joined qs) + length p) rs) → placed (length (joined (lives (qs ++ (p ∷ []))))) (lives rs) ≡ map (slid l) (placed (length (joined qs) + length p) rs))
          → placed (length (joined (lives qs))) (pick b (p ∷ lives rs) (lives rs))
          ≡ map (slid l) (pick b (insert (entry (key_at p) (length (joined qs))) (placed (length (joined qs) + length p) rs)) (placed (length (joined qs) + length p) rs))
      go true b r rest =
          let x = entry (key_at p) (length (joined qs)) in
          let w = rising_rest x (placed (length (joined qs) + length p) rs) r in
          ap (λ (c : Bool). pick c (insert (entry (key_at p) (length (joined (lives qs)))) (placed (length (joined (lives qs)) + length p) (lives rs))) (placed (length (joined (lives qs)) + length p) (lives rs))) b
          ∙ ap (insert (entry (key_at p) (length (joined (lives qs))))) (ap (λ (n : ℕ). placed n (lives rs)) live-further ∙ rest w.1)
          ∙ ap (λ (y : ℕ). insert y (map (slid l) (placed (length (joined qs) + length p) rs))) (sym here)
          ∙ sym (insert-map (slid l) (slid-key l) x (placed (length (joined qs) + length p) rs) w.0)
        where
          live-further : length (joined (lives qs)) + length p ≡ length (joined (lives (qs ++ (p ∷ []))))
          live-further =
              sym (ap (λ (m : List (List ℕ)). length (joined m)) (lives_more qs p b) ∙ ap length (joined-both (lives qs) (p ∷ []))
              ∙ length-append (joined (lives qs)) (p ++ []) ∙ ap (λ (m : List ℕ). length (joined (lives qs)) + length m) (append-nil p))
      go false b r rest = ap (λ (n : ℕ). placed n (lives rs)) still ∙ rest r
        where
          still : length (joined (lives qs)) ≡ length (joined (lives (qs ++ (p ∷ []))))
          still =
              sym (ap (λ (m : List (List ℕ)). length (joined m)) (lives-both qs (p ∷ []) ∙ ap (λ (m : List (List ℕ)). lives qs ++ m) (ap (λ (c : Bool). pick c (p ∷ []) []) b))
              ∙ ap (λ (m : List (List ℕ)). length (joined m)) (append-nil (lives qs)))

pub placed-lives : (ps : List (List ℕ)) → Sound ps → length (joined ps) ≤ STARTS → Rising (placed 0 ps) → placed 0 (lives ps) ≡ map (slid (joined ps)) (placed 0 ps)
unfolding joined lives
placed-lives ps d h r = placed_behind (joined ps) [] ps tt d refl h r

-- ---- a piece that is removed

-- its bytes are live ones no more
pub lives-mark : (from s : ℕ) (p : List ℕ) (ps : List (List ℕ)) → Sound ps → Stands from ps s p → live p ≡ true → length (joined (lives ps)) ≡ length p + length (joined (lives (mark from s ps)))
unfolding lives joined
lives-mark from s p [] d g l = absurd g
lives-mark from s p (q ∷ ps) d (inl g) l =
    let own : live q ≡ true = ap live (sym g.1) ∙ l in
    let gone-now = gone-live q (omega (arith, d.0.long)) in
    ap (λ (b : Bool). length (joined (pick b (q ∷ lives ps) (lives ps)))) own ∙ length-append q (joined (lives ps))
    ∙ ap₂ (λ (k : List ℕ) (r : List (List ℕ)). length k + length (joined r)) (sym g.1)
    (sym (ap lives (mark-here from s q ps g.0) ∙ ap (λ (b : Bool). pick b (gone q ∷ lives ps) (lives ps)) gone-now))
lives-mark from s p (q ∷ ps) d (inr g) l =
    go (live q) (lives-mark (from + length q) s p ps d.1 g l)
    ∙ ap (λ (r : List (List ℕ)). length p + length (joined (lives r))) (sym (mark_later from s q ps (beyond from s q ps d.0 p g)))
  where
    go : (b : Bool) → length (joined (lives ps)) ≡ length p + length (joined (lives (mark (from + length q) s ps)))
        → length (joined (pick b (q ∷ lives ps) (lives ps))) ≡ length p + length (joined (pick b (q ∷ lives (mark (from + length q) s ps)) (lives (mark (from + length q) s ps))))
    go true r = length-append q (joined (lives ps)) ∙ omega (arith, r, length-append q (joined (lives (mark (from + length q) s ps))))
    go false r = r
