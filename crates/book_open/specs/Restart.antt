-- A book opened again from its used bytes has the head and the index that it had (`restart`): the pieces are gone through from the front, each put into the index where it belongs
-- (`gathered`), and the order in which they are put in does not matter. Assumes nothing.
use Rattle.std.specs.Prelude.{ℕ, zero, suc, ◌+◌, ◌-◌, ◌*◌, ◌/◌, ◌%◌, ◌≤◌, ◌<◌, min, ◌≡◌, Bool, true, false, not, ◌⊎◌, ◌≢◌, List, [], ◌∷◌, ◌++◌, eqb, ltb, leb, length, get_or, take, drop}
use Rattle.std.proofs.Math.Path.{refl, ap₂}
use Rattle.std.proofs.Common.{sym, ap, ◌∙◌, subst, inl, inr, ⊎_elim, arith, length-append, take_at, drop_at, length-take-le, le-ltb, ne_eqb}
use Rattle.std.proofs.Math.Option.{Option, none, some}
use Rattle.std.proofs.lemmas.List.Edits.{sets}
use Rattle.std.proofs.lemmas.Bool.{lt-leb}
use Rattle.scan.specs.Scan.{pick}
use Rattle.scan.specs.Laws.{true-or, true-false}
use Rattle.paths.specs.Lists.{In}
use Rattle.sheet.specs.Format.{HEAD}
use Rattle.sheet.specs.declared.Flaw.{Flaw}
use Rattle.book.specs.Ordered.{STARTS, entry, key_of, start_of, insert, below, hit, Hit, hit-true, Rising, get_d_in, in_insert, insert_in, insert-both, same_key}
use Rattle.book.specs.Pieces.{length_of, live, key_at, joined, placed}
use Rattle.book.specs.Sheets.{against}
use Rattle.book.specs.Stands.{Piece, Sound, length_front, live-front, key-front}
use Rattle.book.specs.Says.{LIMIT, capacity, book_of}
use Rattle.book.specs.Held.{Held, within, used_is, entries_are, few}
use Rattle.book.specs.Open.{Opening, done, bad, go_on, fine_length, piece_length, enters, enters_index, open_from, opening, opened_by, left_by, open_says, open_index}
use Rattle.book.specs.declared.Book.{Book}
use Rattle.book.specs.Types.{Entered, Opened}
use Rattle.std.specs.Prelude.{Ok, Err}
use Rattle.book.specs.declared.NotOpened.TheVariants as opened
use Rattle.book.specs.declared.NotEntered.TheVariants as entered
use Rattle.book_open.specs.Pieces.{piece_is, piece_by}
use Rattle.book_open.specs.Opens.{open_step, open_none}

-- the pieces put into an index one after another
unfoldable pub gathered : (from : ℕ) → List (List ℕ) → List ℕ → List ℕ
gathered from [] l = l
gathered from (p ∷ ps) l = gathered (from + length p) ps (pick (live p) (insert (entry (key_at p) from) l) l)

gathered-insert : (from : ℕ) (ps : List (List ℕ)) (x : ℕ) (l : List ℕ) → gathered from ps (insert x l) ≡ insert x (gathered from ps l)
unfolding gathered
gathered-insert from [] x l = refl
gathered-insert from (p ∷ ps) x l = go (live p) (gathered-insert (from + length p) ps x)
  where
    go : (b : Bool) → ((m : List ℕ) → gathered (from + length p) ps (insert x m) ≡ insert x (gathered (from + length p) ps m))
        → gathered (from + length p) ps (pick b (insert (entry (key_at p) from) (insert x l)) (insert x l)) ≡ insert x (gathered (from + length p) ps (pick b (insert (entry (key_at p) from) l) l))
    go true r = ap (gathered (from + length p) ps) (insert-both (entry (key_at p) from) x l) ∙ r (insert (entry (key_at p) from) l)
    go false r = r l

pub gathered-placed : (from : ℕ) (ps : List (List ℕ)) → gathered from ps [] ≡ placed from ps
unfolding gathered placed
gathered-placed from [] = refl
gathered-placed from (p ∷ ps) = go (live p) (gathered-placed (from + length p) ps)
  where
    go : (b : Bool) → gathered (from + length p) ps [] ≡ placed (from + length p) ps
        → gathered (from + length p) ps (pick b (insert (entry (key_at p) from) []) []) ≡ pick b (insert (entry (key_at p) from) (placed (from + length p) ps)) (placed (from + length p) ps)
    go true r = gathered-insert (from + length p) ps (entry (key_at p) from) [] ∙ ap (insert (entry (key_at p) from)) r
    go false r = r

gathered_in : (from : ℕ) (ps : List (List ℕ)) (l : List ℕ) (y : ℕ) → In y l → In y (gathered from ps l)
unfolding gathered
gathered_in from [] l y i = i
gathered_in from (p ∷ ps) l y i = go (live p) (λ m j. gathered_in (from + length p) ps m y j)
  where
    go : (b : Bool) → ((m : List ℕ) → In y m → In y (gathered (from + length p) ps m)) → In y (gathered (from + length p) ps (pick b (insert (entry (key_at p) from) l) l))
    go true r = r (insert (entry (key_at p) from) l) (insert_in (entry (key_at p) from) y l (inr i))
    go false r = r l i

insert_long : (x : ℕ) (l : List ℕ) → length (insert x l) ≡ suc (length l)
unfolding insert
insert_long x [] = refl
insert_long x (y ∷ l) = go (ltb y x) (insert_long x l)
  where
    go : (b : Bool) → length (insert x l) ≡ suc (length l) → length (pick b (y ∷ insert x l) (x ∷ y ∷ l)) ≡ suc (suc (length l))
    go true r = ap suc r
    go false r = refl

gathered_long : (from : ℕ) (ps : List (List ℕ)) (l : List ℕ) → length l ≤ length (gathered from ps l)
unfolding gathered
gathered_long from [] l = omega arith
gathered_long from (p ∷ ps) l = go (live p) (λ m. gathered_long (from + length p) ps m)
  where
    go : (b : Bool) → ((m : List ℕ) → length m ≤ length (gathered (from + length p) ps m)) → length l ≤ length (gathered (from + length p) ps (pick b (insert (entry (key_at p) from) l) l))
    go true r = omega (arith, r (insert (entry (key_at p) from) l), insert_long (entry (key_at p) from) l)
    go false r = r l

-- ---- one piece

module _ (from : ℕ) (p r : List ℕ) (h : Piece p) (w : from + length p ≤ LIMIT) where
  here : length_of (p ++ r) ≡ length p
  here = length_front p r h.long ∙ h.told

  whole : length (p ++ r) ≡ length p + length r
  whole = length-append p r

  cut : take (length_of (p ++ r)) (p ++ r) ≡ p
  cut = ap (λ (n : ℕ). take n (p ++ r)) here ∙ take_at p r (length p) refl

  pub piece-length : piece_length from (p ++ r) ≡ length p
  piece-length = go (live p) refl
    where
      at : (v : Bool) (o : Option Flaw) → live p ≡ v → against p ≡ o → piece_length from (p ++ r) ≡ pick v (fine_length o (length_of (p ++ r))) (length_of (p ++ r))
      at v o e f =
          piece_is from (p ++ r) (le-ltb (length (p ++ r)) HEAD (omega (arith, h.long, whole))) (le-ltb (length_of (p ++ r)) HEAD (omega (arith, h.long, here)))
          (le-ltb (length (p ++ r)) (length_of (p ++ r)) (omega (arith, whole, here))) (le-ltb LIMIT (from + length_of (p ++ r)) (omega (arith, here)))
          (live-front p r h.long ∙ e) (ap against cut ∙ f)

      go : (v : Bool) → live p ≡ v → piece_length from (p ++ r) ≡ length p
      go true e = at true none e (h.sound e) ∙ here
      go false e = at false (against p) e refl ∙ here

  -- it goes into an index that has not its key and is not full
  module _ (places : ℕ) (l : List ℕ) (new : live p ≡ true → (hit (key_at p) l (below (entry (key_at p) 0) l) ≡ false) × (length l < places)) where
    pub enters_on : {rest : Opening} → go_on from (enters places (p ++ r) l) rest ≡ rest
    unfolding enters
    enters_on {rest} = go (live p) refl
      where
        by : (v t u : Bool) → Opening
        by v t u = go_on from (pick v (pick t (Err entered.Again) (pick u (Err entered.Full) (Ok (length l + 1)))) (Ok (length l))) rest

        same : (v : Bool) → live p ≡ v
            → go_on from (enters places (p ++ r) l) rest
            ≡ go_on from (pick v (pick (hit (key_at p) l (below (entry (key_at p) 0) l)) (Err entered.Again) (pick (leb places (length l)) (Err entered.Full) (Ok (length l + 1)))) (Ok (length l))) rest
        same v e =
            ap₂ (λ (x : Bool) (k : ℕ). go_on from (pick x (pick (hit k l (below (entry k 0) l)) (Err entered.Again) (pick (leb places (length l)) (Err entered.Full) (Ok (length l + 1)))) (Ok (length l))) rest)
            (live-front p r h.long ∙ e) (key-front p r h.long)

        go : (v : Bool) → live p ≡ v → go_on from (enters places (p ++ r) l) rest ≡ rest
        go true e =
            let n = new e in
            same true e
            ∙ ap₂ (λ (x y : Bool). go_on from (pick x (Err entered.Again) (pick y (Err entered.Full) (Ok (length l + 1)))) rest) n.0 (lt-leb places (length l) n.1)
        go false e = same false e

    pub enters-index : enters_index from (p ++ r) l ≡ pick (live p) (insert (entry (key_at p) from) l) l
    unfolding enters_index
    enters-index = ap₂ (λ (b : Bool) (k : ℕ). pick b (insert (entry k from) l) l) (live-front p r h.long) (key-front p r h.long)

-- ---- all of them

pub restart_from : (ps : List (List ℕ)) (steps places from : ℕ) (l : List ℕ) → Sound ps → length (joined ps) ≤ steps → from + length (joined ps) ≤ LIMIT
    → ((y : ℕ) → In y l → start_of y < from) → Rising (gathered from ps l) → length (gathered from ps l) ≤ places
    → open_from steps places from (joined ps) l ≡ done (gathered from ps l)
unfolding joined gathered
restart_from [] steps places from l d s w old r c = open_none steps places from l
restart_from (p ∷ ps) steps places from l d s w old r c =
    let q = length-append p (joined ps) in
    let long = d.0.long in
    let size = piece-length from p (joined ps) d.0 (omega (arith, q)) in
    open_step steps places from (p ++ joined ps) l (omega (arith, q)) (omega (arith, q))
    ∙ ap (λ (b : Bool). pick b (bad from) (go_on from (enters places (p ++ joined ps) l)
    (open_from (steps - 1) places (from + piece_length from (p ++ joined ps)) (drop (piece_length from (p ++ joined ps)) (p ++ joined ps)) (enters_index from (p ++ joined ps) l))))
    (ne_eqb (piece_length from (p ++ joined ps)) 0 (λ z. omega (arith, size)))
    ∙ enters_on from p (joined ps) d.0 (omega (arith, q)) places l new
    ∙ ap (λ (n : ℕ). open_from (steps - 1) places (from + n) (drop n (p ++ joined ps)) (enters_index from (p ++ joined ps) l)) size
    ∙ ap₂ (open_from (steps - 1) places (from + length p)) (drop_at p (joined ps) (length p) refl) (enters-index from p (joined ps) d.0 (omega (arith, q)) places l new)
    ∙ restart_from ps (steps - 1) places (from + length p) (pick (live p) (insert (entry (key_at p) from) l) l) d.1 (omega (arith, q)) (omega (arith, q)) (older (live p)) r c
  where
    starts : from < STARTS
    starts = omega (arith, d.0.long, length-append p (joined ps))

    start-here : (k s : ℕ) → s < STARTS → start_of (entry k s) ≡ s
    start-here k s z = omega arith

    key_here : (k s : ℕ) → s < STARTS → key_of (entry k s) ≡ k
    key_here k s z = omega arith

    older : (b : Bool) (y : ℕ) → In y (pick b (insert (entry (key_at p) from) l) l) → start_of y < from + length p
    older true y i =
        ⊎_elim (λ (e : y ≡ entry (key_at p) from). omega (arith, ap start_of e, start-here (key_at p) from starts, d.0.long)) (λ j. omega (arith, old y j)) (in_insert (entry (key_at p) from) y l i)
    older false y i = omega (arith, old y i)

    new : live p ≡ true → (hit (key_at p) l (below (entry (key_at p) 0) l) ≡ false) × (length l < places)
    new e = (
      ⊎_elim (λ t. absurd (twice (hit-true (key_at p) l (below (entry (key_at p) 0) l) t))) (λ f. f) (true-or (hit (key_at p) l (below (entry (key_at p) 0) l))),
      omega (arith, gathered_long (from + length p) ps (insert (entry (key_at p) from) l), insert_long (entry (key_at p) from) l, c'),
    )
      where
        r' : Rising (gathered (from + length p) ps (insert (entry (key_at p) from) l))
        r' = subst (λ (b : Bool). Rising (gathered (from + length p) ps (pick b (insert (entry (key_at p) from) l) l))) e r

        c' : length (gathered (from + length p) ps (insert (entry (key_at p) from) l)) ≤ places
        c' = subst (λ (b : Bool). length (gathered (from + length p) ps (pick b (insert (entry (key_at p) from) l) l)) ≤ places) e c

        twice : Hit (key_at p) l (below (entry (key_at p) 0) l) → ⊥
        twice w =
            let y = get_or l (below (entry (key_at p) 0) l) 0 in
            let i = get_d_in l (below (entry (key_at p) 0) l) w.within in
            let one = same_key (gathered (from + length p) ps (insert (entry (key_at p) from) l)) r' y (entry (key_at p) from)
            (gathered_in (from + length p) ps (insert (entry (key_at p) from) l) y (insert_in (entry (key_at p) from) y l (inr i)))
            (gathered_in (from + length p) ps (insert (entry (key_at p) from) l) (entry (key_at p) from) (insert_in (entry (key_at p) from) (entry (key_at p) from) l (inl refl)))
            (w.is ∙ sym (key_here (key_at p) from starts)) in
            omega (arith, old y i, ap start_of one, start-here (key_at p) from starts)

-- what `open` tells and leaves of the used bytes of a book: its head, and its index
pub restart : {places room : ℕ} {ps : List (List ℕ)} {b : Book} {bytes index : List ℕ} → Held places room ps b bytes index → (again : List ℕ) → b.entries ≤ capacity again
    → (open_says (take b.used bytes) again ≡ Ok (book_of b.used b.entries)) × (open_index (take b.used bytes) again ≡ sets again 0 (take b.entries index))
unfolding open_says open_index opening
restart {places} {room} {ps} {b} {bytes} {index} h again c =
    let l = take b.used bytes in
    let n = length (placed 0 ps) in
    let many : length (placed 0 ps) ≡ b.entries = sym (ap length h.index_is) ∙ entries_are h in
    let long : length (take b.used bytes) ≡ b.used = ap length h.bytes_are ∙ sym (used_is h) in
    let all : open_from (length (take b.used bytes)) (capacity again) 0 (take b.used bytes) [] ≡ done (take b.entries index) =
    ap₂ (λ (k : ℕ) (m : List ℕ). open_from k (capacity again) 0 m []) (ap length h.bytes_are) h.bytes_are
    ∙ restart_from ps (length (joined ps)) (capacity again) 0 [] h.sound (omega arith) (omega (arith, used_is h, h.used_fit, few h)) (λ y i. absurd i)
    (subst Rising (sym (gathered-placed 0 ps)) h.rising) (omega (arith, ap length (gathered-placed 0 ps)))
    ∙ ap done (gathered-placed 0 ps ∙ sym h.index_is) in
    (ap (opened_by (length (take b.used bytes))) all ∙ ap₂ (λ (x y : ℕ). Ok (book_of x y)) long (entries_are h), ap (left_by again) all)
