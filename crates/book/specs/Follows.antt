-- A book answers as the plain map does, over every sequence of calls from an empty book (`book_follows`), and after every one of them its index is the one worked out afresh
-- from its bytes (`index-afresh`). By induction: its bytes are pieces of which the map has the live ones (`Kept`), and one call keeps that (`kept_step`). Assumes nothing.
use Rattle.std.specs.Prelude.{ℕ, ◌+◌, ◌-◌, ◌≤◌, ◌<◌, ◌≡◌, Bool, ◌⊎◌, eqb, get_or, set, take}
use Rattle.std.proofs.Math.Path.{refl, sym, ap, ap₂, subst}
use Rattle.std.proofs.Common.{◌∙◌, arith, length-append, ltb-false, le-ltb, leb-false}
use Rattle.std.proofs.Math.Bool.{true, false}
use Rattle.std.proofs.Math.Logic.{inl, inr, ⊎_elim}
use Rattle.std.proofs.Math.Option.{Option, none, some}
use mathlib.Core.List.{List, [], ◌∷◌, ◌++◌}
use Rattle.std.proofs.Math.Dec.{ltb, leb}
use Rattle.std.proofs.Math.ListN.{length}
use Rattle.std.proofs.lemmas.List.Edits.{sets}
use Rattle.scan.specs.Scan.{pick}
use Rattle.scan.specs.Laws.{true-or, true-false}
use Rattle.sheet.specs.Format.{kind_at, size_at, source_at}
use Rattle.sheet.specs.declared.Flaw.{Flaw}
use Rattle.book_parts.specs.Moved.{opened, closed}
use Rattle.book.specs.Ordered.{entry, start_of}
use Rattle.book.specs.Pieces.{key, key_at, of, joined, placed, sheet_of, afresh}
use Rattle.book.specs.Sheets.{against, accepted}
use Rattle.book.specs.Stands.{sheet-more, joined-more, or_else, afresh-joined}
use Rattle.book.specs.Removed.{VERSIONED, mark, sheet-mark-other}
use Rattle.book.specs.Closed.{lives, lives_more, lives_twice, lives-mark, sheet-lives}
use Rattle.book.specs.Says.{capacity, limit, book_of, if_no_room, crammed, add_says, add_bytes, add_index, close_book, close_bytes, close_index, is_key, count, spot, there, held_at, add_by, if_added, short, full, end_says, end_bytes, end_index, find_by, remove_by, remove_bytes_by, remove_index_by, seeks, find_says, remove_says, remove_bytes, remove_index}
use Rattle.book.specs.Told.{added_number, added_path, added_place, added_book, removed_number, removed_book}
use Rattle.book.specs.Held.{Held, count_is, Seen, Unseen, Same, of-same, is_keyed, lookup, unkeyed}
use Rattle.book.specs.Steps.{held-add, held-remove, held_close, closed-bytes, closed-used, lives_long, seen_bytes, seeks-seen, sheet-gone}
use Rattle.book.specs.Plain.{Call, add, find, remove, close, Answer, tell, number, with, less, Plain, empty, has, add_told, settled, find_told, remove_told, if_some, plain_answer, plain_after, plain_tells, plain_end, State, found_told, answer, step, tells, after, fresh}
use Rattle.book.specs.declared.Book.{Book}
use Rattle.book.specs.Types.{Added, MaybeSought, sought_at}
use Rattle.std.specs.Prelude.{Ok, Err, None}
use Rattle.book.specs.declared.NotAdded.TheVariants as added

-- the map has the live sheets of the book's pieces
pub record Kept (places room : ℕ) (m : Plain) (b : Book) (bytes index : List ℕ) : Type 0 where
  pub pieces : List (List ℕ)
  pub held : Held places room pieces b bytes index
  pub at_is : (kind size source : ℕ) → m.at kind size source ≡ sheet_of kind size source pieces
  pub entries_is : m.entries ≡ b.entries
  pub used_are : m.used ≡ length (joined (lives pieces))

-- ---- answers by cases

told_by : (o : Option Flaw) (t u v : Bool) (b : Book) → tell (added_number (add_by o t u v b)) (added_path (add_by o t u v b)) (added_place (add_by o t u v b)) [] ≡ add_told o t u v
told_by (some f) t u v b = refl
told_by none true u v b = refl
told_by none false true v b = refl
told_by none false false true b = refl
told_by none false false false b = refl

book_by : (o : Option Flaw) (t u v : Bool) (b was : Book) → added_book (add_by o t u v b) was ≡ settled o t u v b was
book_by (some f) t u v b was = refl
book_by none true u v b was = refl
book_by none false true v b was = refl
book_by none false false true b was = refl
book_by none false false false b was = refl

left_by : {A : Type 0} (o : Option Flaw) (t u v : Bool) (b : Book) (x y : A) → if_added (add_by o t u v b) x y ≡ settled o t u v x y
left_by (some f) t u v b x y = refl
left_by none true u v b x y = refl
left_by none false true v b x y = refl
left_by none false false true b x y = refl
left_by none false false false b x y = refl

-- the tests that are not looked at do not matter
told_same : (o : Option Flaw) (t u v w : Bool) → (o ≡ none → t ≡ false → u ≡ false → v ≡ w) → add_told o t u v ≡ add_told o t u w
told_same (some f) t u v w h = refl
told_same none true u v w h = refl
told_same none false true v w h = refl
told_same none false false v w h = ap (add_told none false false) (h refl refl refl)

settled_same : {A : Type 0} (x y : A) (o : Option Flaw) (t u v w : Bool) → (o ≡ none → t ≡ false → u ≡ false → v ≡ w) → settled o t u v x y ≡ settled o t u w x y
settled_same x y (some f) t u v w h = refl
settled_same x y none true u v w h = refl
settled_same x y none false true v w h = refl
settled_same x y none false false v w h = ap (λ (b : Bool). settled none false false b x y) (h refl refl refl)

by_tests : {A : Type 0} (f : Option Flaw → Bool → Bool → Bool → A) {o : Option Flaw} {t u v : Bool} → o ≡ none → t ≡ false → u ≡ false → v ≡ true → f o t u v ≡ f none false false true
by_tests f {o} {t} {u} {v} a b c d = ap₂ (λ (p : Option Flaw) (q : Bool). f p q u v) a b ∙ ap₂ (f none false) c d

roomless : {A : Type 0} (p q : A) {a : Added} → a ≡ (Err added.NoRoom) → if_no_room a p q ≡ p
roomless p q e = ap (λ (r : Added). if_no_room r p q) e

no_flaw : {A : Type 0} {f : Flaw} → ◌≡◌ {A = Option Flaw} none (some f) → A
no_flaw e = let z : ◌≡◌ {A = ℕ} 0 1 = cc in absurd (omega arith)

some-found : {o : Option (List ℕ)} {p : List ℕ} → o ≡ some p → has o ≡ true
some-found e = ap has e

module _ {places room : ℕ} {m : Plain} {b : Book} {bytes index : List ℕ} (k : Kept places room m b bytes index) where
  abbrev ps : List (List ℕ)
  ps = k.pieces

  -- ---- adding

  module _ (S : List ℕ) where
    u_is : full b index ≡ leb places m.entries
    unfolding full
    u_is = ap₂ leb k.held.places_are (count_is k.held ∙ sym k.entries_is)

    v_is : short b bytes S ≡ ltb room (b.used + length S)
    unfolding short
    v_is = ap (λ (n : ℕ). ltb n (b.used + length S)) k.held.room_is

    t_is : against S ≡ none → there b index (key_at S) ≡ has (m.at (kind_at S) (size_at S) (source_at S))
    t_is e = ⊎_elim
        (λ (s : Seen k.held (kind_at S) (size_at S) (source_at S)). s.is_there ∙ sym (some-found (k.at_is (kind_at S) (size_at S) (source_at S) ∙ s.found)))
        (λ (s : Unseen k.held (kind_at S) (size_at S) (source_at S)). s.not_there ∙ sym (ap has (k.at_is (kind_at S) (size_at S) (source_at S) ∙ s.none_found)))
        (lookup k.held (kind_at S) (size_at S) (source_at S) (accepted S e).keyed)

    -- what the reader has nothing against is told as the map tells it, and what it has something against is told so in any case
    told_is : (r : Option Flaw) → against S ≡ r → add_told r (there b index (key_at S)) (full b index) (short b bytes S) ≡ add_told r (has (m.at (kind_at S) (size_at S) (source_at S))) (leb places m.entries) (ltb room (b.used + length S))
    told_is (some f) e = refl
    told_is none e = ap₂ (λ (x y : Bool). add_told none x y (short b bytes S)) (t_is e) u_is ∙ ap (add_told none (has (m.at (kind_at S) (size_at S) (source_at S))) (leb places m.entries)) v_is

    -- behind the last sheet
    end-told :
        let a = end_says b bytes index S in
        tell (added_number a) (added_path a) (added_place a) [] ≡ add_told (against S) (has (m.at (kind_at S) (size_at S) (source_at S))) (leb places m.entries) (ltb room (b.used + length S))
    unfolding end_says
    end-told = told_by (against S) (there b index (key_at S)) (full b index) (short b bytes S) (book_of (b.used + length S) (count b index + 1)) ∙ told_is (against S) refl

    -- the map and the slices with the sheet
    abbrev map_with : Plain
    map_with = record { at = with m.at S; entries = m.entries + 1; used = m.used + length S }

    abbrev bytes-with : List ℕ
    bytes-with = sets bytes b.used S

    abbrev index-with : List ℕ
    index-with = opened index (spot b index (key_at S)) (count b index) (entry (key_at S) b.used)

    seen-or : (o : Option (List ℕ)) (c : Bool) (p : List ℕ) → (c ≡ true → o ≡ none) → pick c (some p) o ≡ or_else 0 0 0 o (pick c (some p) none)
    seen-or none true p h = refl
    seen-or none false p h = refl
    seen-or (some q) true p h = absurd (true-false refl (ap has (h refl)))
    seen-or (some q) false p h = refl

    kept-with : against S ≡ none → Unseen k.held (kind_at S) (size_at S) (source_at S) → b.entries < places → b.used + length S ≤ room
        → Kept places room map_with (book_of (b.used + length S) (count b index + 1)) bytes-with index-with
    kept-with e s x y = record {
      pieces = ps ++ (S ∷ []);
      held = held-add k.held S e s x y;
      at_is = λ kind size source.
          ap (λ (r : Option (List ℕ)). pick (of kind size source S) (some S) r) (k.at_is kind size source)
          ∙ seen-or (sheet_of kind size source ps) (of kind size source S) S (λ c. own kind size source (of-same kind size source S c))
          ∙ sym (sheet-more kind size source ps S (accepted S e).alive);
      entries_is = ap (λ (n : ℕ). n + 1) (k.entries_is ∙ sym (count_is k.held));
      used_are =
          ap (λ (n : ℕ). n + length S) k.used_are
          ∙ sym (ap (λ (r : List (List ℕ)). length (joined r)) (lives_more ps S (accepted S e).alive) ∙ ap length (joined-more (lives ps) S) ∙ length-append (joined (lives ps)) S);
    }
      where
        own : (kind size source : ℕ) → Same kind size source S → sheet_of kind size source ps ≡ none
        own kind size source q =
            ap₂ (λ (k z : ℕ). sheet_of k z source ps) (sym q.kind_is) (sym q.size_is) ∙ ap (λ (c : ℕ). sheet_of (kind_at S) (size_at S) c ps) (sym q.source_is) ∙ s.none_found

    kept_by : (r : Option Flaw) → against S ≡ r → (x y z : Bool) → there b index (key_at S) ≡ x → full b index ≡ y → short b bytes S ≡ z
        → (x' : Bool) → (r ≡ none → x' ≡ x)
        → Kept places room (settled r x' y z map_with m) (settled r x y z (book_of (b.used + length S) (count b index + 1)) b) (settled r x y z bytes-with bytes) (settled r x y z index-with index)
    kept_by (some f) e x y z p q w x' g = k
    kept_by none e x y z p q w x' g = subst (λ (c : Bool). Kept places room (settled none c y z map_with m) (settled none x y z (book_of (b.used + length S) (count b index + 1)) b) (settled none x y z bytes-with bytes) (settled none x y z index-with index)) (sym (g refl)) (go x y z p q w)
      where
        go : (x y z : Bool) → there b index (key_at S) ≡ x → full b index ≡ y → short b bytes S ≡ z
            → Kept places room (settled none x y z map_with m) (settled none x y z (book_of (b.used + length S) (count b index + 1)) b) (settled none x y z bytes-with bytes) (settled none x y z index-with index)
        go true y z p q w = k
        go false true z p q w = k
        go false false true p q w = k
        go false false false p q w =
            ⊎_elim
            (λ (s : Seen k.held (kind_at S) (size_at S) (source_at S)). absurd (true-false s.is_there p))
            (λ (s : Unseen k.held (kind_at S) (size_at S) (source_at S)). kept-with e s (omega (arith, leb-false places m.entries (sym u_is ∙ q), k.entries_is)) (omega (arith, ltb-false room (b.used + length S) (sym v_is ∙ w))))
            (lookup k.held (kind_at S) (size_at S) (source_at S) (accepted S e).keyed)

    kept-end : Kept places room (settled (against S) (has (m.at (kind_at S) (size_at S) (source_at S))) (leb places m.entries) (ltb room (b.used + length S)) map_with m)
        (added_book (end_says b bytes index S) b) (end_bytes b bytes index S) (end_index b bytes index S)
    unfolding end_says end_bytes end_index
    kept-end =
        let x = there b index (key_at S) in
        let y = full b index in
        let z = short b bytes S in
        let x' = has (m.at (kind_at S) (size_at S) (source_at S)) in
        let new = book_of (b.used + length S) (count b index + 1) in
        let done = kept_by (against S) refl x y z refl refl refl x' (λ e. sym (t_is e)) in
        subst (λ (c : Plain). Kept places room c (added_book (add_by (against S) x y z new) b) (if_added (add_by (against S) x y z new) bytes-with bytes) (if_added (add_by (against S) x y z new) index-with index))
        (ap₂ (λ (c d : Bool). settled (against S) x' c d map_with m) u_is v_is)
        (subst (λ (c : Book). Kept places room (settled (against S) x' y z map_with m) c (if_added (add_by (against S) x y z new) bytes-with bytes) (if_added (add_by (against S) x y z new) index-with index)) (sym (book_by (against S) x y z new b))
        (subst (λ (c : List ℕ). Kept places room (settled (against S) x' y z map_with m) (settled (against S) x y z new b) c (if_added (add_by (against S) x y z new) index-with index)) (sym (left_by (against S) x y z new bytes-with bytes))
        (subst (λ (c : List ℕ). Kept places room (settled (against S) x' y z map_with m) (settled (against S) x y z new b) (settled (against S) x y z bytes-with bytes) c) (sym (left_by (against S) x y z new index-with index)) done)))

    -- which answer it is
    end-flawed : {f : Flaw} → against S ≡ some f → end_says b bytes index S ≡ (Err (added.Flawed f))
    unfolding end_says
    end-flawed e = ap (λ (o : Option Flaw). add_by o (there b index (key_at S)) (full b index) (short b bytes S) (book_of (b.used + length S) (count b index + 1))) e

    end_by : against S ≡ none → {t u v : Bool} → has (m.at (kind_at S) (size_at S) (source_at S)) ≡ t → leb places m.entries ≡ u → ltb room (b.used + length S) ≡ v
        → end_says b bytes index S ≡ add_by none t u v (book_of (b.used + length S) (count b index + 1))
    unfolding end_says
    end_by e {t} {u} {v} x y z =
        ap₂ (λ (o : Option Flaw) (c : Bool). add_by o c (full b index) (short b bytes S) (book_of (b.used + length S) (count b index + 1))) e (t_is e ∙ x)
        ∙ ap₂ (λ (c d : Bool). add_by none t c d (book_of (b.used + length S) (count b index + 1))) (u_is ∙ y) (v_is ∙ z)

    end-there : against S ≡ none → has (m.at (kind_at S) (size_at S) (source_at S)) ≡ true → end_says b bytes index S ≡ (Err added.There)
    end-there e x = end_by e x refl refl

    end-full : against S ≡ none → has (m.at (kind_at S) (size_at S) (source_at S)) ≡ false → leb places m.entries ≡ true → end_says b bytes index S ≡ (Err added.Full)
    end-full e x y = end_by e x y refl

    end_short : against S ≡ none → has (m.at (kind_at S) (size_at S) (source_at S)) ≡ false → leb places m.entries ≡ false → ltb room (b.used + length S) ≡ true → end_says b bytes index S ≡ (Err added.NoRoom)
    end_short e x y z = end_by e x y z

    end_done : against S ≡ none → has (m.at (kind_at S) (size_at S) (source_at S)) ≡ false → leb places m.entries ≡ false → ltb room (b.used + length S) ≡ false
        → end_says b bytes index S ≡ Ok (book_of (b.used + length S) (count b index + 1))
    end_done e x y z = end_by e x y z

    -- with room behind the last sheet there is room
    not_roomless : {A : Type 0} → short b bytes S ≡ false → (p q : A) → if_no_room (end_says b bytes index S) p q ≡ q
    unfolding end_says
    not_roomless z p q =
        ap (λ (v : Bool). if_no_room (add_by (against S) (there b index (key_at S)) (full b index) v (book_of (b.used + length S) (count b index + 1))) p q) z ∙ go (against S) (there b index (key_at S)) (full b index)
      where
        go : (o : Option Flaw) (t u : Bool) → if_no_room (add_by o t u false (book_of (b.used + length S) (count b index + 1))) p q ≡ q
        go (some f) t u = refl
        go none true u = refl
        go none false true = refl
        go none false false = refl

  -- ---- finding and removing

  module _ (kind size source : ℕ) where
    abbrev sheet : Option (List ℕ)
    sheet = sheet_of kind size source ps

    -- what is sought is there as the map has it, or is missing as there
    pub record Hitting : Type 0 where
      pub seen : Seen k.held kind size source
      pub sought_at : seeks b bytes index kind size source ≡ sought_at (spot b index (key kind size source)) seen.start (length seen.piece)

    pub record Missing : Type 0 where
      pub none_sought : seeks b bytes index kind size source ≡ None
      pub none_found : sheet_of kind size source ps ≡ none

    sought_or : Hitting ⊎ Missing
    unfolding seeks
    sought_or = go (true-or (is_key kind size source))
      where
        go : (is_key kind size source ≡ true) ⊎ (is_key kind size source ≡ false) → Hitting ⊎ Missing
        go (inl y) =
            ⊎_elim
            (λ (s : Seen k.held kind size source). inl (record { seen = s; sought_at = seeks-seen k.held kind size source s y }))
            (λ (s : Unseen k.held kind size source). inr (record {
              none_sought = ap₂ (λ (a c : Bool). pick a (pick c (held_at bytes (spot b index (key kind size source)) (start_of (get_or index (spot b index (key kind size source)) 0))) None) None) y s.not_there;
              none_found = s.none_found;
            }))
            (lookup k.held kind size source (is_keyed kind size source y))
        go (inr n) = inr (record {
          none_sought = ap (λ (a : Bool). pick a (pick (there b index (key kind size source)) (held_at bytes (spot b index (key kind size source)) (start_of (get_or index (spot b index (key kind size source)) 0))) None) None) n;
          none_found = unkeyed k.held kind size source n;
        })

    find-told : answer (record { head = b; bytes = bytes; index = index }) (find kind size source) ≡ plain_answer places room m (find kind size source)
    unfolding answer plain_answer find_says
    find-told = ⊎_elim
        (λ (w : Hitting).
        ap (λ (s : MaybeSought). found_told bytes (find_by s)) w.sought_at
        ∙ ap (tell 0 0 0) (seen_bytes k.held kind size source w.seen)
        ∙ sym (ap find_told (k.at_is kind size source ∙ w.seen.found)))
        (λ (w : Missing). ap (λ (s : MaybeSought). found_told bytes (find_by s)) w.none_sought ∙ sym (ap find_told (k.at_is kind size source ∙ w.none_found)))
        sought_or

    remove-told : answer (record { head = b; bytes = bytes; index = index }) (remove kind size source) ≡ plain_answer places room m (remove kind size source)
    unfolding answer plain_answer remove_says
    remove-told = ⊎_elim
        (λ (w : Hitting).
        ap (λ (s : MaybeSought). number (removed_number (remove_by b.used (count b index) s))) w.sought_at ∙ sym (ap remove_told (k.at_is kind size source ∙ w.seen.found)))
        (λ (w : Missing).
        ap (λ (s : MaybeSought). number (removed_number (remove_by b.used (count b index) s))) w.none_sought ∙ sym (ap remove_told (k.at_is kind size source ∙ w.none_found)))
        sought_or

    -- the map without the sheet
    abbrev map-less : List ℕ → Plain
    map-less p = record { at = less m.at kind size source; entries = m.entries - 1; used = m.used - length p }

    kept_less : (w : Seen k.held kind size source)
        → Kept places room (map-less w.piece) (book_of b.used (count b index - 1)) (set bytes (w.start + VERSIONED) 0) (closed index (spot b index (key kind size source)) (count b index))
    kept_less w = record {
      pieces = mark 0 w.start ps;
      held = held-remove k.held kind size source w;
      at_is = λ a c d. go a c d (true-or (of a c d w.piece));
      entries_is = ap (λ (n : ℕ). n - 1) (k.entries_is ∙ sym (count_is k.held));
      used_are = omega (arith, k.used_are, lives-mark 0 w.start w.piece ps k.held.sound w.stands w.alive);
    }
      where
        same_test : (a c d : ℕ) → pick (eqb kind a) (pick (eqb size c) (eqb source d) false) false ≡ of a c d w.piece
        same_test a c d =
            ap₂ (λ (x y : ℕ). pick (eqb x a) (pick (eqb y c) (eqb source d) false) false) (sym w.same.kind_is) (sym w.same.size_is)
            ∙ ap (λ (x : ℕ). pick (eqb (kind_at w.piece) a) (pick (eqb (size_at w.piece) c) (eqb x d) false) false) (sym w.same.source_is)

        go : (a c d : ℕ) → (of a c d w.piece ≡ true) ⊎ (of a c d w.piece ≡ false) → less m.at kind size source a c d ≡ sheet_of a c d (mark 0 w.start ps)
        go a c d (inl e) =
            let q = of-same a c d w.piece e in
            ap (λ (x : Bool). pick x none (m.at a c d)) (same_test a c d ∙ e)
            ∙ sym (ap₂ (λ (x y : ℕ). sheet_of x y d (mark 0 w.start ps)) (sym q.kind_is ∙ w.same.kind_is) (sym q.size_is ∙ w.same.size_is)
            ∙ ap (λ (x : ℕ). sheet_of kind size x (mark 0 w.start ps)) (sym q.source_is ∙ w.same.source_is)
            ∙ sheet-gone k.held kind size source w)
        go a c d (inr e) =
            ap (λ (x : Bool). pick x none (m.at a c d)) (same_test a c d ∙ e) ∙ k.at_is a c d
            ∙ sym (sheet-mark-other a c d 0 w.start w.piece ps k.held.sound w.stands e)

    kept-remove : Kept places room (plain_after places room m (remove kind size source)) (removed_book (remove_says b bytes index kind size source) b) (remove_bytes b bytes index kind size source) (remove_index b bytes index kind size source)
    unfolding plain_after remove_says remove_bytes remove_index
    kept-remove = ⊎_elim
        (λ (w : Hitting).
        subst (λ (s : MaybeSought). Kept places room (if_some (m.at kind size source) map-less m) (removed_book (remove_by b.used (count b index) s) b) (remove_bytes_by bytes s) (remove_index_by index (count b index) s)) (sym w.sought_at)
        (subst (λ (r : Option (List ℕ)). Kept places room (if_some r map-less m) (book_of b.used (count b index - 1)) (set bytes (w.seen.start + VERSIONED) 0) (closed index (spot b index (key kind size source)) (count b index)))
        (sym (k.at_is kind size source ∙ w.seen.found)) (kept_less w.seen)))
        (λ (w : Missing).
        subst (λ (s : MaybeSought). Kept places room (if_some (m.at kind size source) map-less m) (removed_book (remove_by b.used (count b index) s) b) (remove_bytes_by bytes s) (remove_index_by index (count b index) s)) (sym w.none_sought)
        (subst (λ (r : Option (List ℕ)). Kept places room (if_some r map-less m) b bytes index) (sym (k.at_is kind size source ∙ w.none_found)) k))
        sought_or

-- ---- closing up

pub kept_close : {places room : ℕ} {m : Plain} {b : Book} {bytes index : List ℕ} → Kept places room m b bytes index
    → Kept places room m (close_book b bytes index) (close_bytes b bytes index) (close_index b bytes index)
unfolding close_book
kept_close k = record {
  pieces = lives k.pieces;
  held = held_close k.held;
  at_is = λ kind size source. k.at_is kind size source ∙ sym (sheet-lives kind size source k.pieces);
  entries_is = k.entries_is ∙ sym (count_is k.held);
  used_are = k.used_are ∙ ap (λ (r : List (List ℕ)). length (joined r)) (sym (lives_twice k.pieces));
}

-- ---- a sheet added, with the book closed up where it needs be

module _ {places room : ℕ} {m : Plain} {b : Book} {bytes index : List ℕ} (k : Kept places room m b bytes index) (S : List ℕ) where
  abbrev x' : Bool
  x' = has (m.at (kind_at S) (size_at S) (source_at S))

  abbrev y' : Bool
  y' = leb places m.entries

  -- what is told, and what the book is then
  pub record Came : Type 0 where
    pub told : answer (record { head = b; bytes = bytes; index = index }) (add S) ≡ plain_answer places room m (add S)
    pub holds : Kept places room (plain_after places room m (add S)) (added_book (add_says b bytes index S) b) (add_bytes b bytes index S) (add_index b bytes index S)

  -- live sheets are no longer than all, so that what fits behind all fits behind them
  less-used : m.used ≤ b.used
  less-used = omega (arith, k.used_are, lives_long k.held)

  crammed_is : crammed b bytes S ≡ ltb room (m.used + length S)
  unfolding crammed
  crammed_is = ap₂ (λ (n j : ℕ). ltb n (j + length S)) k.held.room_is (ap length (closed-bytes k.held) ∙ sym k.used_are)

  -- of any answer and slices that the definition comes to
  came_as : (a : Added) (bs is : List ℕ) → add_says b bytes index S ≡ a → add_bytes b bytes index S ≡ bs → add_index b bytes index S ≡ is
      → tell (added_number a) (added_path a) (added_place a) [] ≡ add_told (against S) x' y' (ltb room (m.used + length S))
      → Kept places room (settled (against S) x' y' (ltb room (m.used + length S)) (map_with k S) m) (added_book a b) bs is → Came
  unfolding answer plain_answer plain_after
  came_as a bs is e f g t h = record {
    told = ap (λ (r : Added). tell (added_number r) (added_path r) (added_place r) []) e ∙ t;
    holds =
        subst (λ (r : Added). Kept places room (settled (against S) x' y' (ltb room (m.used + length S)) (map_with k S) m) (added_book r b) (add_bytes b bytes index S) (add_index b bytes index S)) (sym e)
        (subst (λ (l : List ℕ). Kept places room (settled (against S) x' y' (ltb room (m.used + length S)) (map_with k S) m) (added_book a b) l (add_index b bytes index S)) (sym f)
        (subst (Kept places room (settled (against S) x' y' (ltb room (m.used + length S)) (map_with k S) m) (added_book a b) bs) (sym g) h));
  }

  -- where the answer is not that there is no room, nothing is closed up
  module _ (other : (p q : Added) → if_no_room (end_says b bytes index S) p q ≡ q) (others : (p q : List ℕ) → if_no_room (end_says b bytes index S) p q ≡ q)
      (same : against S ≡ none → x' ≡ false → y' ≡ false → ltb room (b.used + length S) ≡ ltb room (m.used + length S)) where
    came-end : Came
    unfolding add_says add_bytes add_index
    came-end =
        came_as (end_says b bytes index S) (end_bytes b bytes index S) (end_index b bytes index S) (other _ _) (others _ _) (others _ _)
        (end-told k S ∙ told_same (against S) x' y' (ltb room (b.used + length S)) (ltb room (m.used + length S)) same)
        (subst (λ (n : Plain). Kept places room n (added_book (end_says b bytes index S) b) (end_bytes b bytes index S) (end_index b bytes index S))
        (settled_same (map_with k S) m (against S) x' y' (ltb room (b.used + length S)) (ltb room (m.used + length S)) same) (kept-end k S))

  -- no room with the live sheets alone
  came-full : end_says b bytes index S ≡ (Err added.NoRoom) → against S ≡ none → x' ≡ false → y' ≡ false → crammed b bytes S ≡ true → Came
  unfolding add_says add_bytes add_index
  came-full e r x y w =
      let z : ltb room (m.used + length S) ≡ true = sym crammed_is ∙ w in
      came_as (Err added.NoRoom) bytes index (roomless _ _ e ∙ ap (λ (c : Bool). pick c (Err added.NoRoom) (end_says (close_book b bytes index) (close_bytes b bytes index) (close_index b bytes index) S)) w)
      (roomless _ _ e ∙ ap (λ (c : Bool). pick c bytes (end_bytes (close_book b bytes index) (close_bytes b bytes index) (close_index b bytes index) S)) w) (roomless _ _ e ∙ ap (λ (c : Bool). pick c index (end_index (close_book b bytes index) (close_bytes b bytes index) (close_index b bytes index) S)) w)
      (sym (by_tests (add_told) r x y z)) (subst (λ (n : Plain). Kept places room n b bytes index) (sym (by_tests (λ o t u v. settled o t u v (map_with k S) m) r x y z)) k)

  came-closed : end_says b bytes index S ≡ (Err added.NoRoom) → against S ≡ none → x' ≡ false → y' ≡ false → crammed b bytes S ≡ false → Came
  unfolding add_says add_bytes add_index
  came-closed e r x y w =
      let k' = kept_close k in
      let b' = close_book b bytes index in
      let used : b'.used ≡ m.used = closed-used k.held ∙ sym k.used_are in
      let z : ltb room (b'.used + length S) ≡ ltb room (m.used + length S) = ap (λ (n : ℕ). ltb room (n + length S)) used in
      let done = end_done k' S r x y (z ∙ sym crammed_is ∙ w) in
      let a' = end_says b' (close_bytes b bytes index) (close_index b bytes index) S in
      came_as a' (end_bytes b' (close_bytes b bytes index) (close_index b bytes index) S) (end_index b' (close_bytes b bytes index) (close_index b bytes index) S)
      (roomless _ _ e ∙ ap (λ (c : Bool). pick c (Err added.NoRoom) a') w)
      (roomless _ _ e ∙ ap (λ (c : Bool). pick c bytes (end_bytes b' (close_bytes b bytes index) (close_index b bytes index) S)) w)
      (roomless _ _ e ∙ ap (λ (c : Bool). pick c index (end_index b' (close_bytes b bytes index) (close_index b bytes index) S)) w)
      (end-told k' S ∙ ap (add_told (against S) x' y') z)
      (subst (λ (h : Book). Kept places room (settled (against S) x' y' (ltb room (m.used + length S)) (map_with k S) m) h (end_bytes b' (close_bytes b bytes index) (close_index b bytes index) S) (end_index b' (close_bytes b bytes index) (close_index b bytes index) S))
      (ap (λ (a : Added). added_book a b') done ∙ sym (ap (λ (a : Added). added_book a b) done))
      (subst (λ (v : Bool). Kept places room (settled (against S) x' y' v (map_with k S) m) (added_book a' b') (end_bytes b' (close_bytes b bytes index) (close_index b bytes index) S) (end_index b' (close_bytes b bytes index) (close_index b bytes index) S)) z (kept-end k' S)))

  pub came : Came
  came = go (against S) refl (true-or (ltb room (b.used + length S)))
    where
      fits : ltb room (b.used + length S) ≡ false → ltb room (b.used + length S) ≡ ltb room (m.used + length S)
      fits z = z ∙ sym (le-ltb room (m.used + length S) (omega (arith, ltb-false room (b.used + length S) z, less-used)))

      tight : against S ≡ none → ltb room (b.used + length S) ≡ true → (x' ≡ true) ⊎ (x' ≡ false) → (y' ≡ true) ⊎ (y' ≡ false) → Came
      tight r z (inl x) y = came-end (λ p q. ap (λ (a : Added). if_no_room a p q) (end-there k S r x)) (λ p q. ap (λ (a : Added). if_no_room a p q) (end-there k S r x)) (λ _ f _. absurd (true-false x f))
      tight r z (inr x) (inl y) = came-end (λ p q. ap (λ (a : Added). if_no_room a p q) (end-full k S r x y)) (λ p q. ap (λ (a : Added). if_no_room a p q) (end-full k S r x y)) (λ _ _ f. absurd (true-false y f))
      tight r z (inr x) (inr y) = ⊎_elim (came-full (end_short k S r x y z) r x y) (came-closed (end_short k S r x y z) r x y) (true-or (crammed b bytes S))

      go : (o : Option Flaw) → against S ≡ o → (ltb room (b.used + length S) ≡ true) ⊎ (ltb room (b.used + length S) ≡ false) → Came
      go (some f) e z = came-end (λ p q. ap (λ (a : Added). if_no_room a p q) (end-flawed k S e)) (λ p q. ap (λ (a : Added). if_no_room a p q) (end-flawed k S e)) (λ r _ _. no_flaw (sym r ∙ e))
      go none e (inl z) = tight e z (true-or x') (true-or y')
      go none e (inr z) = came-end (λ p q. not_roomless k S (v_is k S ∙ z) p q) (λ p q. not_roomless k S (v_is k S ∙ z) p q) (λ _ _ _. fits z)

-- ---- every sequence

abbrev pub KeptIn : (places room : ℕ) → Plain → State → Type 0
KeptIn places room m st = Kept places room m st.head st.bytes st.index

pub told-step : {places room : ℕ} {m : Plain} (st : State) → KeptIn places room m st → (c : Call) → answer st c ≡ plain_answer places room m c
unfolding answer plain_answer
told-step st k (add S) = (came k S).told
told-step st k (find kind size source) = find-told k kind size source
told-step st k (remove kind size source) = remove-told k kind size source
told-step st k close = refl

pub kept_step : {places room : ℕ} {m : Plain} (st : State) → KeptIn places room m st → (c : Call) → KeptIn places room (plain_after places room m c) (step st c)
unfolding step plain_after
kept_step st k (add S) = (came k S).holds
kept_step st k (find kind size source) = k
kept_step st k (remove kind size source) = kept-remove k kind size source
kept_step st k close = kept_close k

tells-on : {places room : ℕ} {m : Plain} (st : State) → KeptIn places room m st → (cs : List Call) → tells st cs ≡ plain_tells places room m cs
unfolding tells plain_tells
tells-on st k [] = refl
tells-on {places} {room} {m} st k (c ∷ cs) = ap₂ (λ (a : Answer) (l : List Answer). a ∷ l) (told-step st k c) (tells-on {m = plain_after places room m c} (step st c) (kept_step st k c) cs)

kept-after : {places room : ℕ} {m : Plain} (st : State) → KeptIn places room m st → (cs : List Call) → KeptIn places room (plain_end places room m cs) (after st cs)
unfolding after plain_end
kept-after st k [] = k
kept-after {places} {room} {m} st k (c ∷ cs) = kept-after {m = plain_after places room m c} (step st c) (kept_step st k c) cs

pub kept_fresh : (bytes index : List ℕ) → KeptIn (capacity index) (limit bytes) empty (fresh bytes index)
unfolding joined placed sheet_of lives
kept_fresh bytes index = record {
  pieces = [];
  held = record { sound = tt; rising = tt; places_are = refl; room_is = refl; bytes_are = refl; used_fit = omega arith; index_is = refl; entries_fit = omega arith };
  at_is = λ kind size source. refl;
  entries_is = refl;
  used_are = refl;
}

-- a book answers as the map
pub book_follows : (bytes index : List ℕ) (cs : List Call) → tells (fresh bytes index) cs ≡ plain_tells (capacity index) (limit bytes) empty cs
book_follows bytes index cs = tells-on (fresh bytes index) (kept_fresh bytes index) cs

-- a book after calls, and the map after them
pub followed : (bytes index : List ℕ) (cs : List Call) → KeptIn (capacity index) (limit bytes) (plain_end (capacity index) (limit bytes) empty cs) (after (fresh bytes index) cs)
followed bytes index cs = kept-after (fresh bytes index) (kept_fresh bytes index) cs

-- and its index is the one worked out afresh
pub index-afresh : (bytes index : List ℕ) (cs : List Call) → let st = after (fresh bytes index) cs in take st.head.entries st.index ≡ afresh (take st.head.used st.bytes)
index-afresh bytes index cs =
    let k = followed bytes index cs in
    k.held.index_is ∙ sym (afresh-joined k.pieces k.held.sound) ∙ ap afresh (sym k.held.bytes_are)

-- closed up, it has as many bytes in use as were added less those removed: the live sheets, one after another
pub closed-counted : (bytes index : List ℕ) (cs : List Call) → let st = after (fresh bytes index) cs in
    (close_book st.head st.bytes st.index).used ≡ (plain_end (capacity index) (limit bytes) empty cs).used
closed-counted bytes index cs = let k = followed bytes index cs in closed-used k.held ∙ sym k.used_are

-- and every sheet is found that was found before
pub closed_finds : (bytes index : List ℕ) (cs : List Call) (kind size source : ℕ) → let st = after (fresh bytes index) cs in answer (step st close) (find kind size source) ≡ answer st (find kind size source)
unfolding plain_after
closed_finds bytes index cs kind size source =
    let st = after (fresh bytes index) cs in
    let k = followed bytes index cs in
    told-step (step st close) (kept_step st k close) (find kind size source) ∙ sym (told-step st k (find kind size source))
