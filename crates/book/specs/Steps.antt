-- A book stays held: with a sheet more (`held-add`), and without one (`held-remove`); and what is sought in it is found where it stands (`seeks-seen`). Assumes nothing.
use Prim.Native.Nat.{ℕ, suc, ◌+◌, ◌-◌, ◌≤◌, ◌<◌, min}
use Rattle.std.specs.Prelude.{◌≡◌, Bool, true, ltb, get_or, set, drop}
use Rattle.std.proofs.Math.Path.{refl, ap, ap₂, subst}
use Rattle.std.proofs.Common.{sym, ◌∙◌, arith, length-append, length-set, take-take, get_or-take, get_or-drop, le-ltb}
use Rattle.std.proofs.Math.Option.{Option, none, some}
use mathlib.Core.List.{List, [], ◌∷◌, ◌++◌, map}
use Rattle.std.proofs.Math.ListN.{length, take, length-map}
use Rattle.std.proofs.lemmas.List.Edits.{sets, sets-eq}
use Rattle.std.proofs.Math.Seq.{length-sets, take_at, take-set-lt, length-take-le}
use Rattle.scan.specs.Scan.{pick}
use Rattle.octets.specs.Big.{number, number_cong}
use Rattle.sheet.specs.Format.{HEAD, kind_at, size_at, source_at}
use Rattle.book_parts.specs.Moved.{opened, closed, behind, closed-front, opened-length, closed-length}
use Rattle.book.specs.Ordered.{STARTS, entry, key_of, start_of, insert, Rising, rising_insert, rising_without, without, without_at}
use Rattle.book.specs.Pieces.{key, key_at, joined, placed, sheet_of}
use Rattle.book.specs.Sheets.{against, accepted}
use Rattle.book.specs.Stands.{sheet-piece, sound_more, joined-more, placed-more, stands-bytes, stands_sound, sheet-some}
use Rattle.book.specs.Removed.{VERSIONED, mark, sound_mark, joined-mark, placed-mark, mark-stands}
use Rattle.book.specs.Closed.{kept, slid, lives, kept_long, kept-joined, sound_lives, rising_map, slid-key, placed-lives}
use Rattle.book.specs.Searched.{search_put}
use Rattle.book.specs.Says.{LIMIT, MOST, limit, capacity, book_of, is_key, count, spot, held_at, seeks, in_use, close_book, close_bytes, close_index}
use Rattle.book.specs.Held.{Held, few, within, lent, used_is, entries_are, count_is, spot-found, lent-entries, Seen, Unseen, of-same, same-key-of, same-piece}
use Rattle.book.specs.declared.Book.{Book}
use Rattle.book.specs.Types.{sought_at}
use Rattle.std.specs.Prelude.{None}

entry_key : (k s : ℕ) → s < STARTS → key_of (entry k s) ≡ k
entry_key k s h = omega arith

entry-start : (k s : ℕ) → s < STARTS → start_of (entry k s) ≡ s
entry-start k s h = omega arith

same-capacity : (l m : List ℕ) → length l ≡ length m → capacity l ≡ capacity m
unfolding capacity
same-capacity l m e = ap (min MOST) e

same-limit : (l m : List ℕ) → length l ≡ length m → limit l ≡ limit m
unfolding limit
same-limit l m e = ap (min LIMIT) e

module _ {places room : ℕ} {ps : List (List ℕ)} {b : Book} {bytes index : List ℕ} (h : Held places room ps b bytes index) where
  -- ---- a sheet more

  module _ (S : List ℕ) (fine : against S ≡ none) (new : Unseen h (kind_at S) (size_at S) (source_at S)) (some-place : b.entries < places) (fits : b.used + length S ≤ room) where
    abbrev x : ℕ
    x = entry (key_at S) b.used

    starts : b.used < STARTS
    starts = omega (arith, (accepted S fine).long, few h)

    indexed : placed 0 (ps ++ (S ∷ [])) ≡ insert x (placed 0 ps)
    indexed =
        let e : 0 + length (joined ps) ≡ b.used = omega (arith, used_is h) in
        placed-more 0 ps S (accepted S fine).alive ∙ ap (λ (n : ℕ). insert (entry (key_at S) n) (placed 0 ps)) e

    pub held-add : Held places room (ps ++ (S ∷ [])) (book_of (b.used + length S) (count b index + 1)) (sets bytes b.used S) (opened index (spot b index (key_at S)) (count b index) x)
    held-add = record {
      sound = sound_more ps S h.sound (sheet-piece fine);
      rising = subst Rising (sym indexed) (rising_insert x (placed 0 ps) h.rising (λ y i e. new.new y i (e ∙ entry_key (key_at S) b.used starts)));
      places_are = same-capacity _ index (opened-length index (spot b index (key_at S)) (count b index) x) ∙ h.places_are;
      room_is = same-limit _ bytes (length-sets bytes b.used S) ∙ h.room_is;
      bytes_are =
          ap (take (b.used + length S)) (sets-eq S bytes b.used (omega (arith, within h)))
          ∙ take_at (take b.used bytes ++ S) (drop (b.used + length S) bytes) (b.used + length S)
          (length-append (take b.used bytes) S ∙ omega (arith, length-take-le b.used bytes (omega (arith, within h))))
          ∙ ap (λ (l : List ℕ). l ++ S) h.bytes_are ∙ sym (joined-more ps S);
      used_fit = fits;
      index_is =
          ap (λ (n : ℕ). take (n + 1) (opened index (spot b index (key_at S)) n x)) (count_is h)
          ∙ search_put index (placed 0 ps) b.entries (lent-entries h) h.index_is h.rising (key_at S) b.used (spot-found h (key_at S)) starts new.new (omega (arith, lent h))
          ∙ sym indexed;
      entries_fit = omega (arith, count_is h);
    }

  -- ---- a sheet that is there

  module _ (kind size source : ℕ) (s : Seen h kind size source) where
    abbrev p : List ℕ
    p = s.piece

    long : HEAD ≤ length s.piece
    long = (stands_sound 0 ps s.start s.piece h.sound s.stands).long

    starting : s.start < STARTS
    starting = omega (arith, s.start_fits, long, h.used_fit, few h)

    -- its bytes stand in the bytes lent
    pub seen_bytes : take (length s.piece) (drop s.start bytes) ≡ s.piece
    seen_bytes =
        sym (take-take (length p) (b.used - s.start) (drop s.start bytes) (omega (arith, s.start_fits)))
        ∙ ap (take (length p)) (behind bytes s.start b.used (omega (arith, s.start_fits)))
        ∙ ap (λ (l : List ℕ). take (length p) (drop s.start l)) h.bytes_are
        ∙ stands-bytes 0 ps s.start p s.start (omega arith) s.stands

    seen-number : number bytes s.start 4 ≡ number s.piece 0 4
    seen-number =
        number_cong bytes p s.start 0 4
        (λ j l. let z : 0 + j ≡ j = omega arith in
        sym (get_or-drop s.start bytes j 0) ∙ sym (get_or-take (length p) (drop s.start bytes) j 0 (omega (arith, long)))
        ∙ ap₂ (λ (l : List ℕ) (i : ℕ). get_or l i 0) seen_bytes (sym z))

    seen-length : 4 + number bytes s.start 4 ≡ length s.piece
    seen-length = ap (λ (n : ℕ). 4 + n) seen-number ∙ (stands_sound 0 ps s.start p h.sound s.stands).told

    pub seeks-seen : is_key kind size source ≡ true → seeks b bytes index kind size source ≡ sought_at (spot b index (key kind size source)) s.start (length s.piece)
    unfolding seeks
    seeks-seen k =
        ap₂ (λ (a c : Bool). pick a (pick c (held_at bytes (spot b index (key kind size source)) (start_of (get_or index (spot b index (key kind size source)) 0))) None) None) k s.is_there
        ∙ ap (λ (n : ℕ). held_at bytes (spot b index (key kind size source)) (start_of n)) s.place_is
        ∙ ap (held_at bytes (spot b index (key kind size source))) (entry-start (key_at p) s.start starting)
        ∙ ap (λ (c : Bool). pick c None
        (pick (ltb (length bytes) (s.start + (4 + number bytes s.start 4))) None (sought_at (spot b index (key kind size source)) s.start (4 + number bytes s.start 4))))
        (le-ltb (length bytes) (s.start + HEAD) (omega (arith, s.start_fits, long, h.used_fit, within h)))
        ∙ ap (λ (n : ℕ). pick (ltb (length bytes) (s.start + n)) None (sought_at (spot b index (key kind size source)) s.start n)) seen-length
        ∙ ap (λ (c : Bool). pick c None (sought_at (spot b index (key kind size source)) s.start (length p)))
        (le-ltb (length bytes) (s.start + length p) (omega (arith, s.start_fits, h.used_fit, within h)))

    unmarked : placed 0 (mark 0 s.start ps) ≡ without (entry (key_at s.piece) s.start) (placed 0 ps)
    unmarked = placed-mark 0 s.start p ps h.sound (omega (arith, used_is h, h.used_fit, few h)) s.stands s.alive

    pub held-remove : Held places room (mark 0 s.start ps) (book_of b.used (count b index - 1)) (set bytes (s.start + VERSIONED) 0) (closed index (spot b index (key kind size source)) (count b index))
    held-remove = record {
      sound = sound_mark 0 s.start ps h.sound;
      rising = subst Rising (sym unmarked) (rising_without (entry (key_at p) s.start) (placed 0 ps) h.rising);
      places_are = same-capacity _ index (closed-length index (spot b index (key kind size source)) (count b index)) ∙ h.places_are;
      room_is = same-limit _ bytes (length-set bytes (s.start + VERSIONED) 0) ∙ h.room_is;
      bytes_are =
          take-set-lt b.used bytes (s.start + VERSIONED) 0 (omega (arith, s.start_fits, long))
          ∙ ap (λ (l : List ℕ). set l (s.start + VERSIONED) 0) h.bytes_are
          ∙ sym (joined-mark 0 s.start p ps s.start h.sound s.stands (omega arith));
      used_fit = h.used_fit;
      index_is =
          let i = spot b index (key kind size source) in
          let inside : i < length (placed 0 ps) = omega (arith, s.within_index, entries_are h, ap length h.index_is) in
          ap (λ (n : ℕ). take (n - 1) (closed index i n)) (count_is h)
          ∙ closed-front index i b.entries s.within_index (omega (arith, h.entries_fit, lent h))
          ∙ ap (λ (l : List ℕ). take i l ++ drop (suc i) l) h.index_is
          ∙ without_at (placed 0 ps) h.rising i inside
          ∙ ap (λ (y : ℕ). without y (placed 0 ps))
          (ap (λ (l : List ℕ). get_or l i 0) (sym h.index_is) ∙ get_or-take b.entries index i 0 s.within_index ∙ s.place_is)
          ∙ sym unmarked;
      entries_fit = omega (arith, count_is h, h.entries_fit);
    }

    -- the key has no sheet any more
    pub sheet-gone : sheet_of kind size source (mark 0 s.start ps) ≡ none
    sheet-gone = go (sheet_of kind size source (mark 0 s.start ps)) refl
      where
        go : (r : Option (List ℕ)) → sheet_of kind size source (mark 0 s.start ps) ≡ r → sheet_of kind size source (mark 0 s.start ps) ≡ none
        go none e = e
        go (some r) e =
            let f = sheet-some kind size source 0 (mark 0 s.start ps) r e in
            let w = mark-stands 0 s.start s.piece ps h.sound s.stands f.start r f.stands f.alive in
            absurd (w.1 (same-piece h f.start s.start r s.piece w.0 s.stands f.alive s.alive
            (same-key-of kind size source r (of-same kind size source r f.is) ∙ sym (same-key-of kind size source s.piece s.same))))

-- ---- closed up

module _ {places room : ℕ} {ps : List (List ℕ)} {b : Book} {bytes index : List ℕ} (h : Held places room ps b bytes index) where
  used-looked : in_use b bytes ≡ joined ps
  unfolding in_use
  used-looked =
      let n : min b.used (limit bytes) ≡ b.used = omega (arith, h.used_fit, h.room_is) in
      ap (λ (k : ℕ). take k bytes) n ∙ h.bytes_are

  pub closed-bytes : kept (in_use b bytes) ≡ joined (lives ps)
  closed-bytes = ap kept used-looked ∙ kept-joined ps h.sound

  -- the live sheets are no longer than all
  pub lives_long : length (joined (lives ps)) ≤ b.used
  lives_long = omega (arith, ap length (kept-joined ps h.sound), kept_long (joined ps), used_is h)

  slid-placed : map (slid (in_use b bytes)) (take (count b index) index) ≡ placed 0 (lives ps)
  slid-placed =
      ap₂ (λ (l : List ℕ) (n : ℕ). map (slid l) (take n index)) used-looked (count_is h) ∙ ap (map (slid (joined ps))) h.index_is
      ∙ sym (placed-lives ps h.sound (omega (arith, used_is h, h.used_fit, few h)) h.rising)

  pub held_close : Held places room (lives ps) (close_book b bytes index) (close_bytes b bytes index) (close_index b bytes index)
  unfolding close_book close_bytes close_index
  held_close =
      let w = map (slid (in_use b bytes)) (take (count b index) index) in
      let long : length w ≡ count b index = length-map (take (count b index) index) (slid (in_use b bytes)) ∙ length-take-le (count b index) index (omega (arith, count_is h, lent-entries h)) in
      let k = kept (in_use b bytes) in
      let fits : length k ≤ room = omega (arith, ap length closed-bytes, lives_long, h.used_fit) in
      record {
        sound = sound_lives ps h.sound;
        rising =
            subst Rising (sym (placed-lives ps h.sound (omega (arith, used_is h, h.used_fit, few h)) h.rising))
            (rising_map (slid (joined ps)) (slid-key (joined ps)) (placed 0 ps) h.rising);
        places_are = same-capacity _ index (length-sets index 0 w) ∙ h.places_are;
        room_is = same-limit _ bytes (length-sets bytes 0 k) ∙ h.room_is;
        bytes_are =
            ap (take (length k)) (sets-eq k bytes 0 (omega (arith, within h))) ∙ take_at k (drop (0 + length k) bytes) (length k) refl ∙ closed-bytes;
        used_fit = fits;
        index_is =
            ap (take (count b index)) (sets-eq w index 0 (omega (arith, count_is h, lent-entries h))) ∙ take_at w (drop (0 + length w) index) (count b index) long ∙ slid-placed;
        entries_fit = omega (arith, count_is h, h.entries_fit);
      }

  -- the head tells how long the live sheets are
  pub closed-used : (close_book b bytes index).used ≡ length (joined (lives ps))
  unfolding close_book
  closed-used = ap length closed-bytes
