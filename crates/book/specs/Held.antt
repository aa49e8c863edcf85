-- A book whose bytes are pieces, and whose index is theirs (`Held`). A key is looked up in it by its map (`lookup`): what the search finds is the sheet that the map has (`Seen`), and
-- where it finds none there is none (`Unseen`). Assumes nothing.
use Rattle.std.specs.Prelude.{ℕ, zero, suc, ◌+◌, ◌*◌, ◌≤◌, ◌<◌, ◌≡◌, refl, Bool, true, false, ◌⊎◌, ◌≢◌, List, eqb, ltb, length, get_or, take}
use Rattle.std.proofs.Common.{sym, ap₂, ◌∙◌, subst, inl, inr, arith, get_or-take, length-take-le, ltb-true, ltb-false, lt-ltb, le-ltb, eqb-true, eq-eqb, ne_eqb}
use Rattle.std.proofs.Math.Path.{ap}
use Rattle.std.proofs.Math.Option.{Option, none, some}
use Rattle.scan.specs.Scan.{pick}
use Rattle.scan.specs.Laws.{true-or, true-false}
use Rattle.paths.specs.Lists.{In}
use Rattle.sheet.specs.Format.{kind_at, size_at, source_at}
use Rattle.book_parts.specs.Place.{place}
use Rattle.book.specs.Ordered.{STARTS, entry, key_of, below, Rising, get_d_in, hit, Hit, hit-true, missed, same_key}
use Rattle.book.specs.Pieces.{SOURCES, live, key, key_at, of, joined, placed, sheet_of}
use Rattle.book.specs.Sheets.{Keyed, accepted}
use Rattle.book.specs.Stands.{Sound, Stands, Owner, placed_in, in_placed, stands_within, stands_sound, stands_same, sheet-some, sheet-none}
use Rattle.book.specs.Searched.{search_below, search_hit}
use Rattle.book.specs.Says.{LIMIT, limit, capacity, is_key, count, spot, there}
use Rattle.book.specs.declared.Book.{Book}

-- ---- kinds, sizes and sources as keys

pub record Same (kind size source : ℕ) (p : List ℕ) : Type 0 where
  pub kind_is : kind_at p ≡ kind
  pub size_is : size_at p ≡ size
  pub source_is : source_at p ≡ source

pub of-same : (kind size source : ℕ) (p : List ℕ) → of kind size source p ≡ true → Same kind size source p
of-same kind size source p e = go (eqb (kind_at p) kind) (eqb (size_at p) size) (eqb (source_at p) source) refl refl refl e
  where
    go : (a b c : Bool) → eqb (kind_at p) kind ≡ a → eqb (size_at p) size ≡ b → eqb (source_at p) source ≡ c → pick a (pick b c false) false ≡ true → Same kind size source p
    go true true true x y z e = record { kind_is = eqb-true _ _ x; size_is = eqb-true _ _ y; source_is = eqb-true _ _ z }
    go true true false x y z e = absurd (true-false e refl)
    go true false c x y z e = absurd (true-false e refl)
    go false b c x y z e = absurd (true-false e refl)

pub same_of : (kind size source : ℕ) (p : List ℕ) → Same kind size source p → of kind size source p ≡ true
same_of kind size source p s =
    ap₂ (λ (a b : Bool). pick a (pick b (eqb (source_at p) source) false) false) (eq-eqb _ _ s.kind_is) (eq-eqb _ _ s.size_is) ∙ eq-eqb _ _ s.source_is

-- different ones have different keys
pub key-same : (kind size source : ℕ) (p : List ℕ) → Keyed kind size source → Keyed (kind_at p) (size_at p) (source_at p) → key_at p ≡ key kind size source → Same kind size source p
key-same kind size source p a b e = go (kind_at p) (size_at p) (source_at p) b e refl refl refl
  where
    go : (k z s : ℕ) → Keyed k z s → key k z s ≡ key kind size source → kind_at p ≡ k → size_at p ≡ z → source_at p ≡ s → Same kind size source p
    go k z s b e x y w =
        let n = b.near in
        let m = a.near in
        let i = b.small in
        let j = a.small in
        let high : k * 256 + z ≡ kind * 256 + size = omega arith in
        let f : s ≡ source = omega arith in
        let h : k ≡ kind = omega arith in
        let g : z ≡ size = omega arith in
        record { kind_is = x ∙ h; size_is = y ∙ g; source_is = w ∙ f }

pub same-key-of : (kind size source : ℕ) (p : List ℕ) → Same kind size source p → key_at p ≡ key kind size source
same-key-of kind size source p s = ap₂ (λ (k z : ℕ). key k z (source_at p)) s.kind_is s.size_is ∙ ap (key kind size) s.source_is

pub is_keyed : (kind size source : ℕ) → is_key kind size source ≡ true → Keyed kind size source
is_keyed kind size source e = go (eqb kind 0) (ltb 2 kind) (ltb 255 size) (ltb source SOURCES) refl refl refl refl e
  where
    go : (a b c d : Bool) → eqb kind 0 ≡ a → ltb 2 kind ≡ b → ltb 255 size ≡ c → ltb source SOURCES ≡ d → pick a false (pick b false (pick c false d)) ≡ true → Keyed kind size source
    go true b c d x y z w e = absurd (true-false e refl)
    go false true c d x y z w e = absurd (true-false e refl)
    go false false true d x y z w e = absurd (true-false e refl)
    go false false false true x y z w e = record {
      some-kind = some-kind kind x;
      few_kinds = ltb-false 2 kind y;
      small = omega (arith, ltb-false 255 size z);
      near = ltb-true source SOURCES w;
    }
      where
        some-kind : (k : ℕ) → eqb k 0 ≡ false → 1 ≤ k
        some-kind zero q = absurd (true-false refl q)
        some-kind (suc k) q = omega arith
    go false false false false x y z w e = absurd (true-false e refl)

pub keyed_is : (kind size source : ℕ) → Keyed kind size source → is_key kind size source ≡ true
keyed_is kind size source k =
    ap₂ (λ (a b : Bool). pick a false (pick b false (pick (ltb 255 size) false (ltb source SOURCES)))) (ne_eqb kind 0 (λ z. omega (arith, k.some-kind))) (le-ltb 2 kind k.few_kinds)
    ∙ ap₂ (λ (c d : Bool). pick c false d) (le-ltb 255 size (omega (arith, k.small))) (lt-ltb source SOURCES k.near)

-- ---- a book that is held

-- in so many places and so many bytes
pub record Held (places room : ℕ) (ps : List (List ℕ)) (b : Book) (bytes index : List ℕ) : Type 0 where
  pub sound : Sound ps
  pub rising : Rising (placed 0 ps)
  pub places_are : capacity index ≡ places
  pub room_is : limit bytes ≡ room
  pub bytes_are : take b.used bytes ≡ joined ps
  pub used_fit : b.used ≤ room
  pub index_is : take b.entries index ≡ placed 0 ps
  pub entries_fit : b.entries ≤ places

module _ {places room : ℕ} {ps : List (List ℕ)} {b : Book} {bytes index : List ℕ} (h : Held places room ps b bytes index) where
  pub few : room ≤ LIMIT
  unfolding limit
  few = omega (arith, h.room_is)

  pub within : room ≤ length bytes
  unfolding limit
  within = omega (arith, h.room_is)

  pub lent : places ≤ length index
  unfolding capacity
  lent = omega (arith, h.places_are)

  pub used_is : b.used ≡ length (joined ps)
  used_is = sym (length-take-le b.used bytes (omega (arith, h.used_fit, within))) ∙ ap length h.bytes_are

  pub entries_are : length (take b.entries index) ≡ b.entries
  entries_are = length-take-le b.entries index (omega (arith, h.entries_fit, lent))

  pub count_is : count b index ≡ b.entries
  unfolding count
  count_is = omega (arith, h.entries_fit, h.places_are)

  -- the search finds the place of a key
  pub spot-found : (k : ℕ) → spot b index k ≡ place index 0 b.entries (entry k 0)
  unfolding spot
  spot-found k = ap (λ (n : ℕ). place index 0 n (entry k 0)) count_is

  pub lent-entries : b.entries ≤ length index
  lent-entries = omega (arith, h.entries_fit, lent)

  pub spot_is : (k : ℕ) → spot b index k ≡ below (entry k 0) (placed 0 ps)
  spot_is k = spot-found k ∙ search_below index (placed 0 ps) b.entries lent-entries h.index_is h.rising k

  pub there_is : (k : ℕ) → there b index k ≡ hit k (placed 0 ps) (below (entry k 0) (placed 0 ps))
  unfolding there
  there_is k =
      ap (λ (n : ℕ). pick (ltb (spot b index k) n) (eqb (key_of (get_or index (spot b index k) 0)) k) false) count_is
      ∙ search_hit index (placed 0 ps) b.entries lent-entries h.index_is h.rising k (spot-found k)

  -- ---- a key looked up

  pub record Seen (kind size source : ℕ) : Type 0 where
    pub piece : List ℕ
    pub start : ℕ
    pub is_there : there b index (key kind size source) ≡ true
    pub found : sheet_of kind size source ps ≡ some piece
    pub stands : Stands 0 ps start piece
    pub alive : live piece ≡ true
    pub same : Same kind size source piece
    pub within_index : spot b index (key kind size source) < b.entries
    pub place_is : get_or index (spot b index (key kind size source)) 0 ≡ entry (key_at piece) start
    pub start_fits : start + length piece ≤ b.used

  pub record Unseen (kind size source : ℕ) : Type 0 where
    pub not_there : there b index (key kind size source) ≡ false
    pub none_found : sheet_of kind size source ps ≡ none
    pub new : (y : ℕ) → In y (placed 0 ps) → key_of y ≢ key kind size source

  pub piece_keyed : (s : ℕ) (p : List ℕ) → Stands 0 ps s p → live p ≡ true → Keyed (kind_at p) (size_at p) (source_at p)
  piece_keyed s p st l = (accepted p ((stands_sound 0 ps s p h.sound st).sound l)).keyed

  -- the start of a piece and its key, told apart
  split : (s : ℕ) (p : List ℕ) → Stands 0 ps s p → (s < STARTS) × (s + length p ≤ b.used)
  split s p st =
      let w = stands_within 0 ps s p st in
      let l = (stands_sound 0 ps s p h.sound st).long in
      (omega (arith, used_is, h.used_fit, few), omega (arith, used_is))

  pub same-piece : (s t : ℕ) (p q : List ℕ) → Stands 0 ps s p → Stands 0 ps t q → live p ≡ true → live q ≡ true → key_at p ≡ key_at q → s ≡ t
  same-piece s t p q st su l m e =
      go (key_at p) (key_at q) (split s p st).0 (split t q su).0 e
      (same_key (placed 0 ps) h.rising (entry (key_at p) s) (entry (key_at q) t) (in_placed 0 ps s p st l) (in_placed 0 ps t q su m))
    where
      go : (a c : ℕ) → s < STARTS → t < STARTS → a ≡ c → (key_of (entry a s) ≡ key_of (entry c t) → entry a s ≡ entry c t) → s ≡ t
      go a c x y e f = let z = f (omega arith) in omega arith

  pub lookup : (kind size source : ℕ) → Keyed kind size source → Seen kind size source ⊎ Unseen kind size source
  lookup kind size source k = go (true-or (hit (key kind size source) (placed 0 ps) (below (entry (key kind size source) 0) (placed 0 ps))))
    where
      go : (hit (key kind size source) (placed 0 ps) (below (entry (key kind size source) 0) (placed 0 ps)) ≡ true) ⊎ (hit (key kind size source) (placed 0 ps) (below (entry (key kind size source) 0) (placed 0 ps)) ≡ false) → Seen kind size source ⊎ Unseen kind size source
      go (inl t) = inl (seen (hit-true (key kind size source) (placed 0 ps) (below (entry (key kind size source) 0) (placed 0 ps)) t))
        where
          seen : Hit (key kind size source) (placed 0 ps) (below (entry (key kind size source) 0) (placed 0 ps)) → Seen kind size source
          seen w =
              let o = placed_in 0 ps (get_or (placed 0 ps) (below (entry (key kind size source) 0) (placed 0 ps)) 0) (get_d_in (placed 0 ps) (below (entry (key kind size source) 0) (placed 0 ps)) w.within) in
              from_owner w o
            where
              from_owner : Hit (key kind size source) (placed 0 ps) (below (entry (key kind size source) 0) (placed 0 ps)) → Owner 0 ps (get_or (placed 0 ps) (below (entry (key kind size source) 0) (placed 0 ps)) 0) → Seen kind size source
              from_owner w o =
                  let q = o.piece in
                  let s = o.start in
                  let sp = split s q o.stands in
                  let is-key : key_at q ≡ key kind size source = keys (key_at q) s sp.0 (sym (ap key_of o.is) ∙ w.is) in
                  let same = key-same kind size source q k (piece_keyed s q o.stands o.alive) is-key in
                  record {
                    piece = q;
                    start = s;
                    is_there = there_is (key kind size source) ∙ t;
                    found = is_found (sheet_of kind size source ps) refl s q o.stands o.alive same;
                    stands = o.stands;
                    alive = o.alive;
                    same = same;
                    within_index = omega (arith, spot_is (key kind size source), w.within, entries_are, ap length h.index_is);
                    place_is =
                        ap (λ (j : ℕ). get_or index j 0) (spot_is (key kind size source))
                        ∙ sym (get_or-take b.entries index (below (entry (key kind size source) 0) (placed 0 ps)) 0 (omega (arith, w.within, entries_are, ap length h.index_is)))
                        ∙ ap (λ (m : List ℕ). get_or m (below (entry (key kind size source) 0) (placed 0 ps)) 0) h.index_is ∙ o.is;
                    start_fits = sp.1;
                  }
                where
                  keys : (a s : ℕ) → s < STARTS → key_of (entry a s) ≡ key kind size source → a ≡ key kind size source
                  keys a s x e = go_on (key kind size source) e
                    where
                      go_on : (c : ℕ) → key_of (entry a s) ≡ c → a ≡ c
                      go_on c e = omega arith

                  is_found : (r : Option (List ℕ)) → sheet_of kind size source ps ≡ r → (s : ℕ) (q : List ℕ) → Stands 0 ps s q → live q ≡ true → Same kind size source q → sheet_of kind size source ps ≡ some q
                  is_found none e s q st l sm = absurd (sheet-none kind size source 0 ps s q e st l (same_of kind size source q sm))
                  is_found (some r) e s q st l sm =
                      let f = sheet-some kind size source 0 ps r e in
                      let starts = same-piece f.start s r q f.stands st f.alive l
                      (same-key-of kind size source r (of-same kind size source r f.is) ∙ sym (same-key-of kind size source q sm)) in
                      e ∙ ap some (stands_same 0 ps s r q h.sound (subst (λ (t : ℕ). Stands 0 ps t r) starts f.stands) st)
      go (inr f) = inr (unseen (missed (key kind size source) (placed 0 ps) h.rising f))
        where
          unseen : ((y : ℕ) → In y (placed 0 ps) → key_of y ≢ key kind size source) → Unseen kind size source
          unseen new = record { not_there = there_is (key kind size source) ∙ f; none_found = is_none (sheet_of kind size source ps) refl; new = new }
            where
              is_none : (r : Option (List ℕ)) → sheet_of kind size source ps ≡ r → sheet_of kind size source ps ≡ none
              is_none none e = e
              is_none (some r) e =
                  let f = sheet-some kind size source 0 ps r e in
                  absurd (new (entry (key_at r) f.start) (in_placed 0 ps f.start r f.stands f.alive)
                  (key_back (key_at r) f.start (split f.start r f.stands).0 ∙ same-key-of kind size source r (of-same kind size source r f.is)))
                where
                  key_back : (a s : ℕ) → s < STARTS → key_of (entry a s) ≡ a
                  key_back a s x = omega arith

  -- what is no key has no sheet
  pub unkeyed : (kind size source : ℕ) → is_key kind size source ≡ false → sheet_of kind size source ps ≡ none
  unkeyed kind size source e = go (sheet_of kind size source ps) refl
    where
      go : (r : Option (List ℕ)) → sheet_of kind size source ps ≡ r → sheet_of kind size source ps ≡ none
      go none q = q
      go (some r) q =
          let f = sheet-some kind size source 0 ps r q in
          let s = of-same kind size source r f.is in
          let k = piece_keyed f.start r f.stands f.alive in
          absurd (true-false
          (keyed_is kind size source record {
            some-kind = omega (arith, k.some-kind, s.kind_is);
            few_kinds = omega (arith, k.few_kinds, s.kind_is);
            small = omega (arith, k.small, s.size_is);
            near = omega (arith, k.near, s.source_is);
          }) e)
