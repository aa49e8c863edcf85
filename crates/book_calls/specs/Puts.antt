-- A sheet put into a book: behind the last one, or behind the live ones once it is closed up. Assumes nothing.
use Rattle.std.specs.Prelude.{ℕ, ◌+◌, ◌-◌, ◌≤◌, ◌<◌, min, ◌≡◌, refl, Bool, true, false, List, take, ◌⊎◌}
use Rattle.std.proofs.Math.Path.{sym, ap}
use Rattle.std.proofs.Common.{ap₂, ◌∙◌, subst, arith, inl, inr}
use Rattle.std.proofs.Math.Dec.{ltb}
use Rattle.std.proofs.Math.ListN.{length}
use borrow.Author.Tests.{lt-ltb, le-ltb, ltb-true, ltb-false}
use Rattle.scan.specs.Scan.{pick}
use Rattle.std.proofs.lemmas.List.Edits.{sets}
use Rattle.scan.specs.Laws.{true-or}
use Rattle.book_parts.specs.Moved.{opened}
use Rattle.book.specs.Ordered.{entry}
use Rattle.book.specs.Pieces.{key_at}
use Rattle.book.specs.Closed.{kept}
use Rattle.book.specs.Says.{limit, count, spot, in_use, if_added, if_no_room, crammed, end_says, end_bytes, end_index, add_says, add_bytes, add_index, close_book, close_bytes, close_index}
use Rattle.book.specs.declared.Book.{Book}
use Rattle.book.specs.Types.{Added}
use Rattle.std.specs.Prelude.{Ok, Err}
use Rattle.book.specs.declared.NotAdded.{NotAdded}
use Rattle.book.specs.declared.NotAdded.TheVariants as added

pub ok_err : {b : Book} {why : NotAdded} {A : Type 0} → ◌≡◌ {A = Added} (Ok b) (Err why) → A
ok_err e = absurd (let z : ◌≡◌ {A = ℕ} 0 1 = cc in omega arith)

pub err_same : {x y : NotAdded} → ◌≡◌ {A = Added} (Err x) (Err y) → x ≡ y
err_same e = cc

-- an answer that is not that there is no room
other : {A : Type 0} (r : Added) (x y : A) → (r ≡ (Err added.NoRoom) → ⊥) → if_no_room r x y ≡ y
other (Ok b) x y h = refl
other (Err (added.Flawed f)) x y h = refl
other (Err added.There) x y h = refl
other (Err added.Full) x y h = refl
other (Err added.NoRoom) x y h = absurd (h refl)

module _ (b : Book) (bytes index sheet : List ℕ) where
  -- what is told and left: behind the last one, where there was no room there, and in all
  abbrev pub EndPut : (r : Added) (bytes' index' : List ℕ) → Type 0
  EndPut r bytes' index' = (r ≡ end_says b bytes index sheet) × (bytes' ≡ end_bytes b bytes index sheet) × (index' ≡ end_index b bytes index sheet)

  pub record ClosedPut (r : Added) (bytes' index' : List ℕ) : Type 0 where
    pub says : r ≡ pick (crammed b bytes sheet) (Err added.NoRoom) (end_says (close_book b bytes index) (close_bytes b bytes index) (close_index b bytes index) sheet)
    pub leaves : bytes' ≡ pick (crammed b bytes sheet) bytes (end_bytes (close_book b bytes index) (close_bytes b bytes index) (close_index b bytes index) sheet)
    pub leaves-index : index' ≡ pick (crammed b bytes sheet) index (end_index (close_book b bytes index) (close_bytes b bytes index) (close_index b bytes index) sheet)

  abbrev pub AllPut : (r : Added) (bytes' index' : List ℕ) → Type 0
  AllPut r bytes' index' = (r ≡ add_says b bytes index sheet) × (bytes' ≡ add_bytes b bytes index sheet) × (index' ≡ add_index b bytes index sheet)

  pub closed-crammed : crammed b bytes sheet ≡ true → ClosedPut (Err added.NoRoom) bytes index
  closed-crammed e = record {
    says = sym (ap (λ (c : Bool). pick c (Err added.NoRoom) (end_says (close_book b bytes index) (close_bytes b bytes index) (close_index b bytes index) sheet)) e);
    leaves = sym (ap (λ (c : Bool). pick c bytes (end_bytes (close_book b bytes index) (close_bytes b bytes index) (close_index b bytes index) sheet)) e);
    leaves-index = sym (ap (λ (c : Bool). pick c index (end_index (close_book b bytes index) (close_bytes b bytes index) (close_index b bytes index) sheet)) e);
  }

  -- what closing up gives and leaves, and then what is put behind the last
  pub closed-put : crammed b bytes sheet ≡ false → {h : Book} {bytes₁ index₁ : List ℕ}
      → (h ≡ close_book b bytes index) × (bytes₁ ≡ close_bytes b bytes index) × (index₁ ≡ close_index b bytes index)
      → {r : Added} {bytes₂ index₂ : List ℕ} → (r ≡ end_says h bytes₁ index₁ sheet) × (bytes₂ ≡ end_bytes h bytes₁ index₁ sheet) × (index₂ ≡ end_index h bytes₁ index₁ sheet)
      → ClosedPut r bytes₂ index₂
  closed-put e {h} {bytes₁} {index₁} c p = record {
    says =
        p.0 ∙ both {A = Added} (λ x y z. end_says x y z sheet) c
        ∙ sym (ap (λ (w : Bool). pick w (Err added.NoRoom) (end_says (close_book b bytes index) (close_bytes b bytes index) (close_index b bytes index) sheet)) e);
    leaves =
        p.1 ∙ both {A = List ℕ} (λ x y z. end_bytes x y z sheet) c
        ∙ sym (ap (λ (w : Bool). pick w bytes (end_bytes (close_book b bytes index) (close_bytes b bytes index) (close_index b bytes index) sheet)) e);
    leaves-index =
        p.2 ∙ both {A = List ℕ} (λ x y z. end_index x y z sheet) c
        ∙ sym (ap (λ (w : Bool). pick w index (end_index (close_book b bytes index) (close_bytes b bytes index) (close_index b bytes index) sheet)) e);
  }
    where
      both : {A : Type 0} (f : Book → List ℕ → List ℕ → A) → (h ≡ close_book b bytes index) × (bytes₁ ≡ close_bytes b bytes index) × (index₁ ≡ close_index b bytes index)
          → f h bytes₁ index₁ ≡ f (close_book b bytes index) (close_bytes b bytes index) (close_index b bytes index)
      both f c = ap₂ (λ (x : Book) (y : List ℕ). f x y index₁) c.0 c.1 ∙ ap (f (close_book b bytes index) (close_bytes b bytes index)) c.2

  -- ---- both together

  module _ {r : Added} {bytes₁ index₁ : List ℕ} (p : EndPut r bytes₁ index₁) where
    pub all_end : (r ≡ (Err added.NoRoom) → ⊥) → AllPut r bytes₁ index₁
    unfolding add_says add_bytes add_index
    all_end some =
        let is : end_says b bytes index sheet ≡ r = sym p.0 in (
          sym is ∙ sym (ap (λ (z : Added). if_no_room z (pick (crammed b bytes sheet) (Err added.NoRoom) (end_says (close_book b bytes index) (close_bytes b bytes index) (close_index b bytes index) sheet)) (end_says b bytes index sheet)) is ∙ other r _ _ some),
          p.1 ∙ sym (ap (λ (z : Added). if_no_room z (pick (crammed b bytes sheet) bytes (end_bytes (close_book b bytes index) (close_bytes b bytes index) (close_index b bytes index) sheet)) (end_bytes b bytes index sheet)) is ∙ other r _ _ some),
          p.2 ∙ sym (ap (λ (z : Added). if_no_room z (pick (crammed b bytes sheet) index (end_index (close_book b bytes index) (close_bytes b bytes index) (close_index b bytes index) sheet)) (end_index b bytes index sheet)) is ∙ other r _ _ some),
        )

    pub all_but : {a : Added} → r ≡ a → (a ≡ (Err added.NoRoom) → ⊥) → AllPut a bytes₁ index₁
    all_but e some = let q = all_end (λ z. some (sym e ∙ z)) in (sym e ∙ q.0, q.1, q.2)

    -- where there was no room nothing had changed
    module _ (e : r ≡ (Err added.NoRoom)) where
      is_none : end_says b bytes index sheet ≡ (Err added.NoRoom)
      is_none = sym p.0 ∙ e

      pub same_bytes : bytes₁ ≡ bytes
      unfolding end_bytes
      same_bytes = p.1 ∙ ap (λ (z : Added). if_added z (sets bytes b.used sheet) bytes) is_none

      pub same_index : index₁ ≡ index
      unfolding end_index
      same_index = p.2 ∙ ap (λ (z : Added). if_added z (opened index (spot b index (key_at sheet)) (count b index) (entry (key_at sheet) b.used)) index) is_none

-- and then it is closed up
pub all_closed : (b : Book) (bytes index sheet : List ℕ) {r : Added} {bytes₁ index₁ : List ℕ} (p : EndPut b bytes index sheet r bytes₁ index₁) → r ≡ (Err added.NoRoom)
    → {q : Added} {bytes₂ index₂ : List ℕ} → ClosedPut b bytes₁ index₁ sheet q bytes₂ index₂ → AllPut b bytes index sheet q bytes₂ index₂
unfolding add_says add_bytes add_index
all_closed b bytes index sheet {r} {bytes₁} {index₁} p e {q} {bytes₂} {index₂} c = go (subst (λ (l : List ℕ). ClosedPut b l index sheet q bytes₂ index₂) (same_bytes b bytes index sheet p e) (subst (λ (l : List ℕ). ClosedPut b bytes₁ l sheet q bytes₂ index₂) (same_index b bytes index sheet p e) c))
  where
    go : ClosedPut b bytes index sheet q bytes₂ index₂ → AllPut b bytes index sheet q bytes₂ index₂
    go c =
        let is = is_none b bytes index sheet p e in (
          c.says ∙ sym (ap (λ (z : Added). if_no_room z (pick (crammed b bytes sheet) (Err added.NoRoom) (end_says (close_book b bytes index) (close_bytes b bytes index) (close_index b bytes index) sheet)) (end_says b bytes index sheet)) is),
          c.leaves ∙ sym (ap (λ (z : Added). if_no_room z (pick (crammed b bytes sheet) bytes (end_bytes (close_book b bytes index) (close_bytes b bytes index) (close_index b bytes index) sheet)) (end_bytes b bytes index sheet)) is),
          c.leaves-index ∙ sym (ap (λ (z : Added). if_no_room z (pick (crammed b bytes sheet) index (end_index (close_book b bytes index) (close_bytes b bytes index) (close_index b bytes index) sheet)) (end_index b bytes index sheet)) is),
        )

-- ---- what code has of the live bytes

module _ (b : Book) (bytes : List ℕ) {room end : ℕ} (e : room ≡ min (length bytes) 65536) (f : end ≡ min b.used room) where
  pub live_fits : end ≤ length bytes
  live_fits = omega (arith, e, f)

  module _ (sheet : List ℕ) {n : ℕ} (g : n ≡ length (kept (take end bytes))) where
    live_is : n ≡ length (kept (in_use b bytes))
    unfolding in_use limit
    live_is = let same : room ≡ min 65536 (length bytes) = omega arith in g ∙ ap (λ (k : ℕ). length (kept (take k bytes))) (f ∙ ap (min b.used) same)

    room_is : room ≡ limit bytes
    unfolding limit
    room_is = omega arith

    pub crammed_long : room < length sheet → true ≡ crammed b bytes sheet
    unfolding crammed
    crammed_long h = sym (lt-ltb (limit bytes) (length (kept (in_use b bytes)) + length sheet) (omega (arith, room_is)))

    pub crammed-rest : length sheet ≤ room → ltb (room - length sheet) n ≡ crammed b bytes sheet
    unfolding crammed
    crammed-rest h = go (true-or (ltb (room - length sheet) n))
      where
        go : (ltb (room - length sheet) n ≡ true) ⊎ (ltb (room - length sheet) n ≡ false) → ltb (room - length sheet) n ≡ ltb (limit bytes) (length (kept (in_use b bytes)) + length sheet)
        go (inl z) = z ∙ sym (lt-ltb (limit bytes) (length (kept (in_use b bytes)) + length sheet) (omega (arith, room_is, live_is, ltb-true (room - length sheet) n z)))
        go (inr z) = z ∙ sym (le-ltb (limit bytes) (length (kept (in_use b bytes)) + length sheet) (omega (arith, room_is, live_is, ltb-false (room - length sheet) n z)))
