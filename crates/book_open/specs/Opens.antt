-- The pieces gone through one after another (`Going`), and what is told of them all (`Gathered`). Assumes nothing.
use Rattle.std.specs.Prelude.{ℕ, zero, suc, ◌+◌, ◌-◌, ◌≤◌, ◌<◌, min, ◌≡◌, Bool, true, false, eqb, length, take, drop}
use Rattle.std.proofs.Math.Path.{refl, ap}
use Rattle.std.proofs.Common.{sym, ap₂, ◌∙◌, subst, arith, length-drop, take_all, drop-drop, length-take-le, eq-eqb, ne_eqb}
use mathlib.Core.List.{List, [], ◌∷◌}
use Rattle.std.proofs.lemmas.List.Edits.{sets}
use Rattle.std.proofs.Math.Seq.{drop-length}
use Rattle.scan.specs.Scan.{pick}
use Rattle.book.specs.Ordered.{Rising}
use Rattle.book.specs.Says.{LIMIT, capacity, book_of}
use Rattle.book.specs.Open.{Opening, done, bad, full, go_on, piece_length, enters, enters_index, open_from, opening, opened_by, left_by, open_says, open_index}
use Rattle.book.specs.Told.{opened_book}
use Rattle.book.specs.declared.Book.{Book}
use Rattle.book.specs.Types.{Entered, Opened}
use Rattle.std.specs.Prelude.{Ok, Err}
use Rattle.book.specs.declared.NotOpened.TheVariants as opened
use Rattle.book.specs.declared.NotEntered.TheVariants as entered
use Rattle.book_open.specs.Needs.{Enterable, Kept}
use Rattle.book_open.specs.Pieces.{Begun, begun}

-- what is told of all of them, and the places in the room where it is a book
pub record Gathered (bytes : List ℕ) (places : ℕ) (r : Opened) (room : List ℕ) : Type 0 where
  pub told : r ≡ opened_by (length bytes) (open_from (length bytes) places 0 bytes [])
  pub kept : (b : Book) → r ≡ Ok b → (open_from (length bytes) places 0 bytes [] ≡ done (take b.entries room)) × (b.entries ≤ places)

-- the pieces before `at` are gone through, and the first n places of the room are theirs
pub record Going (bytes : List ℕ) (places : ℕ) (was room : List ℕ) (at n : ℕ) : Type 0 where
  pub within : at ≤ length bytes
  pub near : at ≤ LIMIT
  pub few : n ≤ places
  pub lent : places ≤ length room
  pub long : length room ≡ length was
  pub rising : Rising (take n room)
  pub steps : ℕ
  pub enough : length bytes ≤ at + steps
  pub same : open_from (length bytes) places 0 bytes [] ≡ open_from steps places at (drop at bytes) (take n room)

pub going_starts : (bytes room : List ℕ) (places : ℕ) → places ≤ length room → Going bytes places room room 0 0
going_starts bytes room places h = record {
  within = omega arith;
  near = omega arith;
  few = omega arith;
  lent = h;
  long = refl;
  rising = tt;
  steps = length bytes;
  enough = omega arith;
  same = refl;
}

-- one step
pub open_step : (steps places at : ℕ) (l index : List ℕ) → 0 < length l → 0 < steps
    → open_from steps places at l index
    ≡ pick (eqb (piece_length at l) 0) (bad at) (go_on at (enters places l index) (open_from (steps - 1) places (at + piece_length at l) (drop (piece_length at l) l) (enters_index at l index)))
unfolding open_from
open_step zero places at l index h g = absurd (omega arith)
open_step (suc steps) places at [] index h g = absurd (omega arith)
open_step (suc steps) places at (x ∷ l) index h g =
    let e : steps ≡ suc steps - 1 = omega arith in
    ap (λ (k : ℕ). pick (eqb (piece_length at (x ∷ l)) 0) (bad at)
    (go_on at (enters places (x ∷ l) index) (open_from k places (at + piece_length at (x ∷ l)) (drop (piece_length at (x ∷ l)) (x ∷ l)) (enters_index at (x ∷ l) index)))) e

pub open_none : (steps places at : ℕ) (index : List ℕ) → open_from steps places at [] index ≡ done index
unfolding open_from
open_none zero places at index = refl
open_none (suc steps) places at index = refl

no_book : {r : Opened} {b : Book} {s : ℕ} {A : Type 0} → (Err (opened.Bad s)) ≡ r → r ≡ Ok b → A
no_book e f = let z : ◌≡◌ {A = ℕ} 0 1 = cc in absurd (omega arith)

no_book_full : {r : Opened} {b : Book} {A : Type 0} → (Err opened.Full) ≡ r → r ≡ Ok b → A
no_book_full e f = let z : ◌≡◌ {A = ℕ} 0 1 = cc in absurd (omega arith)

module _ {bytes : List ℕ} {places : ℕ} {was room : List ℕ} {at n : ℕ} (g : Going bytes places was room at n) where
  all : Opening
  all = open_from (length bytes) places 0 bytes []

  pub going_ends : length bytes ≤ at → Gathered bytes places (Ok (book_of (length bytes) n)) room
  going_ends h =
      let e : at ≡ length bytes = omega (arith, g.within) in
      let none : drop at bytes ≡ [] = ap (λ (k : ℕ). drop k bytes) e ∙ drop-length bytes in
      let is : open_from (length bytes) places 0 bytes [] ≡ done (take n room) =
      g.same ∙ ap (λ (l : List ℕ). open_from g.steps places at l (take n room)) none ∙ open_none g.steps places at (take n room) in
      let few : length (take n room) ≡ n = length-take-le n room (omega (arith, g.few, g.lent)) in
      record {
        told = sym (ap (opened_by (length bytes)) is ∙ ap (λ (k : ℕ). Ok (book_of (length bytes) k)) few);
        kept = λ b q. let same : n ≡ b.entries = ap entries_of q in (is ∙ ap (λ (k : ℕ). done (take k room)) same, omega (arith, g.few));
      }
    where
      entries_of : Opened → ℕ
      entries_of (Ok b) = b.entries
      entries_of ((Err (opened.Bad s))) = 0
      entries_of (Err opened.Full) = 0

  module _ (h : at < length bytes) {size : ℕ} (es : size ≡ piece_length at (drop at bytes)) where
    step : open_from (length bytes) places 0 bytes []
        ≡ pick (eqb size 0) (bad at) (go_on at (enters places (drop at bytes) (take n room)) (open_from (g.steps - 1) places (at + size) (drop size (drop at bytes)) (enters_index at (drop at bytes) (take n room))))
    step =
        g.same ∙ open_step g.steps places at (drop at bytes) (take n room) (omega (arith, length-drop at bytes)) (omega (arith, g.enough))
        ∙ ap (λ (k : ℕ). pick (eqb k 0) (bad at) (go_on at (enters places (drop at bytes) (take n room)) (open_from (g.steps - 1) places (at + k) (drop k (drop at bytes)) (enters_index at (drop at bytes) (take n room))))) (sym es)

    pub going_bad : size ≡ 0 → Gathered bytes places ((Err (opened.Bad at))) room
    going_bad z = record {
      told = sym (ap (opened_by (length bytes)) (step ∙ ap (λ (b : Bool). pick b (bad at) (go_on at (enters places (drop at bytes) (take n room)) (open_from (g.steps - 1) places (at + size) (drop size (drop at bytes)) (enters_index at (drop at bytes) (take n room))))) (eq-eqb size 0 z)));
      kept = λ b q. no_book refl q;
    }

    module _ (some : 0 < size) where
      pub going_enter : Enterable (drop at bytes) at places n room
      going_enter = record { piece = omega arith; few = g.few; lent = g.lent; rising = g.rising }

      begins : Begun at (drop at bytes)
      begins = begun at (drop at bytes) going_enter.piece

      -- room for the length and what is left
      pub going_size : (at + size ≤ length bytes) × (at + size ≤ LIMIT) × (0 < size)
      going_size =
          let is = begins.is in
          (omega (arith, begins.whole, length-drop at bytes), omega (arith, begins.near), omega (arith, begins.long))

      module _ {r : Entered} {room' : List ℕ} (k : Kept (drop at bytes) at places n room r room') where
        stepped : open_from (length bytes) places 0 bytes []
            ≡ go_on at r (open_from (g.steps - 1) places (at + size) (drop size (drop at bytes)) (enters_index at (drop at bytes) (take n room)))
        stepped =
            step ∙ ap (λ (b : Bool). pick b (bad at) (go_on at (enters places (drop at bytes) (take n room)) (open_from (g.steps - 1) places (at + size) (drop size (drop at bytes)) (enters_index at (drop at bytes) (take n room))))) (ne_eqb size 0 (λ e. omega arith))
            ∙ ap (λ (x : Entered). go_on at x (open_from (g.steps - 1) places (at + size) (drop size (drop at bytes)) (enters_index at (drop at bytes) (take n room)))) (sym k.told)

        pub going_again : r ≡ (Err entered.Again) → Gathered bytes places ((Err (opened.Bad at))) room'
        going_again e = record {
          told = sym (ap (opened_by (length bytes)) (stepped ∙ ap (λ (x : Entered). go_on at x (open_from (g.steps - 1) places (at + size) (drop size (drop at bytes)) (enters_index at (drop at bytes) (take n room)))) e));
          kept = λ b q. no_book refl q;
        }

        pub going_full : r ≡ (Err entered.Full) → Gathered bytes places (Err opened.Full) room'
        going_full e = record {
          told = sym (ap (opened_by (length bytes)) (stepped ∙ ap (λ (x : Entered). go_on at x (open_from (g.steps - 1) places (at + size) (drop size (drop at bytes)) (enters_index at (drop at bytes) (take n room)))) e));
          kept = λ b q. no_book_full refl q;
        }

        pub going_more : {m : ℕ} → r ≡ Ok m → Going bytes places was room' (at + size) m
        going_more {m} e =
            let w = k.more m e in
            let s = going_size in
            record {
              within = s.0;
              near = s.1;
              few = w.1;
              lent = omega (arith, g.lent, k.long);
              long = k.long ∙ g.long;
              rising = w.2;
              steps = g.steps - 1;
              enough = omega (arith, g.enough, s.2);
              same =
                  stepped ∙ ap (λ (x : Entered). go_on at x (open_from (g.steps - 1) places (at + size) (drop size (drop at bytes)) (enters_index at (drop at bytes) (take n room)))) e
                  ∙ ap₂ (open_from (g.steps - 1) places (at + size)) (drop-drop size at bytes) (sym w.0);
            }

-- ---- told and left

module _ (bytes index room : List ℕ) {places : ℕ} {r : Opened} (ep : places ≡ min (length index) 256) (g : Gathered bytes places r room) where
  all_of : open_from (length bytes) places 0 bytes [] ≡ opening bytes index
  unfolding opening capacity
  all_of = ap (λ (k : ℕ). open_from (length bytes) k 0 bytes []) (omega arith)

  pub open_told : r ≡ open_says bytes index
  unfolding open_says
  open_told = g.told ∙ ap (opened_by (length bytes)) all_of

  pub open_left : {is : List ℕ} → is ≡ sets index 0 (take (opened_book r (book_of 0 0)).entries room) → is ≡ open_index bytes index
  unfolding open_index
  open_left {is} e = e ∙ go r g.told (λ b q. (g.kept b q).0) ∙ ap (left_by index) all_of
    where
      refused : (o : Opening) → ((l : List ℕ) → o ≡ done l → ⊥) → index ≡ left_by index o
      refused (done l) h = absurd (h l refl)
      refused (bad t) h = refl
      refused full h = refl

      go : (q : Opened) → q ≡ opened_by (length bytes) (open_from (length bytes) places 0 bytes []) → ((b : Book) → q ≡ Ok b → open_from (length bytes) places 0 bytes [] ≡ done (take b.entries room))
          → sets index 0 (take (opened_book q (book_of 0 0)).entries room) ≡ left_by index (open_from (length bytes) places 0 bytes [])
      go (Ok b) t k = ap (left_by index) (sym (k b refl))
      go ((Err (opened.Bad s))) t k = refused (open_from (length bytes) places 0 bytes []) (λ l f. no_book t (ap (opened_by (length bytes)) f))
      go (Err opened.Full) t k = refused (open_from (length bytes) places 0 bytes []) (λ l f. no_book_full t (ap (opened_by (length bytes)) f))

  -- so many places are kept
  module _ {b₀ : Book} (eb : b₀ ≡ opened_book r (book_of 0 0)) where
    pub open_few : (b₀.entries ≤ 256) × (b₀.entries ≤ length index)
    open_few = go r (λ b e. (g.kept b e).1) (ap (λ (b : Book). b.entries) eb)
      where
        go : (q : Opened) → ((b : Book) → q ≡ Ok b → b.entries ≤ places) → b₀.entries ≡ (opened_book q (book_of 0 0)).entries → (b₀.entries ≤ 256) × (b₀.entries ≤ length index)
        go (Ok b) k e = let w = k b refl in (omega arith, omega arith)
        go (Err (opened.Bad s)) k e = (omega arith, omega arith)
        go (Err opened.Full) k e = (omega arith, omega arith)

-- ---- a part of a slice, from a place on

part_is : (l : List ℕ) (at : ℕ) → take (length l - at) (drop at l) ≡ drop at l
part_is l at = take_all (length l - at) (drop at l) (omega (arith, length-drop at l))

module _ (l : List ℕ) (at : ℕ) where
  pub part-size : {size : ℕ} → size ≡ piece_length at (take (length l - at) (drop at l)) → size ≡ piece_length at (drop at l)
  part-size e = e ∙ ap (piece_length at) (part_is l at)

  pub part-enter : {places n : ℕ} {room : List ℕ} → Enterable (drop at l) at places n room → Enterable (take (length l - at) (drop at l)) at places n room
  part-enter {places} {n} {room} h = subst (λ (m : List ℕ). Enterable m at places n room) (sym (part_is l at)) h

  pub part-kept : {places n : ℕ} {was is : List ℕ} {r : Entered} → Kept (take (length l - at) (drop at l)) at places n was r is → Kept (drop at l) at places n was r is
  part-kept {places} {n} {was} {is} {r} h = subst (λ (m : List ℕ). Kept m at places n was r is) (part_is l at) h
