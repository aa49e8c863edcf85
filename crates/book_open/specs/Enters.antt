-- A piece put into the index, case by case. Assumes nothing.
use Rattle.std.specs.Prelude.{ℕ, zero, suc, ◌+◌, ◌*◌, ◌≤◌, ◌<◌, ◌≡◌, Bool, true, ◌≢◌, List, eqb, ltb, leb, get_or}
use Rattle.std.proofs.Math.Path.{refl, sym, ap, ap₂, subst}
use Rattle.std.proofs.Common.{◌∙◌, length-take-le, eq-eqb, ne_eqb, le-leb}
use Rattle.std.proofs.Math.Bool.{false, not}
use native.Mathlib.Omega.{arith}
use Rattle.std.proofs.Math.ListN.{length, take}
use Rattle.std.proofs.lemmas.Bool.{lt-leb}
use Rattle.scan.specs.Scan.{pick}
use Rattle.scan.specs.Laws.{true-false}
use Rattle.book_parts.specs.Place.{place, place_within}
use Rattle.book_parts.specs.Moved.{opened, opened-length}
use Rattle.book.specs.Ordered.{STARTS, entry, key_of, insert, below, Rising, hit, missed, rising_insert}
use Rattle.octets.specs.Big.{number}
use Rattle.book.specs.Pieces.{live, key, key_at}
use Rattle.book.specs.Sheets.{Keyed}
use Rattle.book.specs.Searched.{search_hit, search_put}
use Rattle.book.specs.Open.{piece_length, enters, enters_index}
use Rattle.book.specs.Types.{Entered}
use Rattle.std.specs.Prelude.{Ok, Err}
use Rattle.book.specs.declared.NotEntered.TheVariants as entered
use Rattle.book_open.specs.Needs.{Enterable, Kept}
use Rattle.book_open.specs.Pieces.{Begun, begun}

no_more : {m : ℕ} {r : Entered} {A : Type 0} → (r ≡ (Err entered.Again)) → r ≡ Ok m → A
no_more e f = let z : ◌≡◌ {A = ℕ} 0 1 = cc in absurd (omega arith)

no_more-full : {m : ℕ} {r : Entered} {A : Type 0} → (r ≡ (Err entered.Full)) → r ≡ Ok m → A
no_more-full e f = let z : ◌≡◌ {A = ℕ} 0 1 = cc in absurd (omega arith)

module _ {l : List ℕ} {at places n : ℕ} {room : List ℕ} (h : Enterable l at places n room) where
  abbrev L : List ℕ
  L = take n room

  lent : n ≤ length room
  lent = omega (arith, h.few, h.lent)

  long : length (take n room) ≡ n
  long = length-take-le n room lent

  enters_by : {v t u : Bool} → live l ≡ v → hit (key_at l) (take n room) (below (entry (key_at l) 0) (take n room)) ≡ t → leb places (length (take n room)) ≡ u
      → enters places l (take n room) ≡ pick v (pick t (Err entered.Again) (pick u (Err entered.Full) (Ok (length (take n room) + 1)))) (Ok (length (take n room)))
  unfolding enters
  enters_by {v} {t} {u} pv pt pu =
      ap₂ (λ (x y : Bool). pick x (pick y (Err entered.Again) (pick (leb places (length (take n room))) (Err entered.Full) (Ok (length (take n room) + 1)))) (Ok (length (take n room)))) pv pt
      ∙ ap (λ (y : Bool). pick v (pick t (Err entered.Again) (pick y (Err entered.Full) (Ok (length (take n room) + 1)))) (Ok (length (take n room)))) pu

  pub kept_removed : get_or l 4 0 ≡ 0 → Kept l at places n room (Ok n) room
  unfolding enters_index
  kept_removed z =
      let dead : live l ≡ false = ap not (eq-eqb (get_or l 4 0) 0 z) in
      record {
        told = sym (enters_by dead refl refl ∙ ap Ok long);
        long = refl;
        more = λ m e. let same : n ≡ m = cc in (
          ap (λ (k : ℕ). take k room) (sym same) ∙ sym (ap (λ (b : Bool). pick b (insert (entry (key_at l) at) (take n room)) (take n room)) dead),
          omega (arith, h.few),
          subst (λ (k : ℕ). Rising (take k room)) same h.rising,
        );
      }

  -- what code has of it
  module _ (lively : get_or l 4 0 ≡ 0 → ⊥) {k i : ℕ} {t : Bool} (ek : k ≡ key_at l) (ei : i ≡ place room 0 n (k * 65536)) (et : t ≡ pick (ltb i n) (eqb (key_of (get_or room i 0)) k) false) where
    alive : live l ≡ true
    alive = ap not (ne_eqb (get_or l 4 0) 0 lively)

    found : i ≡ place room 0 n (entry (key_at l) 0)
    found = let e : k * 65536 ≡ entry (key_at l) 0 = omega arith in ei ∙ ap (place room 0 n) e

    hits : hit (key_at l) (take n room) (below (entry (key_at l) 0) (take n room)) ≡ t
    hits = sym (et ∙ ap (λ (x : ℕ). pick (ltb i n) (eqb (key_of (get_or room i 0)) x) false) ek ∙ search_hit room (take n room) n lent refl h.rising (key_at l) found)

    pub kept_again : t ≡ true → Kept l at places n room (Err entered.Again) room
    kept_again p = record { told = sym (enters_by alive (hits ∙ p) refl); long = refl; more = λ m e. no_more refl e }

    pub kept_full : t ≡ false → places ≤ n → Kept l at places n room (Err entered.Full) room
    kept_full p q = record { told = sym (enters_by alive (hits ∙ p) (le-leb places (length (take n room)) (omega (arith, long)))); long = refl; more = λ m e. no_more-full refl e }

    pub place-lent : i ≤ n
    place-lent = omega (arith, place_within room (k * 65536) n)

    pub kept_more : t ≡ false → n < places → {is : List ℕ} → is ≡ opened room i n (k * 65536 + at) → Kept l at places n room (Ok (n + 1)) is
    unfolding enters_index
    kept_more p q {is} e =
        let new = missed (key_at l) (take n room) h.rising (hits ∙ p) in
        let starts : at < STARTS = omega (arith, (begun at l h.piece).near, (begun at l h.piece).long) in
        let x : k * 65536 + at ≡ entry (key_at l) at = omega arith in
        let front : take (n + 1) is ≡ insert (entry (key_at l) at) (take n room) =
        ap (take (n + 1)) (e ∙ ap (opened room i n) x) ∙ search_put room (take n room) n lent refl h.rising (key_at l) at found starts new (omega (arith, h.lent)) in
        record {
          told = sym (enters_by alive (hits ∙ p) (lt-leb places (length (take n room)) (omega (arith, long))) ∙ ap (λ (m : ℕ). Ok (m + 1)) long);
          long = ap length e ∙ opened-length room i n (k * 65536 + at);
          more = λ m g. let same : n + 1 ≡ m = cc in (
            ap (λ (j : ℕ). take j is) (sym same) ∙ front ∙ sym (ap (λ (b : Bool). pick b (insert (entry (key_at l) at) (take n room)) (take n room)) alive),
            omega arith,
            subst (λ (j : ℕ). Rising (take j is)) same (subst Rising (sym front) (rising_insert (entry (key_at l) at) (take n room) h.rising (λ y w z. new y w (z ∙ entry_key (key_at l) at starts)))),
          );
        }
      where
        entry_key : (a s : ℕ) → s < STARTS → key_of (entry a s) ≡ a
        entry_key a s z = omega arith

-- ---- the key as code reads it

-- kind, size and source as code reads them
module _ (l : List ℕ) {kind size s : ℕ} (ek : kind ≡ get_or l 5 0) (ez : size ≡ get_or l 6 0) (es : s ≡ number l 8 8) where
  pub key-at : {k : ℕ} → k ≡ key kind size s → k ≡ key_at l
  key-at f = f ∙ ap₂ (λ (a b : ℕ). key a b s) ek ez ∙ ap (key (get_or l 5 0) (get_or l 6 0)) es

  pub keyed_here : Keyed (get_or l 5 0) (get_or l 6 0) (number l 8 8) → Keyed kind size s
  keyed_here k = record { some-kind = omega (arith, k.some-kind); few_kinds = omega (arith, k.few_kinds); small = omega (arith, k.small); near = omega (arith, k.near) }

-- the same key, its source as it is told
pub keyed_same : {kind size source s : ℕ} → Keyed kind size source → s ≡ source → Keyed kind size s
keyed_same {kind} {size} k e = subst (Keyed kind size) (sym e) k
