-- The working room, a number for each relay: its lower half is the relay's label (`label`), its upper half an entry of the queue (`queued`). What a relay that is entered
-- changes (`Entered`), and what a room holds that is cleared for a search (`Cleared`). Assumes nothing.
use Rattle.std.specs.Prelude.{ℕ, ◌+◌, ◌*◌, ◌/◌, ◌%◌, ◌≤◌, ◌<◌, ◌≡◌, refl, Bool, true, false, ◌⊎◌, ◌≢◌, List, Option, Some, None, set, replicate}
use Rattle.std.specs.Option.{is_some}
use Rattle.std.proofs.Common.{sym, ◌∙◌, subst, inl, inr, arith, get_or-set_same, get_or-set_other}
use Rattle.std.proofs.Math.Path.{ap}
use Rattle.std.proofs.Math.Decide.{ℕ_discrete}
use Rattle.std.proofs.Math.ListN.{length, get_or, length-set}
use Rattle.std.proofs.lemmas.List.Edits.{sets}
use Rattle.scan.specs.Scan.{pick, among, has}
use Rattle.scan.specs.Laws.{true-or, among-true, among-false, false-among, true-among}
use Rattle.scan.specs.Runs.{filled_in}
use Rattle.around_search.specs.Labels.{halt}

abbrev pub half : ℕ
half = 4294967296

unfoldable pub label : (room : List ℕ) (r : ℕ) → ℕ
label room r = get_or room r 0 % half

-- the label of a relay that is so many links from the target, or has not been reached
abbrev pub label_of : Option ℕ → ℕ
label_of None = 0
label_of (Some d) = d + 1

pub labelled : (o : Option ℕ) → is_some o ≡ true → 0 < label_of o
labelled None e = absurd (cc)
labelled (Some d) e = omega arith

unfoldable pub queued : (room : List ℕ) (i : ℕ) → ℕ
queued room i = get_or room i 0 / half

-- relay r has got a label, and is entry i of the queue
pub record Entered (r l i : ℕ) (room room' : List ℕ) : Type 0 where
  pub long : length room' ≡ length room
  pub new : label room' r ≡ l
  pub old : (j : ℕ) → j ≢ r → label room' j ≡ label room j
  pub last : queued room' i ≡ r
  pub others : (j : ℕ) → j ≢ i → queued room' j ≡ queued room j

-- one half of a number exchanged for another
low : (x l : ℕ) → l < half → ((x / half * half + l) % half ≡ l) × ((x / half * half + l) / half ≡ x / half)
low x l h = (omega arith, omega arith)

high : (x r : ℕ) → ((r * half + x % half) % half ≡ x % half) × ((r * half + x % half) / half ≡ r)
high x r = (omega arith, omega arith)

-- the label written, then the entry
module _ (r l i : ℕ) (room a b : List ℕ) (hl : l < half) (hr : r < length room) (hi : i < length room)
    (ea : a ≡ set room r (get_or room r 0 / half * half + l)) (eb : b ≡ set a i (r * half + get_or a i 0 % half)) where
  long_a : length a ≡ length room
  long_a = ap length ea ∙ length-set room r (get_or room r 0 / half * half + l)

  at_a : get_or a r 0 ≡ get_or room r 0 / half * half + l
  at_a = ap (λ (k : List ℕ). get_or k r 0) ea ∙ get_or-set_same room r (get_or room r 0 / half * half + l) 0 hr

  off_a : (j : ℕ) → j ≢ r → get_or a j 0 ≡ get_or room j 0
  off_a j ne = ap (λ (k : List ℕ). get_or k j 0) ea ∙ get_or-set_other room r j (get_or room r 0 / half * half + l) 0 ne

  at_b : get_or b i 0 ≡ r * half + get_or a i 0 % half
  at_b = ap (λ (k : List ℕ). get_or k i 0) eb ∙ get_or-set_same a i (r * half + get_or a i 0 % half) 0 (omega (arith, long_a))

  off_b : (j : ℕ) → j ≢ i → get_or b j 0 ≡ get_or a j 0
  off_b j ne = ap (λ (k : List ℕ). get_or k j 0) eb ∙ get_or-set_other a i j (r * half + get_or a i 0 % half) 0 ne

  -- the lower halves are those of a, the upper ones those of the room but at i
  lower : (j : ℕ) → Dec (j ≡ i) → get_or b j 0 % half ≡ get_or a j 0 % half
  lower j (no ne) = ap (λ (x : ℕ). x % half) (off_b j ne)
  lower j (yes e) = ap (λ (k : ℕ). get_or b k 0 % half) e ∙ ap (λ (x : ℕ). x % half) at_b ∙ (high (get_or a i 0) r).0 ∙ ap (λ (k : ℕ). get_or a k 0 % half) (sym e)

  upper : (j : ℕ) → Dec (j ≡ r) → get_or a j 0 / half ≡ get_or room j 0 / half
  upper j (no ne) = ap (λ (x : ℕ). x / half) (off_a j ne)
  upper j (yes e) = ap (λ (k : ℕ). get_or a k 0 / half) e ∙ ap (λ (x : ℕ). x / half) at_a ∙ (low (get_or room r 0) l hl).1 ∙ ap (λ (k : ℕ). get_or room k 0 / half) (sym e)

  pub entered : Entered r l i room b
  unfolding label queued
  entered = record {
    long = ap length eb ∙ length-set a i (r * half + get_or a i 0 % half) ∙ long_a;
    new = lower r (ℕ_discrete r i) ∙ ap (λ (x : ℕ). x % half) at_a ∙ (low (get_or room r 0) l hl).0;
    old = λ j ne. lower j (ℕ_discrete j i) ∙ ap (λ (x : ℕ). x % half) (off_a j ne);
    last = ap (λ (x : ℕ). x / half) at_b ∙ (high (get_or a i 0) r).1;
    others = λ j ne. ap (λ (x : ℕ). x / half) (off_b j ne) ∙ upper j (ℕ_discrete j r);
  }

-- ---- a room cleared

-- the places of the relays of a list have the mark of what has stopped, the others 0
pub record Cleared (relays : ℕ) (stopped : List ℕ) (n places : ℕ) (room : List ℕ) : Type 0 where
  pub long : length room ≡ places
  pub is : (r : ℕ) → r < relays → get_or room r 0 ≡ pick (among stopped 0 n r) halt 0

-- one relay's place marked, if there is such a relay
pub record Marked (relays x : ℕ) (room room' : List ℕ) : Type 0 where
  pub long : length room' ≡ length room
  pub here : x < relays → get_or room' x 0 ≡ halt
  pub old : (j : ℕ) → j ≢ x → get_or room' j 0 ≡ get_or room j 0

pub marked : (relays x : ℕ) (room : List ℕ) → relays ≤ length room → x < relays → Marked relays x room (set room x halt)
marked relays x room h l = record {
  long = length-set room x halt;
  here = λ z. get_or-set_same room x halt 0 (omega arith);
  old = λ j ne. get_or-set_other room x j halt 0 ne;
}

pub unmarked : (relays x : ℕ) (room : List ℕ) → relays ≤ x → Marked relays x room room
unmarked relays x room l = record { long = refl; here = λ z. absurd (omega arith); old = λ j ne. refl }

pub cleared_none : (relays : ℕ) (stopped room₀ room : List ℕ) → room ≡ sets room₀ 0 (replicate relays 0) → relays ≤ length room₀ → Cleared relays stopped 0 (length room) room
cleared_none relays stopped room₀ room e h = record {
  long = refl;
  is = λ r l.
      ap (λ (k : List ℕ). get_or k r 0) e
      ∙ filled_in room₀ 0 relays 0 r (omega arith) (omega arith) (omega arith)
      ∙ ap (λ (b : Bool). pick b halt 0) (sym (false-among stopped 0 0 r (λ j a b. absurd (omega arith))));
}

pub cleared_more : {relays n x places : ℕ} {stopped room room' : List ℕ} → Cleared relays stopped n places room → x ≡ get_or stopped n 0 → Marked relays x room room'
    → Cleared relays stopped (n + 1) places room'
cleared_more {relays} {n} {x} {places} {stopped} {room} {room'} C e M = record {
  long = M.long ∙ C.long;
  is = λ r l. is r l (ℕ_discrete r x);
}
  where
    -- a relay that is another one is among the first n + 1 exactly if it is among the first n
    more : (r : ℕ) → r ≢ x → (among stopped 0 n r ≡ true) ⊎ (among stopped 0 n r ≡ false) → among stopped 0 n r ≡ among stopped 0 (n + 1) r
    more r ne (inl t) =
        let (j, a, b, z) = among-true stopped 0 n r t in
        t ∙ sym (true-among stopped 0 (n + 1) r j (omega arith) (omega arith) z)
    more r ne (inr f) = f ∙ sym (false-among stopped 0 (n + 1) r (λ j a b. other j b (ℕ_discrete j n)))
      where
        other : (j : ℕ) → j < 0 + (n + 1) → Dec (j ≡ n) → get_or stopped j 0 ≢ r
        other j b (yes z) w = ne (sym w ∙ ap (λ (i : ℕ). get_or stopped i 0) z ∙ sym e)
        other j b (no nz) w = among-false stopped 0 n r f j (omega arith) (omega arith) w

    is : (r : ℕ) → r < relays → Dec (r ≡ x) → get_or room' r 0 ≡ pick (among stopped 0 (n + 1) r) halt 0
    is r l (yes z) =
        ap (λ (k : ℕ). get_or room' k 0) z
        ∙ M.here (omega arith)
        ∙ ap (λ (b : Bool). pick b halt 0) (sym (true-among stopped 0 (n + 1) r n (omega arith) (omega arith) (sym e ∙ sym z)))
    is r l (no ne) = M.old r ne ∙ C.is r l ∙ ap (λ (b : Bool). pick b halt 0) (more r ne (true-or (among stopped 0 n r)))

pub cleared_all : {relays n places k : ℕ} {stopped room : List ℕ} → n ≡ length stopped → places ≡ k → Cleared relays stopped n places room → Cleared relays stopped (length stopped) k room
cleared_all {relays} {n} {places} {k} {stopped} {room} e l C =
    subst (λ (x : ℕ). Cleared relays stopped x k room) e (record { long = C.long ∙ l; is = C.is })

-- the labels of a room that is cleared
pub cleared_halt : {relays places : ℕ} {stopped room : List ℕ} → Cleared relays stopped (length stopped) places room → (r : ℕ) → r < relays → has stopped r ≡ true → label room r ≡ halt
unfolding label has
cleared_halt C r l t = ap (λ (x : ℕ). x % half) (C.is r l ∙ ap (λ (b : Bool). pick b halt 0) t)

pub cleared_zero : {relays places : ℕ} {stopped room : List ℕ} → Cleared relays stopped (length stopped) places room → (r : ℕ) → r < relays → has stopped r ≡ false → label room r ≡ 0
unfolding label has
cleared_zero C r l f = ap (λ (x : ℕ). x % half) (C.is r l ∙ ap (λ (b : Bool). pick b halt 0) f)
