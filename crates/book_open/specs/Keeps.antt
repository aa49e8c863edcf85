-- The first places of a room put into an index, one after another. Assumes nothing.
use Rattle.std.specs.Prelude.{ℕ, ◌+◌, ◌≤◌, ◌<◌, ◌≡◌, List, length, get_or, set, take}
use Rattle.std.proofs.Common.{sym, subst, zero-add, arith, get_or-take, length-take-le}
use Rattle.std.proofs.lemmas.List.Edits.{sets}
use Rattle.book_parts.specs.Moved.{Copied, copied_none, copied_more, copied_all}

pub record Keeping (room : List ℕ) (n : ℕ) (was is : List ℕ) (q : ℕ) : Type 0 where
  pub lent : n ≤ length room
  pub fits : n ≤ length was
  pub copied : Copied (take n room) 0 was is q

pub keeping_starts : (room : List ℕ) (n : ℕ) (l : List ℕ) → n ≤ length room → n ≤ length l → Keeping room n l l 0
keeping_starts room n l h g = record { lent = h; fits = g; copied = copied_none (take n room) 0 l }

pub keeping_more : {room : List ℕ} {n : ℕ} {was is : List ℕ} {q : ℕ} → Keeping room n was is q → q < n → Keeping room n was (set is q (get_or room q 0)) (q + 1)
keeping_more {room} {n} {was} {is} {q} k h = record {
  lent = k.lent;
  fits = k.fits;
  copied =
      subst (λ (i : ℕ). Copied (take n room) 0 was (set is i (get_or room q 0)) (q + 1)) (zero-add q)
      (copied_more k.copied (omega (arith, length-take-le n room k.lent)) (sym (get_or-take n room q 0 h)));
}

pub keeping_ends : {room : List ℕ} {n : ℕ} {was is : List ℕ} {q : ℕ} → Keeping room n was is q → n ≤ q → is ≡ sets was 0 (take n room)
keeping_ends {room} {n} k h = copied_all k.copied (omega (arith, length-take-le n room k.lent))
