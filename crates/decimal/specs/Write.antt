-- Text written into a list from a place on (`Put`): one text after another (`put_then`), and the digits of a number (`put_one`, `put-more`).
-- Assumes nothing.
use Rattle.std.specs.Prelude.{ℕ, ◌+◌, ◌/◌, ◌%◌, ◌≤◌, ◌<◌, ◌≡◌, refl, List, [], ◌∷◌, ◌++◌, length, set}
use Rattle.std.proofs.Common.{sym, ap, ◌∙◌, subst, arith, length-append}
use Rattle.std.proofs.lemmas.List.Edits.{sets}
use Rattle.std.proofs.Math.Seq.{length-sets}
use Rattle.scan.specs.Runs.{sets_append}
use Rattle.decimal.specs.Digits.{glyph, digits, digits-one, digits_more}

-- a text is written into `was` from a place on, which gives `now`; p is the place after it
pub record Put (was : List ℕ) (at : ℕ) (text : List ℕ) (p : ℕ) (now : List ℕ) : Type 0 where
  pub place : p ≡ at + length text
  pub wrote : now ≡ sets was at text

pub put_long : {was : List ℕ} {at : ℕ} {text : List ℕ} {p : ℕ} {now : List ℕ} → Put was at text p now → length now ≡ length was
put_long {was} {at} {text} w = ap length w.wrote ∙ length-sets was at text

pub put-none : (was : List ℕ) (at : ℕ) → Put was at [] at was
put-none was at = record { place = omega arith; wrote = refl }

-- a text and then another are one text
pub put_then : {was : List ℕ} {at : ℕ} {a : List ℕ} {p : ℕ} {mid b : List ℕ} {q : ℕ} {now : List ℕ} → Put was at a p mid → Put mid p b q now → Put was at (a ++ b) q now
put_then {was} {at} {a} {p} {mid} {b} {q} {now} v w = record {
  place = omega (arith, v.place, w.place, length-append a b);
  wrote = w.wrote ∙ ap (λ (l : List ℕ). sets l p b) v.wrote ∙ ap (λ (k : ℕ). sets (sets was at a) k b) v.place ∙ sym (sets_append was at a b);
}

pub put_byte : (was : List ℕ) (at b : ℕ) → Put was at (b ∷ []) (at + 1) (set was at b)
put_byte was at b = record { place = refl; wrote = refl }

pub put_as : {was : List ℕ} {at : ℕ} {a b : List ℕ} {p : ℕ} {now : List ℕ} → a ≡ b → Put was at a p now → Put was at b p now
put_as {was} {at} {a} {b} {p} {now} e w = subst (λ (l : List ℕ). Put was at l p now) e w

module _ (out : List ℕ) (at n : ℕ) where
  pub put_one : n < 10 → Put out at (digits n) (at + 1) (set out at (48 + n))
  put_one h = put_as (sym (digits-one n h)) (put_byte out at (glyph n))

  more_long : 10 ≤ n → length (digits n) ≡ length (digits (n / 10)) + 1
  more_long h = ap length (digits_more n h) ∙ length-append (digits (n / 10)) (glyph (n % 10) ∷ [])

  -- the front of a numeral has room where the whole has
  pub front-room : 10 ≤ n → at + length (digits n) ≤ length out → at + length (digits (n / 10)) ≤ length out
  front-room h g = omega (arith, more_long h)

  module _ {next : ℕ} {mid : List ℕ} (w : Put out at (digits (n / 10)) next mid) where
    pub last-room : 10 ≤ n → at + length (digits n) ≤ length out → next < length mid
    last-room h g = omega (arith, more_long h, w.place, put_long w)

    pub put-more : 10 ≤ n → Put out at (digits n) (next + 1) (set mid next (48 + n % 10))
    put-more h = put_as (sym (digits_more n h)) (put_then w (put_byte mid next (glyph (n % 10))))
