-- What the reader of a line owes at each of its ends: no request, too few places, a request. Assumes nothing.
use Rattle.std.specs.Prelude.{ℕ, ◌+◌, ◌≤◌, ◌<◌, min, ◌≡◌, refl, Bool, true, false, List, ◌++◌, ltb, length, get_or, take, drop}
use Rattle.std.specs.Prelude as rust
use Rattle.std.specs.Prelude.{Some, None}
use Rattle.std.proofs.Common.{sym, ◌∙◌, arith, length-drop, take_all, length-take-le, lt-ltb, le-ltb}
use Rattle.std.proofs.Math.Path.{ap, subst}
use Rattle.std.proofs.Math.Option.{Option, some}
use Rattle.std.proofs.Math.Decide.{dec_le}
use Rattle.answers.specs.Order.{first}
use Rattle.answers.specs.Told.{Told, told, tell, leaves}
use Rattle.line.specs.Text.{Request, most_bytes}
use Rattle.line.specs.Parse.{parse, asked}
use Rattle.line.specs.Says.{Head, head, no_head, head_of, line_faults, asked_told, asked_leaves}
use Rattle.line_read.specs.Reads.{request_in, parsed_told, ParsedWithin, ReadRequest}

-- the first bytes of a text, as many as a line may have
pub first-bytes : (text : List ℕ) {n : ℕ} → n ≡ min (length text) 1024 → take n text ≡ take most_bytes text
first-bytes text {n} e = go (dec_le (length text) 1024)
  where
    go : Dec (length text ≤ 1024) → take n text ≡ take most_bytes text
    go (yes h) = take_all n text (omega arith) ∙ sym (take_all most_bytes text h)
    go (no ne) = let same : n ≡ most_bytes = omega arith in ap (λ (k : ℕ). take k text) same

pub bytes_long : (text : List ℕ) {n : ℕ} → n ≡ min (length text) 1024 → n ≡ length (take n text)
bytes_long text {n} e = sym (length-take-le n text (omega arith))

-- t is told and l is left of a request
abbrev Tells : (was : List ℕ) → Told Head → List ℕ → Option Request → Type 0
Tells was t l o = (t ≡ asked_told o (length was)) × (l ≡ asked_leaves o was)

module _ (text numbers was : List ℕ) {n : ℕ} {r : rust.Option (ℕ × ℕ)} (e : n ≡ min (length text) 1024) (p : ReadRequest numbers r (parse (take n text))) where
  of-asked : {t : Told Head} {l : List ℕ} (s : rust.Option (ℕ × ℕ)) → r ≡ s → Tells was t l (parsed_told numbers s) → Tells was t l (asked text)
  unfolding asked
  of-asked {t} {l} s f = subst (Tells was t l) (sym (ap (parsed_told numbers) f) ∙ p.same ∙ ap parse (first-bytes text e))

  pub asks_nothing : r ≡ None → Tells was (told 10 0 no_head) was (asked text)
  asks_nothing f = of-asked None f (refl, refl)

  module _ {kind count : ℕ} (f : r ≡ Some (kind, count)) where
    counted : count + 2 ≤ length numbers
    counted = subst (ParsedWithin numbers) f p.within

    many : length (take count (drop 2 numbers)) ≡ count
    many = length-take-le count (drop 2 numbers) (omega (arith, counted, length-drop 2 numbers))

    -- the room that a request wants, by its test
    of_room : {t : Told Head} {l : List ℕ} (b : Bool) → ltb (length was) (length (take count (drop 2 numbers))) ≡ b
        → t ≡ tell (first (line_faults false b)) no_head (head_of (some (request_in kind count numbers)))
        → l ≡ leaves (first (line_faults false b)) was (take count (drop 2 numbers) ++ drop (length (take count (drop 2 numbers))) was)
        → Tells was t l (asked text)
    of_room {t} {l} b g u v = of-asked (Some (kind, count)) f (
      u ∙ ap (λ (x : Bool). tell (first (line_faults false x)) no_head (head_of (some (request_in kind count numbers)))) (sym g),
      v ∙ ap (λ (x : Bool). leaves (first (line_faults false x)) was (take count (drop 2 numbers) ++ drop (length (take count (drop 2 numbers))) was)) (sym g),
    )

    pub asks_short : length was < count → Tells was (told 8 0 no_head) was (asked text)
    asks_short h = of_room true (lt-ltb (length was) (length (take count (drop 2 numbers))) (omega (arith, many))) refl refl

    pub asks_room : count ≤ length was → (count + 2 ≤ length numbers) × (count ≤ length was)
    asks_room h = (counted, h)

    pub asks_fine : {now : List ℕ} → count ≤ length was → now ≡ take count (drop 2 numbers) ++ drop count was
        → Tells was (told 0 0 (head kind (get_or numbers 0 0) (get_or numbers 1 0) count)) now (asked text)
    asks_fine h w = of_room false (le-ltb (length was) (length (take count (drop 2 numbers))) (omega (arith, many)))
        (ap (λ (k : ℕ). told 0 0 (head kind (get_or numbers 0 0) (get_or numbers 1 0) k)) (sym many))
        (w ∙ ap (λ (k : ℕ). take count (drop 2 numbers) ++ drop k was) (sym many))
