-- The path that makes the round trip, as it is written: through the blocks behind p0, behind p0 and a, and behind a (`rounded`).
-- Assumes nothing.
use Rattle.std.specs.Prelude.{ℕ, suc, ◌+◌, ◌-◌, ◌*◌, ◌^◌, ◌≤◌, ◌<◌, ◌≡◌, List, [], ◌∷◌, ◌++◌, length, set}
use Rattle.std.proofs.Common.{sym, ap, ◌∙◌, subst, append_assoc, add-one, arith, length-append}
use Rattle.std.proofs.lemmas.List.Edits.{sets}
use Rattle.bits.specs.Bit.{flip}
use Rattle.bits.specs.Laws.{flip-lt}
use Rattle.two_math.specs.Relays.{Relay, inside, length-inside}
use Rattle.two_math.specs.Through.{Crosses}
use Rattle.two_math.specs.Numbers.{numbers, numbers-append, length-numbers}
use Rattle.two_math.specs.Round.{round, round_crosses}
use Rattle.scan.specs.Runs.{sets_append}
use Rattle.two_write.specs.Blocks.{Entered}

-- the round trip to the slot a stands from `at` on, its source first; it has r hops
pub record Rounded (m s s0 p0 a at : ℕ) (was now : List ℕ) (r : ℕ) : Type 0 where
  pub body : List Relay
  pub crosses : Crosses m s0 p0 (flip s0 a) a (round s0 p0 a) body
  pub wrote : now ≡ sets was at (s ∷ numbers m (body ++ inside s0 (a ∷ [])))
  pub count : r ≡ length (numbers m (body ++ inside s0 (a ∷ [])))
  pub short : r ≤ 3 * m + 4

-- the three blocks are blocks of the mesh
pub round-blocks : (m : ℕ) {s0 p0 a : ℕ} (x y z : ℕ) → s0 < 2 ^ (2 ^ m) → p0 < 2 ^ m → a < 2 ^ m → x ≡ flip s0 p0 → y ≡ flip x a → z ≡ flip s0 a
    → (x < 2 ^ (2 ^ m)) × (y < 2 ^ (2 ^ m)) × (z < 2 ^ (2 ^ m))
round-blocks m {s0} {p0} {a} x y z hs hp ha ex ey ez =
    let first : x < 2 ^ (2 ^ m) = rw ex (flip-lt (2 ^ m) s0 p0 hs hp) in
    (first, rw ey (flip-lt (2 ^ m) x a first ha), rw ez (flip-lt (2 ^ m) s0 a hs ha))

-- a block takes up to m + 1 places
pub entered_room : {m b p q at : ℕ} {was now : List ℕ} {r : ℕ} → Entered m b p q at was now r → (at < r) × (r ≤ at + suc m)
entered_room e = (omega (arith, e.next), omega (arith, e.next, e.stroll.short))

-- a run that stands already, and what follows it
sets_after : {now : List ℕ} {p : ℕ} (was : List ℕ) (at : ℕ) (run rest : List ℕ) → now ≡ sets was at run → p ≡ at + length run → sets was at (run ++ rest) ≡ sets now p rest
sets_after {now} {p} was at run rest e f =
    sets_append was at run rest ∙ ap (λ (y : ℕ). sets (sets was at run) y rest) (sym f) ∙ ap (λ (l : List ℕ). sets l p rest) (sym e)

numbers_three : (m : ℕ) (a b c d : List Relay) → numbers m ((a ++ (b ++ (c ++ []))) ++ d) ≡ numbers m a ++ (numbers m b ++ (numbers m c ++ numbers m d))
numbers_three m a b c d = simp (append_assoc, numbers-append)

length_three : (a b c d : List ℕ) → length (a ++ (b ++ (c ++ d))) ≡ length a + (length b + (length c + length d))
length_three a b c d = simp length-append

-- the relays of a block, entered at p
entered_length : (m b p : ℕ) (way : List ℕ) → length (numbers m (inside b (p ∷ way))) ≡ suc (length way)
entered_length m b p way = length-numbers m (inside b (p ∷ way)) ∙ length-inside b (p ∷ way)

module _ (m s s0 p0 a at : ℕ) (was was₁ was₂ was₃ : List ℕ) (p q r : ℕ) (fx : Entered m (flip s0 p0) p0 a (at + 1) (set was at s) was₁ p)
    (fy : Entered m (flip (flip s0 p0) a) a p0 p was₁ was₂ q) (fz : Entered m (flip s0 a) p0 a q was₂ was₃ r) where
  -- the relays of the three blocks
  abbrev first : List Relay
  first = inside (flip s0 p0) (p0 ∷ fx.way)

  abbrev second : List Relay
  second = inside (flip (flip s0 p0) a) (a ∷ fy.way)

  abbrev third : List Relay
  third = inside (flip s0 a) (p0 ∷ fz.way)

  abbrev whole : List Relay
  whole = first ++ (second ++ (third ++ []))

  parts : numbers m (whole ++ inside s0 (a ∷ [])) ≡ numbers m first ++ (numbers m second ++ (numbers m third ++ ((s0 * 2 ^ m + a) ∷ [])))
  parts = numbers_three m first second third (inside s0 (a ∷ []))

  hops : length (numbers m (whole ++ inside s0 (a ∷ []))) ≡ suc (length fx.way) + (suc (length fy.way) + (suc (length fz.way) + 1))
  hops =
      ap length parts ∙ length_three (numbers m first) (numbers m second) (numbers m third) ((s0 * 2 ^ m + a) ∷ [])
      ∙ omega (arith, entered_length m (flip s0 p0) p0 fx.way, entered_length m (flip (flip s0 p0) a) a fy.way, entered_length m (flip s0 a) p0 fz.way)

  three_blocks : Rounded m s s0 p0 a at was (set was₃ r (s0 * 2 ^ m + a)) (r - at)
  three_blocks = record {
    body = whole;
    crosses = round_crosses m s0 p0 a fx.way fy.way fz.way fx.stroll fy.stroll fz.stroll;
    wrote = sym (ap (sets (set was at s) (suc at)) parts ∙ ap (λ (y : ℕ). sets (set was at s) y (numbers m first ++ (numbers m second ++ (numbers m third ++ ((s0 * 2 ^ m + a) ∷ []))))) (sym (add-one at))
        ∙ sets_after (set was at s) (at + 1) (numbers m first) (numbers m second ++ (numbers m third ++ ((s0 * 2 ^ m + a) ∷ []))) fx.wrote (omega (arith, fx.next, entered_length m (flip s0 p0) p0 fx.way))
        ∙ sets_after was₁ p (numbers m second) (numbers m third ++ ((s0 * 2 ^ m + a) ∷ [])) fy.wrote (omega (arith, fy.next, entered_length m (flip (flip s0 p0) a) a fy.way))
        ∙ sets_after was₂ q (numbers m third) ((s0 * 2 ^ m + a) ∷ []) fz.wrote (omega (arith, fz.next, entered_length m (flip s0 a) p0 fz.way)));
    count = omega (arith, hops, fx.next, fy.next, fz.next);
    short = omega (arith, hops, fx.next, fy.next, fz.next, fx.stroll.short, fy.stroll.short, fz.stroll.short);
  }

-- in the code's words
pub rounded : {m p0 a : ℕ} {was₁ was₂ was₃ : List ℕ} {p q r : ℕ} (s s0 at : ℕ) (was : List ℕ) (x y z base : ℕ) → x ≡ flip s0 p0 → y ≡ flip x a → z ≡ flip s0 a → base ≡ s0 * 2 ^ m
    → Entered m x p0 a (at + 1) (set was at s) was₁ p → Entered m y a p0 p was₁ was₂ q → Entered m z p0 a q was₂ was₃ r
    → Rounded m s s0 p0 a at was (set was₃ r (base + a)) (r - at)
rounded {m} {p0} {a} {was₁} {was₂} {was₃} {p} {q} {r} s s0 at was x y z base ex ey ez eb fx fy fz =
    rw eb (three_blocks m s s0 p0 a at was was₁ was₂ was₃ p q r (subst (λ (u : ℕ). Entered m u p0 a (at + 1) (set was at s) was₁ p) ex fx)
    (subst (λ (u : ℕ). Entered m u a p0 p was₁ was₂ q) (ey ∙ ap (λ (u : ℕ). flip u a) ex) fy) (subst (λ (u : ℕ). Entered m u p0 a q was₂ was₃ r) ez fz))
