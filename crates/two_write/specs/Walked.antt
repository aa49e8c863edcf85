-- A walk in a block, written as relays after its first. Assumes nothing.
use Rattle.std.specs.Prelude.{ℕ, suc, ◌+◌, ◌-◌, ◌*◌, ◌^◌, ◌≤◌, ◌<◌, ◌≡◌, refl, ◌≢◌, List, [], ◌∷◌, ◌++◌, length, set}
use Rattle.std.proofs.Common.{sym, ap, ◌∙◌, subst, ⊎_elim, add-zero, arith, length-set, length-append}
use Rattle.std.proofs.lemmas.List.Edits.{sets}
use Rattle.std.specs.Int.Bits.{bit_xor}
use Rattle.std.specs.Int.Count.{ones, ones-ones}
use Rattle.scan.specs.Runs.{sets_append}
use Rattle.bits.specs.Bit.{bit, flip, Lowest}
use Rattle.bits.specs.Laws.{lt-or-le, ones_none, xor-zero-eq, flip-lt}
use Rattle.cube_math.specs.Plain.{bit_high, bit-full}
use Rattle.cube_math.specs.Single.{rank, rank-le, rank_less, differs_bit}
use Rattle.two_math.specs.Relays.{inside}
use Rattle.two_math.specs.Numbers.{numbers}
use Rattle.two_math.specs.Through.{Stroll}
use Rattle.two_math.specs.Loops.{Strolling, strolling_none, strolling_more, strolling_done}

-- the relays of the slots l of the block whose first relay is `base`
abbrev pub relays : ℕ → List ℕ → List ℕ
relays base [] = []
relays base (p ∷ l) = (base + p) ∷ relays base l

pub relays-numbers : (m b : ℕ) (l : List ℕ) → numbers m (inside b l) ≡ relays (b * 2 ^ m) l
relays-numbers m b [] = refl
relays-numbers m b (p ∷ l) = ap (λ (y : List ℕ). (b * 2 ^ m + p) ∷ y) (relays-numbers m b l)

pub relays-append : (base : ℕ) (l r : List ℕ) → relays base (l ++ r) ≡ relays base l ++ relays base r
relays-append base [] r = refl
relays-append base (x ∷ l) r = ap (λ (y : List ℕ). (base + x) ∷ y) (relays-append base l r)

pub relays-length : (base : ℕ) (l : List ℕ) → length (relays base l) ≡ length l
relays-length base [] = refl
relays-length base (x ∷ l) = ap suc (relays-length base l)

-- what may be asked
pub record Room (m base p q at size : ℕ) : Type 0 where
  pub order : m ≤ 5
  pub from : p < 2 ^ m
  pub to : q < 2 ^ m
  pub fits : base + 2 ^ m < 2 ^ 64
  pub room : at + m ≤ size

-- a walk from p to q, without p, stands in `now` from `at` on, up to r
pub record Walked (m base p q at : ℕ) (was now : List ℕ) (r : ℕ) : Type 0 where
  pub way : List ℕ
  pub stroll : Stroll m p q way
  pub wrote : now ≡ sets was at (relays base way)
  pub next : r ≡ at + length way

-- the next slot
pub record Next (u q r : ℕ) : Type 0 where
  pub dim : ℕ
  pub turns : bit dim u ≢ bit dim q
  pub is : r ≡ flip u dim

pub next_lowest : (u q d : ℕ) → Lowest 64 (bit_xor u q) d → Next u q (flip u d)
next_lowest u q d low = record { dim = d; turns = differs_bit d u q low.set; is = refl }

-- on the way: at u, the place i
pub record Going (m base p q at : ℕ) (was now : List ℕ) (u i : ℕ) : Type 0 where
  pub way : List ℕ
  pub going : Strolling m p q u way
  pub below : u < 2 ^ m
  pub wrote : now ≡ sets was at (relays base way)
  pub next : i ≡ at + length way
  pub long : length now ≡ length was

pub going_none : (m base p q at : ℕ) (was : List ℕ) → p < 2 ^ m → Going m base p q at was was p at
going_none m base p q at was h = record { way = []; going = strolling_none m p q; below = h; wrote = refl; next = sym (add-zero at); long = refl }

pub dim-below : (m u q d : ℕ) → u < 2 ^ m → q < 2 ^ m → bit d u ≢ bit d q → d < m
dim-below m u q d hu hq ne = ⊎_elim (λ h. h) (λ g. absurd (ne (bit_high m d u hu g ∙ sym (bit_high m d q hq g)))) (lt-or-le d m)

-- how far it is, at most
pub going_left : {m base p q at : ℕ} {was now : List ℕ} {u i : ℕ} → Going m base p q at was now u i → p < 2 ^ m → q < 2 ^ m → u ≢ q → (i < at + m) × (1 ≤ rank q u)
unfolding rank
going_left {m} {base} {p} {q} {at} {was} {now} {u} {i} g hp hq ne =
    let far : ones (bit_xor u q) ≢ 0 = λ z. ne (xor-zero-eq u q (ones_none (bit_xor u q) z)) in
    let most = rank-le (2 ^ m - 1) q p (λ c z. bit-full m c (dim-below m p q c hp hq z)) in
    (omega (arith, g.going.hops, g.next, most, ones-ones m), omega arith)

pub going_more : {m base p q at : ℕ} {was now : List ℕ} {u i : ℕ} (v : ℕ) → Going m base p q at was now u i → q < 2 ^ m → Next u q v
    → Going m base p q at was (set now i (base + v)) v (i + 1)
going_more {m} {base} {p} {q} {at} {was} {now} {u} {i} v g hq x =
    let d = dim-below m u q x.dim g.below hq x.turns in
    subst (λ (y : ℕ). Going m base p q at was (set now i (base + y)) y (i + 1)) (sym x.is) (record {
      way = g.way ++ (flip u x.dim ∷ []);
      going = strolling_more x.dim g.going d x.turns;
      below = flip-lt m u x.dim g.below d;
      wrote = sym (ap (sets was at) (relays-append base g.way (flip u x.dim ∷ [])) ∙ sets_append was at (relays base g.way) ((base + flip u x.dim) ∷ [])
          ∙ place (relays-length base g.way));
      next = omega (arith, g.next, length-append g.way (flip u x.dim ∷ []));
      long = length-set now i (base + flip u x.dim) ∙ g.long;
    })
  where
    place : length (relays base g.way) ≡ length g.way → set (sets was at (relays base g.way)) (at + length (relays base g.way)) (base + flip u x.dim) ≡ set now i (base + flip u x.dim)
    place e = ap (λ (y : ℕ). set (sets was at (relays base g.way)) y (base + flip u x.dim)) (ap (λ (y : ℕ). at + y) e ∙ sym g.next)
        ∙ ap (λ (y : List ℕ). set y i (base + flip u x.dim)) (sym g.wrote)

pub going_less : {m base p q at : ℕ} {was now : List ℕ} {u i : ℕ} (v : ℕ) → Going m base p q at was now u i → Next u q v → rank q v < rank q u
going_less {m} {base} {p} {q} {at} {was} {now} {u} {i} v g x = omega (arith, rank_less q u x.dim x.turns, ap (rank q) x.is)

pub going_done : {m base p q at : ℕ} {was now : List ℕ} {u i : ℕ} → Going m base p q at was now u i → p < 2 ^ m → q < 2 ^ m → u ≡ q → Walked m base p q at was now i
going_done {m} {base} {p} {q} {at} {was} {now} {u} {i} g hp hq e = record {
  way = g.way;
  stroll = strolling_done (subst (λ (y : ℕ). Strolling m p q y g.way) e g.going) hp hq;
  wrote = g.wrote;
  next = g.next;
}

pub next-below : {m base p q at : ℕ} {was now : List ℕ} {u i : ℕ} (v : ℕ) → Going m base p q at was now u i → q < 2 ^ m → Next u q v → v < 2 ^ m
next-below {m} {base} {p} {q} {at} {was} {now} {u} {i} v g hq x =
    subst (λ (y : ℕ). y < 2 ^ m) (sym x.is) (flip-lt m u x.dim g.below (dim-below m u q x.dim g.below hq x.turns))

-- there is room for one more
pub going_room : {m base p q at : ℕ} {was now : List ℕ} {u i : ℕ} → Going m base p q at was now u i → Room m base p q at (length was) → u ≢ q → i < length now
going_room g r ne = omega (arith, (going_left g r.from r.to ne).0, r.room, g.long)
