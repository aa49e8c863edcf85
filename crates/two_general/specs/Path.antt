-- One path written: its source, its head in the source's block, the blocks of its leg, and its tail (`Wrote`). Assumes nothing.
use Rattle.std.specs.Prelude.{ℕ, suc, ◌+◌, ◌-◌, ◌*◌, ◌^◌, ◌≤◌, ◌<◌, ◌≡◌, refl, Bool, true, false, List, [], ◌∷◌, ◌++◌, length, get_or, take, set}
use Rattle.std.proofs.Common.{sym, ap, ◌∙◌, subst, arith, length-take, get_or-take, length-append}
use Rattle.std.proofs.lemmas.List.Edits.{sets}
use Rattle.bits.specs.Bit.{flip}
use Rattle.two_math.specs.Relays.{Relay, inside, length-inside}
use Rattle.two_math.specs.Through.{Crosses, crosses_short}
use Rattle.two_math.specs.Numbers.{numbers, numbers-append, length-numbers}
use Rattle.scan.specs.Runs.{sets_append}
use Rattle.cube_math.specs.Doors.{Walk}
use Rattle.two_write.specs.Row.{hops}
use Rattle.two_write.specs.Blocks.{Ways, Crossed}
use Rattle.two_write.specs.Slots.{Below, Slotted}

-- the list, if it walks
unfoldable pub head_if : Bool → List ℕ → List ℕ
head_if true l = l
head_if false l = []

-- what the head may be asked, as a row of a grid
pub record HeadAsk (m s0 : ℕ) (heads : List ℕ) (j : ℕ) (walks : Bool) : Type 0 where
  pub order : m ≤ 5
  pub home : s0 < 2 ^ (2 ^ m)
  pub row : j < 16
  pub long : length heads ≡ 560
  pub few : walks ≡ true → length (hops heads j) < 34
  pub below : walks ≡ true → Below m (length (hops heads j)) (hops heads j)

-- what may be asked: a head of slots of the source's block, a path of blocks from there, and a tail of slots of block b
pub record PathAsk (m s0 b : ℕ) (head : List ℕ) (leave : ℕ) (path : List ℕ) (last len : ℕ) (tail : List ℕ) (at size : ℕ) : Type 0 where
  pub order : m ≤ 5
  pub home : s0 < 2 ^ (2 ^ m)
  pub head_in : Below m (length head) head
  pub block : b < 2 ^ (2 ^ m)
  pub goes : 0 < length path → (end : ℕ) × Walk (2 ^ (2 ^ m) - 1) s0 end path
  pub first : 0 < length path → get_or path 0 0 ≡ flip s0 leave
  pub leave_in : leave < 2 ^ m
  pub last_in : last < 2 ^ m
  pub stays : length path ≡ 0 → leave ≡ last
  pub few : len ≤ 8
  pub whole : len ≤ length tail
  pub below : Below m len tail
  pub room : at + suc (length head + (length path * suc m + len)) ≤ size

-- the path stands from `at` on, source first, and has r hops; `body` crosses its blocks
pub record Wrote (m s0 b source : ℕ) (head : List ℕ) (route : List ℕ) (leave last : ℕ) (tail : List ℕ) (at : ℕ) (was now : List ℕ) (r : ℕ) : Type 0 where
  pub end : ℕ
  pub body : List Relay
  pub crosses : Crosses m s0 leave end last route body
  pub wrote : now ≡ sets was at (source ∷ numbers m (inside s0 head ++ (body ++ inside b tail)))
  pub count : r ≡ length (numbers m (inside s0 head ++ (body ++ inside b tail)))

module _ {m s0 b : ℕ} {head : List ℕ} {leave : ℕ} {path : List ℕ} {last len : ℕ} {tail : List ℕ} {at size : ℕ} (a : PathAsk m s0 b head leave path last len tail at size) where
  pub ways : (p size₁ : ℕ) → p ≡ at + 1 + length head → size₁ ≡ size → Ways m s0 path leave last p size₁
  ways p size₁ ep es = record {
    order = a.order;
    home = a.home;
    goes = a.goes;
    first = a.first;
    leave_in = a.leave_in;
    last_in = a.last_in;
    stays = a.stays;
    room = omega (arith, a.room);
  }

  pub tail-below : Below m (length (take len tail)) (take len tail)
  tail-below i h = let lt : i < len = omega (arith, length-take len tail) in rw get_or-take (a.below i lt)

  module _ (source : ℕ) (was : List ℕ) {l₁ l₂ : List ℕ} {p q : ℕ} (h : Slotted m s0 head (at + 1) (set was at source) l₁ p) (x : Crossed m s0 leave last path p l₁ l₂ q) where
    tail-size : length (take len tail) ≡ len
    tail-size = length-take len tail ∙ omega (arith, a.few, a.whole)

    -- where the tail begins there is room for it
    pub tail-room : q + len ≤ size
    tail-room =
        omega (arith, x.next, h.next, crosses_short m s0 leave x.last last path x.body x.crosses, a.room)

    abbrev A : List ℕ
    A = numbers m (inside s0 head)

    abbrev B : List ℕ
    B = numbers m x.body

    abbrev C : List ℕ
    C = numbers m (inside b (take len tail))

    all : numbers m (inside s0 head ++ (x.body ++ inside b (take len tail))) ≡ A ++ (B ++ C)
    all = numbers-append m (inside s0 head) (x.body ++ inside b (take len tail)) ∙ ap (λ (y : List ℕ). numbers m (inside s0 head) ++ y) (numbers-append m x.body (inside b (take len tail)))

    sizes : (length A ≡ length head) × (length B ≡ length x.body) × (length C ≡ length (take len tail))
    sizes = (length-numbers m (inside s0 head) ∙ length-inside s0 head, length-numbers m x.body, length-numbers m (inside b (take len tail)) ∙ length-inside b (take len tail))

    pub wrote : {l₃ : List ℕ} {r : ℕ} (hops₁ : ℕ) → Slotted m b (take len tail) q l₂ l₃ r → hops₁ ≡ r - at - 1 → Wrote m s0 b source head path leave last (take len tail) at was l₃ hops₁
    wrote {l₃} {r} hops₁ t e = record {
      end = x.last;
      body = x.body;
      crosses = x.crosses;
      wrote = t.wrote ∙ ap (λ (y : ℕ). sets l₂ y C) at_tail ∙ ap (λ (y : List ℕ). sets y (suc at + length A + length B) C) (x.wrote ∙ ap (λ (y : ℕ). sets l₁ y B) at_body
          ∙ ap (λ (y : List ℕ). sets y (suc at + length A) B) (h.wrote ∙ ap (λ (y : ℕ). sets (set was at source) y A) at_head))
          ∙ sym (ap (λ (y : List ℕ). sets (set was at source) (suc at) y) all
          ∙ sets_append (set was at source) (suc at) A (B ++ C) ∙ sets_append (sets (set was at source) (suc at) A) (suc at + length A) B C);
      count = e ∙ omega (arith, t.next, x.next, h.next, ap length all, length-append A (B ++ C), length-append B C, sizes.0, sizes.1, sizes.2);
    }
      where
        at_head : at + 1 ≡ suc at
        at_head = omega arith

        at_body : p ≡ suc at + length (numbers m (inside s0 head))
        at_body = omega (arith, h.next, sizes.0)

        at_tail : q ≡ suc at + length (numbers m (inside s0 head)) + length (numbers m x.body)
        at_tail = omega (arith, x.next, h.next, sizes.0, sizes.1)

-- ---- a head, or none

pub head-on : {walks : Bool} (l : List ℕ) → walks ≡ true → head_if walks l ≡ l
unfolding head_if
head-on l e = ap (λ (w : Bool). head_if w l) e

pub head_off : {walks : Bool} (l : List ℕ) → walks ≡ false → head_if walks l ≡ []
unfolding head_if
head_off l e = ap (λ (w : Bool). head_if w l) e

-- the head written, if it walks
pub slotted_on : {m b : ℕ} {l : List ℕ} {at : ℕ} {was now : List ℕ} {r : ℕ} (walks : Bool) → walks ≡ true → Slotted m b l at was now r → Slotted m b (head_if walks l) at was now r
slotted_on {m} {b} {l} {at} {was} {now} {r} walks e s = subst (λ (y : List ℕ). Slotted m b y at was now r) (sym (head-on l e)) s

pub slotted_off : (m b : ℕ) (l : List ℕ) (at : ℕ) (was : List ℕ) (walks : Bool) → walks ≡ false → Slotted m b (head_if walks l) at was was at
slotted_off m b l at was walks e = subst (λ (y : List ℕ). Slotted m b y at was was at) (sym (head_off l e)) (record { wrote = refl; next = omega arith })
