-- What the round trip may be asked (`Trip`), what the cube planner is then asked (`trip_asked`), and what is settled before the paths are
-- written (`Course`). Assumes nothing.
use Rattle.std.specs.Prelude.{ℕ, suc, ◌+◌, ◌-◌, ◌*◌, ◌^◌, ◌≤◌, ◌<◌, ◌≡◌, List, length, get_or, set}
use Rattle.std.proofs.Common.{sym, ◌∙◌, subst, ⊎_elim, mul-le-mul_left, arith, length-set, pow_pos, get_or-set_same, get_or-set_other, below_more}
use Rattle.std.specs.Int.Count.{ones, ones-ones}
use Rattle.cube_math.specs.Masks.{at}
use Rattle.bits.specs.Bit.{bit}
use Rattle.bits.specs.Laws.{bit-none, clash, lt-or-le, ones-zero}
use Rattle.paths.specs.Lists.{in_at}
use Rattle.paths.specs.Mesh.{width}
use Rattle.cube_math.specs.Doors.{Doors}
use Rattle.cube_math.specs.Plain.{bit-full, bit_high, full-below}
use Rattle.cube_math.specs.Request.{Request}
use Rattle.two_write.specs.Row.{hops}
use Rattle.two_rows.specs.Rows as rows
use Rattle.two_rows.specs.Rows.{Gives}
use Rattle.two_parts.specs.Two.{two, block_of, slot_of}
use Rattle.two_math.specs.Sort.{Ask}
use Rattle.two_math.specs.Numbers.{ask_numbers}
use Rattle.two_write.specs.Blocks.{walk-below}
use Rattle.two_write.specs.Rows.{Ready}
use Rattle.two_write.specs.Slots.{Below}
use Rattle.two_round.specs.Found.{Found}

-- as many targets as a relay has links, all in the source's block; a path takes w places
pub record Trip (m s w : ℕ) (targets places counts : List ℕ) : Type 0 where
  pub low : 2 ≤ m
  pub high : m ≤ 5
  pub all : length targets ≡ m + 1
  pub home : (j : ℕ) → j < length targets → block_of m (get_or targets j 0) ≡ block_of m s
  pub wide : w ≡ width (two m)
  pub ready : Ready (two m) s targets places counts

-- ---- the slots of the targets

pub record Slots (m : ℕ) (targets to : List ℕ) : Type 0 where
  pub is : (j : ℕ) → j < length targets → at to j ≡ slot_of m (get_or targets j 0)
  pub long : length to ≡ 16

-- the first i of them
pub record Reading (m : ℕ) (targets to : List ℕ) (i : ℕ) : Type 0 where
  pub bound : i ≤ length targets
  pub is : (j : ℕ) → j < i → at to j ≡ slot_of m (get_or targets j 0)
  pub long : length to ≡ 16

-- none, one more, all
pub reading-none : (m : ℕ) (targets to : List ℕ) → length to ≡ 16 → Reading m targets to 0
reading-none m targets to h = record { bound = omega arith; is = λ j l. absurd (omega arith); long = h }

pub reading-more : {m : ℕ} {targets to : List ℕ} {i : ℕ} (v : ℕ) → Reading m targets to i → i < length targets → length targets ≤ 16 → v ≡ slot_of m (get_or targets i 0)
    → Reading m targets (set to i v) (i + 1)
reading-more {m} {targets} {to} {i} v r h few e = record {
  bound = omega arith;
  is = below_more _ _ (λ j l. get_or-set_other to i j v 0 (λ z. omega arith) ∙ r.is j l) (get_or-set_same to i v 0 (omega (arith, r.long)) ∙ e);
  long = length-set to i v ∙ r.long;
}

pub reading_done : {m : ℕ} {targets to : List ℕ} {i : ℕ} → Reading m targets to i → length targets ≤ i → Slots m targets to
reading_done r h = record { is = λ j l. r.is j (omega arith); long = r.long }

-- ---- what the cube planner is asked, and what it gives

-- what is settled before the paths are written: the slots `to`, and the cut after n hops of the path of a row, where the last target stands
pub record Course (m s0 p0 w : ℕ) (to : List ℕ) (row n : ℕ) (g : List ℕ) : Type 0 where
  pub order : m ≤ 5
  pub home-block : s0 < 2 ^ (2 ^ m)
  pub home-slot : p0 < 2 ^ m
  pub slots : (j : ℕ) → j ≤ m → at to j < 2 ^ m
  pub few : (j : ℕ) → j < m → length (hops g j) ≤ m + 1
  pub below : (j : ℕ) → j < m → Below m (length (hops g j)) (hops g j)
  pub row_in : row ≤ m
  pub cut : row < m → n ≤ length (hops g row)
  pub wide : 3 * m + 5 ≤ w

-- what the cube of the source's block may be asked
round_request : (m s0 p0 k : ℕ) (tb tp : ℕ → ℕ) → Ask m s0 p0 k tb tp → k ≡ suc m → ((j : ℕ) → j < k → tb j ≡ s0) → Request (2 ^ m - 1) p0 0 (2 ^ m - 1) tp
round_request m s0 p0 k tb tp ask e inner =
    let below : (j : ℕ) → bit j (2 ^ m - 1) ≡ 1 → j < k = λ j o. omega (arith, full-below m j o) in record {
      inside = λ j o c ne. ⊎_elim (bit-full m c) (λ g. absurd (ne (bit_high m c (tp j) (ask.slots j (below j o)) g ∙ sym (bit_high m c p0 ask.home-slot g)))) (lt-or-le c m);
      other = λ j o. ask.other j (below j o) (inner j (below j o));
      differs = λ i j o p ne. ask.differ i j (below i o) (below j p) ne (inner i (below i o) ∙ sym (inner j (below j p)));
      held = λ i o. absurd (clash (bit-none i) o);
      room = omega (arith, ones-zero, ones-ones m);
    }

module _ {m s w : ℕ} {targets places counts to : List ℕ} (q : Trip m s w targets places counts) (t : Slots m targets to) (s0 p0 : ℕ) (es : s0 ≡ block_of m s) (ep : p0 ≡ slot_of m s) where
  -- the targets as blocks and slots
  pub trip_ask : Ask m s0 p0 (length targets) (λ j. block_of m (get_or targets j 0)) (at to)
  trip_ask =
      let r = q.ready.sound in
      let a = ask_numbers m s (length targets) (λ j. get_or targets j 0) r.few r.source r.below r.other r.differ in
      record {
        few = a.few;
        home-slot = rw ep a.home-slot;
        home-block = rw es a.home-block;
        slots = λ j h. rw (t.is j h) (a.slots j h);
        blocks = a.blocks;
        differ = λ i j h g ne e z. a.differ i j h g ne e (sym (t.is i h) ∙ z ∙ t.is j g);
        other = λ j h e z. a.other j h (e ∙ es) (sym (t.is j h) ∙ z ∙ ep);
      }

  pub trip_home : (j : ℕ) → j < length targets → block_of m (get_or targets j 0) ≡ s0
  trip_home j h = q.home j h ∙ sym es

  pub trip_asked : (size : ℕ) → size ≡ 2 ^ m → rows.Ask (size - 1) p0 0 (size - 1) to
  trip_asked size e = rw e (record {
    request = round_request m s0 p0 (length targets) (λ j. block_of m (get_or targets j 0)) (at to) trip_ask (q.all ∙ omega arith) trip_home;
    small = omega (arith, ones-ones m, q.high);
    few = λ j o. omega (arith, full-below m j o, q.high);
  })

  module _ (size : ℕ) (g₁ : List ℕ) (e : size ≡ 2 ^ m) (p : Gives (size - 1) p0 0 (size - 1) to g₁) where
    pub trip_fan : Doors m (2 ^ m - 1) p0 0 (2 ^ m - 1) (at to) (hops g₁)
    trip_fan = subst (λ (n : ℕ). Doors n (2 ^ m - 1) p0 0 (2 ^ m - 1) (at to) (hops g₁)) (ones-ones m)
        (subst (λ (y : ℕ). Doors (ones (y - 1)) (y - 1) p0 0 (y - 1) (at to) (hops g₁)) e p.fan)

    -- its grid is whole, and its paths are short
    trip_long : length g₁ ≡ 560
    trip_long = p.long

    trip_few : (j : ℕ) → j < m → length (hops g₁ j) ≤ m + 1
    trip_few j l = (trip_fan.each j (bit-full m j l)).short

    -- what searching the paths asks, and the grid's length
    pub trip_finds : (m ≤ 5) × (length g₁ ≡ 560) × ((j : ℕ) → j < m → length (hops g₁ j) < 34)
    trip_finds = (q.high, trip_long, λ j l. omega (arith, trip_few j l, q.high))

    -- what it asks alone
    pub trip_search : (m ≤ 5) × ((j : ℕ) → j < m → length (hops g₁ j) < 34)
    trip_search = (q.high, λ j l. omega (arith, trip_few j l, q.high))

    pub trip_course : (row n : ℕ) → Found m g₁ (at to m) row n → Course m s0 p0 w to row n g₁
    trip_course row n f = record {
      order = q.high;
      home-block = trip_ask.home-block;
      home-slot = trip_ask.home-slot;
      slots = λ j l. trip_ask.slots j (omega (arith, q.all));
      few = trip_few;
      below = λ j l i k. walk-below m (2 ^ m - 1) p0 (at to j) (hops g₁ j) (full-below m) trip_ask.home-slot (trip_fan.each j (bit-full m j l)).walk (get_or (hops g₁ j) i 0) (in_at (hops g₁ j) 0 i k);
      row_in = f.within;
      cut = λ l. (f.on l).1;
      wide = wide;
    }
      where
        wide : 3 * m + 5 ≤ w
        wide = omega (arith, q.wide, mul-le-mul_left m (pow_pos m))
