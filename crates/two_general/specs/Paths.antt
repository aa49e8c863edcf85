-- All paths written: what must be chosen before (`Held`), what each path is (`Pathed`), and one of them in its places (`Put`). Assumes nothing.
use Rattle.std.specs.Prelude.{ℕ, suc, ◌+◌, ◌-◌, ◌*◌, ◌^◌, ◌≤◌, ◌<◌, ◌≡◌, refl, ◌≢◌, Bool, true, false, not, List, ◌∷◌, ◌++◌, Option, length, get_or, set, take, eqb}
use Rattle.std.proofs.Common.{sym, ap, ◌∙◌, subst, inr, ⊎_elim, arith, length-take, length-append, pow_mono, eq-eqb}
use Rattle.std.proofs.lemmas.List.Edits.{sets}
use Rattle.std.specs.Int.Count.{ones, ones-ones}
use Rattle.cube_math.specs.Masks.{at}
use Rattle.bits.specs.Laws.{bit-cases}
use Rattle.scan.specs.Laws.{true-false}
use Rattle.paths.specs.Fan as fan
use Rattle.cube_math.specs.Doors.{Way}
use Rattle.cube_math.specs.Choose.{Chosen}
use Rattle.paths.specs.Lists.{in_at}
use Rattle.cube_math.specs.Plain.{bit-full}
use Rattle.two_math.specs.Relays.{Relay, inside, length-inside}
use Rattle.two_math.specs.Through.{crosses_short}
use Rattle.two_math.specs.Numbers.{numbers, length-numbers}
use Rattle.two_math.specs.Assemble.{most}
use Rattle.two_math.specs.Plan.{Role}
use Rattle.two_choose.specs.declared.Choice.{Choice}
use Rattle.two_takeover.specs.declared.Taken as taken
use Rattle.two_write.specs.Row.{hops}
use Rattle.two_write.specs.Slots.{Below}
use Rattle.two_write.specs.Rows.{Drawing, drawing_none, drawing_more, row_room}
use Rattle.two_rows.specs.Rows.{Gives}
use Rattle.two_general.specs.Draft.{State, who_of, Leaves, Somewhere}
use Rattle.two_general.specs.Legs.{Leg, slots-below}
use Rattle.two_general.specs.Path.{head_if, head-on, head_off, HeadAsk, PathAsk, Wrote}

-- a path walks in the source's block unless it leaves by the source's slot
abbrev pub walks : ℕ → List ℕ → ℕ → Bool
walks p0 leaves j = not (eqb (at leaves j) p0)

abbrev pub head_of : ℕ → List ℕ → List ℕ → ℕ → List ℕ
head_of p0 leaves heads j = head_if (walks p0 leaves j) (hops heads j)

module _ (m s0 p0 k : ℕ) (blocks slots : List ℕ) (c : Choice) (o : Option taken.Taken) (g leaves heads : List ℕ) where
  -- all that is chosen before a path is written
  pub record Held : Type 0 where
    pub walkers : ℕ
    pub state : State m s0 p0 k blocks slots c o g
    pub leave : (j : ℕ) → j < k → Leaves s0 p0 slots c o g j (at leaves j)
    pub walk : Chosen (λ j. at leaves j ≢ p0) (λ j. at leaves j ≡ p0) (2 ^ k - 1) walkers
    pub fan : Gives (2 ^ m - 1) p0 0 walkers leaves heads

  -- l is the path of j, without its source
  pub record Pathed (j : ℕ) (l : List ℕ) : Type 0 where
    pub row : ℕ
    pub route : List ℕ
    pub tail : List ℕ
    pub body : List Relay
    pub role : Role m s0 p0 k (at blocks) (at slots) c.gates.gated c.rows (who_of o) (at c.gates.slots) (at c.ends) (hops g) j (at leaves j) row route tail body
    pub is : l ≡ numbers m (inside s0 (head_of p0 leaves heads j) ++ (body ++ inside (at blocks j) tail))

  -- it stands from the place `at₁` on, after its source
  pub record Put (source j at₁ : ℕ) (was now : List ℕ) (r : ℕ) : Type 0 where
    pub path : List ℕ
    pub pathed : Pathed j path
    pub short : length path ≤ most m
    pub wrote : now ≡ sets was at₁ (source ∷ path)
    pub count : r ≡ length path

-- j is a target of it
pub record Inner (m s0 p0 : ℕ) (blocks slots : List ℕ) (c : Choice) (o : Option taken.Taken) (g leaves heads : List ℕ) (j : ℕ) : Type 0 where
  pub k : ℕ
  pub lt : j < k
  pub held : Held m s0 p0 k blocks slots c o g leaves heads

-- ---- one path

module _ {m s0 p0 k : ℕ} {blocks slots : List ℕ} {c : Choice} {o : Option taken.Taken} {g leaves heads : List ℕ} (h : Held m s0 p0 k blocks slots c o g leaves heads) (j : ℕ) (lt : j < k) where
  pub held_small : (j < 6) × (m ≤ 5) × (2 ^ m ≤ 32)
  held_small =
      let a = h.state.planned.asks in
      let p : 2 ^ m ≤ 32 = pow_mono a.high in
      (omega (arith, a.ask.few, a.high), a.high, p)

  -- it is a target from here
  pub held_somewhere : Somewhere slots c o g j
  held_somewhere = record { s0 = s0; p0 = p0; is = record { m = m; k = k; blocks = blocks; lt = lt; state = h.state } }

  walks-way : walks p0 leaves j ≡ true → Way (ones (2 ^ m - 1)) (2 ^ m - 1) p0 0 (at leaves j) (hops heads j)
  walks-way e = h.fan.fan.each j (⊎_elim (λ z. absurd (true-false e (ap not (eq-eqb (at leaves j) p0 (h.walk.fails j (bit-full k j lt) z))))) (λ z. z) (bit-cases j h.walkers))

  head-short : length (head_of p0 leaves heads j) ≤ m + 1
  head-short = by (walks p0 leaves j) refl
    where
      by : (b : Bool) → b ≡ walks p0 leaves j → length (head_of p0 leaves heads j) ≤ m + 1
      by true e = omega (arith, ap length (head-on (hops heads j) (sym e)), (walks-way (sym e)).short, ones-ones m)
      by false e = omega (arith, ap length (head_off (hops heads j) (sym e)))

  head-none : at leaves j ≡ p0 → length (head_of p0 leaves heads j) ≡ 0
  head-none e = ap length (head_off (hops heads j) (ap not (eq-eqb (at leaves j) p0 e)))

  -- reading the head's row
  pub head_row : (j < 16) × (walks p0 leaves j ≡ true → length (hops heads j) < 34)
  head_row = (omega (arith, held_small.0), λ e. omega (arith, (walks-way e).short, ones-ones m, held_small.1))

  -- and all that the head may be asked
  head_ask : HeadAsk m s0 heads j (walks p0 leaves j)
  head_ask = record {
    order = held_small.1;
    home = h.state.planned.asks.ask.home-block;
    row = head_row.0;
    long = h.fan.long;
    few = head_row.1;
    below = λ e i l. slots-below m p0 (at leaves j) (hops heads j) h.state.planned.asks.ask.home-slot (walks-way e).walk (get_or (hops heads j) i 0) (inr (in_at (hops heads j) 0 i l));
  }

  head_below : Below m (length (head_of p0 leaves heads j)) (head_of p0 leaves heads j)
  head_below = by (walks p0 leaves j) refl
    where
      by : (b : Bool) → walks p0 leaves j ≡ b → Below m (length (head_of p0 leaves heads j)) (head_of p0 leaves heads j)
      by true e = rw (head-on (hops heads j) e) (head_ask.below e)
      by false e = rw (head_off (hops heads j) e) (λ i l. absurd (omega arith))

  module _ {path : List ℕ} {last len : ℕ} {tail : List ℕ} (l : Leg m s0 p0 k blocks slots c o g j (at leaves j) path last len tail) where
    fits : length (head_of p0 leaves heads j) + (length path * suc m + len) ≤ most m
    fits = l.room (length (head_of p0 leaves heads j)) head-short head-none

    pub path_ask : (at₁ size : ℕ) → at₁ + suc (most m) ≤ size → PathAsk m s0 (at blocks j) (head_of p0 leaves heads j) (at leaves j) path last len tail at₁ size
    path_ask at₁ size room = record {
      order = held_small.1;
      home = h.state.planned.asks.ask.home-block;
      head_in = head_below;
      block = h.state.planned.asks.ask.blocks j lt;
      goes = l.goes;
      first = l.first;
      leave_in = l.leave_in;
      last_in = l.last_in;
      stays = l.stays;
      few = l.few;
      whole = l.whole;
      below = l.below;
      room = omega (arith, fits);
    }

    abbrev all : List Relay → List Relay
    all body = inside s0 (head_of p0 leaves heads j) ++ (body ++ inside (at blocks j) (take len tail))

    pub put : (source at₁ : ℕ) {was now : List ℕ} {r : ℕ} → Wrote m s0 (at blocks j) source (head_of p0 leaves heads j) path (at leaves j) last (take len tail) at₁ was now r
        → Put m s0 p0 k blocks slots c o g leaves heads source j at₁ was now r
    put source at₁ w =
        let size : length (numbers m (all w.body)) ≡ length (head_of p0 leaves heads j) + (length w.body + length (take len tail)) =
        length-numbers m (all w.body) ∙ length-append (inside s0 (head_of p0 leaves heads j)) (w.body ++ inside (at blocks j) (take len tail)) ∙ omega (arith, length-inside s0 (head_of p0 leaves heads j), length-append w.body (inside (at blocks j) (take len tail)), length-inside (at blocks j) (take len tail)) in
        record {
          path = numbers m (all w.body);
          pathed = record { row = l.row; route = path; tail = take len tail; body = w.body; role = l.role w.end w.body w.crosses; is = refl };
          short = omega (arith, size, fits, crosses_short m s0 (at leaves j) w.end last path w.body w.crosses, length-take len tail);
          wrote = w.wrote;
          count = w.count;
        }

-- ---- all paths

-- what the loop over the paths is asked
pub record Writes (m s0 p0 k w : ℕ) (blocks slots : List ℕ) (c : Choice) (o : Option taken.Taken) (g leaves heads places counts : List ℕ) : Type 0 where
  pub held : Held m s0 p0 k blocks slots c o g leaves heads
  pub wide : w ≡ most m + 1
  pub room : k * w ≤ length places
  pub room-counts : k ≤ length counts
  pub filled : (x : ℕ) → x < k * w → get_or places x 0 ≡ fan.filler

module _ {m s0 p0 k w : ℕ} {blocks slots : List ℕ} {c : Choice} {o : Option taken.Taken} {g leaves heads places₀ counts₀ : List ℕ} (a : Writes m s0 p0 k w blocks slots c o g leaves heads places₀ counts₀) where
  abbrev Drawn₁ : (source : ℕ) (places counts : List ℕ) (j : ℕ) → Type 0
  Drawn₁ source places counts j = Drawing w source k (Pathed m s0 p0 k blocks slots c o g leaves heads) places₀ counts₀ places counts j

  -- none; what the next is asked; one more; all
  pub writes_none : (source : ℕ) → Drawn₁ source places₀ counts₀ 0
  writes_none source = drawing_none w source k (Pathed m s0 p0 k blocks slots c o g leaves heads) places₀ counts₀ a.room a.room-counts a.filled

  module _ {source j : ℕ} {places counts : List ℕ} (d : Drawn₁ source places counts j) (lt : j < k) where
    pub writes_room : (j * w + (most m + 1) ≤ length places) × (j < length counts)
    writes_room = (omega (arith, row_room j k w lt, d.room, a.wide), omega (arith, d.room-counts))

    pub writes_inner : Inner m s0 p0 blocks slots c o g leaves heads j
    writes_inner = record { k = k; lt = lt; held = a.held }

    pub writes_more : {places₁ : List ℕ} {r : ℕ} → ((k : ℕ) → j < k → Held m s0 p0 k blocks slots c o g leaves heads → Put m s0 p0 k blocks slots c o g leaves heads source j (j * w) places places₁ r)
        → Drawn₁ source places₁ (set counts j r) (j + 1)
    writes_more {places₁} {r} f = let p = f k lt a.held in drawing_more d lt p.path r places₁ p.pathed (omega (arith, p.short, a.wide)) p.wrote p.count

  pub writes_all : {source j : ℕ} {places counts : List ℕ} → j ≡ k → Drawn₁ source places counts j → Drawn₁ source places counts k
  writes_all {source} {j} {places} {counts} e d = subst (Drawn₁ source places counts) e d
