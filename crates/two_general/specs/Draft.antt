-- All that is chosen before a path is written: the targets, the choices, the block paths in a grid, and who takes one over (`State`);
-- and by which slot each path leaves the source's block (`Leaves`). Assumes nothing.
use Rattle.std.specs.Prelude.{ℕ, ◌+◌, ◌-◌, ◌^◌, ◌≤◌, ◌<◌, ◌≡◌, ◌≢◌, List, ◌∷◌, Option, Some, None, length, get_or}
use Rattle.std.proofs.Common.{sym, ap, ◌∙◌, subst, ⊎_elim, arith, pow_mono}
use Rattle.std.specs.Int.Bits.{bit_xor}
use Rattle.cube_math.specs.Masks.{at}
use Rattle.bits.specs.Bit.{bit, flip, Lowest}
use Rattle.bits.specs.Laws.{clash, xor-zero-eq, flip-moves, flip-eq}
use Rattle.cube_math.specs.Doors.{Walk, Way, Doors}
use Rattle.cube_math.specs.Plain.{full-below}
use Rattle.cube_math.specs.Request.{Request}
use Rattle.two_write.specs.Row.{hops}
use Rattle.two_math.specs.Shut.{block_request}
use Rattle.two_math.specs.Loops.{door-of}
use Rattle.two_choose.specs.declared.Choice.{Choice}
use Rattle.two_choose.specs.Chosen.{Asks, Chose}
use Rattle.two_takeover.specs.declared.Taken.{Taken}
use Rattle.two_takeover.specs.TakeOver.{OverAsk, Over}

-- the target that takes over; 8, which none is: nobody
abbrev pub who_of : Option Taken → ℕ
who_of None = 8
who_of (Some t) = t.who

-- what was chosen, by the struct that holds it
abbrev pub Chosen : (m s0 p0 k : ℕ) (blocks slots : List ℕ) (c : Choice) → Type 0
Chosen m s0 p0 k blocks slots c = Chose m s0 p0 k blocks slots c.inner c.gates.gated c.straight c.singles c.reps c.rows c.shut c.gates.slots c.ends

abbrev pub Overs : (m s0 p0 k : ℕ) (blocks slots : List ℕ) (c : Choice) (o : Option Taken) (g : List ℕ) → Type 0
Overs m s0 p0 k blocks slots c o g = Over m s0 p0 k blocks slots c.gates.slots c.gates.gated c.reps g o

-- the block paths stand in the grid
pub record Planned (m s0 p0 k : ℕ) (blocks slots : List ℕ) (c : Choice) (g : List ℕ) : Type 0 where
  pub asks : Asks m s0 p0 k blocks slots
  pub chose : Chosen m s0 p0 k blocks slots c
  pub fan : Doors (2 ^ m) (2 ^ (2 ^ m) - 1) s0 c.shut c.rows (at c.ends) (hops g)

pub record State (m s0 p0 k : ℕ) (blocks slots : List ℕ) (c : Choice) (o : Option Taken) (g : List ℕ) : Type 0 where
  pub planned : Planned m s0 p0 k blocks slots c g
  pub over : Overs m s0 p0 k blocks slots c o g

-- j is a target of it
pub record Inside (s0 p0 : ℕ) (slots : List ℕ) (c : Choice) (o : Option Taken) (g : List ℕ) (j : ℕ) : Type 0 where
  pub m : ℕ
  pub k : ℕ
  pub blocks : List ℕ
  pub lt : j < k
  pub state : State m s0 p0 k blocks slots c o g

-- the targets are those of it
pub record AllInside (s0 p0 k : ℕ) (slots : List ℕ) (c : Choice) (o : Option Taken) (g : List ℕ) : Type 0 where
  pub m : ℕ
  pub blocks : List ℕ
  pub state : State m s0 p0 k blocks slots c o g

-- they are few, and each is one of it
pub all-few : {s0 p0 k : ℕ} {slots : List ℕ} {c : Choice} {o : Option Taken} {g : List ℕ} → AllInside s0 p0 k slots c o g → k ≤ 6
all-few a = omega (arith, a.state.planned.asks.ask.few, a.state.planned.asks.high)

pub one_inside : {s0 p0 k : ℕ} {slots : List ℕ} {c : Choice} {o : Option Taken} {g : List ℕ} {j : ℕ} → AllInside s0 p0 k slots c o g → j < k → Inside s0 p0 slots c o g j
one_inside {s0} {p0} {k} {slots} {c} {o} {g} {j} a h = record { m = a.m; k = k; blocks = a.blocks; lt = h; state = a.state }

-- j is a target from some source
pub record Somewhere (slots : List ℕ) (c : Choice) (o : Option Taken) (g : List ℕ) (j : ℕ) : Type 0 where
  pub s0 : ℕ
  pub p0 : ℕ
  pub is : Inside s0 p0 slots c o g j

pub inside_small : {s0 p0 : ℕ} {slots : List ℕ} {c : Choice} {o : Option Taken} {g : List ℕ} {j : ℕ} → Inside s0 p0 slots c o g j → j < 6
inside_small i = omega (arith, i.lt, i.state.planned.asks.ask.few, i.state.planned.asks.high)

-- ---- what the planner of blocks is asked

module _ {m s0 p0 k : ℕ} {blocks slots : List ℕ} {c : Choice} (a : Asks m s0 p0 k blocks slots) (h : Chosen m s0 p0 k blocks slots c) where
  pub blocks_request : Request (2 ^ (2 ^ m) - 1) s0 c.shut c.rows (at c.ends)
  blocks_request = block_request a.ask h.sort h.gate h.keeps h.end h.shuts

  few-targets : k ≤ 6
  few-targets = omega (arith, a.ask.few, a.high)

  rep_in : (r : ℕ) → bit r c.reps ≡ 1 → (r < k) × (bit r c.gates.gated ≡ 1)
  rep_in r o = let g = (h.end.reps_on r o).0 in ((h.sort.gated_on r g).0, g)

  pub rows_within : (x : ℕ) → bit x c.rows ≡ 1 → x < 16
  rows_within x o = ⊎_elim
      (λ s. omega (arith, (h.end.single_on x s).0, few-targets))
      (λ (r, p, e). omega (arith, (rep_in r p).0, few-targets)) (h.end.row_from x o)

module _ {m s0 p0 k : ℕ} {blocks slots : List ℕ} {c : Choice} {g : List ℕ} (p : Planned m s0 p0 k blocks slots c g) where
  pub way_of : (x : ℕ) → bit x c.rows ≡ 1 → Way (2 ^ m) (2 ^ (2 ^ m) - 1) s0 c.shut (at c.ends x) (hops g x)
  way_of x o = p.fan.each x o

  pub way-short : (x : ℕ) → bit x c.rows ≡ 1 → length (hops g x) < 34
  way-short x o = let q : 2 ^ m ≤ 32 = pow_mono p.asks.high in omega (arith, (way_of x o).short)

  -- what the search for a take-over is asked
  pub over_ask : OverAsk m s0 p0 k blocks slots c.gates.slots c.gates.gated c.reps g
  over_ask =
      let e = p.chose.end in
      record {
        order = p.asks.high;
        few = omega (arith, few-targets p.asks p.chose);
        home = p.asks.ask.home-slot;
        crowds = record {
          few = λ r o. omega (arith, (rep_in p.asks p.chose r o).0, few-targets p.asks p.chose);
          short = λ r o. way-short (8 + r) (e.row_crowd r o);
          some = λ r o. let d = (way_of (8 + r) (e.row_crowd r o)).door in (flip s0 d.dim, d.rest, d.first);
        };
        walk = λ r o. subst (λ (y : ℕ). Walk (2 ^ (2 ^ m) - 1) s0 y (hops g (8 + r))) (e.end_crowd r o) (way_of (8 + r) (e.row_crowd r o)).walk;
        member = rep_in p.asks p.chose;
        slot = λ i l. p.asks.slot i;
      }

-- ---- by which slot the path of j leaves

pub record Leaves (s0 p0 : ℕ) (slots : List ℕ) (c : Choice) (o : Option Taken) (g : List ℕ) (j r : ℕ) : Type 0 where
  pub taken : j ≡ who_of o → r ≡ p0
  pub inner : j ≢ who_of o → bit j c.inner ≡ 1 → r ≡ at slots j
  pub straight : j ≢ who_of o → bit j c.inner ≡ 0 → bit j c.straight ≡ 1 → r ≡ at c.gates.slots j
  pub single : j ≢ who_of o → bit j c.inner ≡ 0 → bit j c.straight ≡ 0 → (l : List ℕ) × (hops g j ≡ flip s0 r ∷ l)

module _ {s0 p0 : ℕ} {slots : List ℕ} {c : Choice} {o : Option Taken} {g : List ℕ} {j r : ℕ} where
  -- whoever takes over, the inner ones, those straight through their gate, and the others
  pub leaves_taken : j ≡ who_of o → r ≡ p0 → Leaves s0 p0 slots c o g j r
  leaves_taken e q = record { taken = λ z. q; inner = λ ne. absurd (ne e); straight = λ ne. absurd (ne e); single = λ ne. absurd (ne e) }

  pub leaves_inner : j ≢ who_of o → bit j c.inner ≡ 1 → r ≡ at slots j → Leaves s0 p0 slots c o g j r
  leaves_inner ne b q = record { taken = λ z. absurd (ne z); inner = λ z w. q; straight = λ z w. absurd (clash w b); single = λ z w. absurd (clash w b) }

  pub leaves_straight : j ≢ who_of o → bit j c.inner ≡ 0 → bit j c.straight ≡ 1 → r ≡ at c.gates.slots j → Leaves s0 p0 slots c o g j r
  leaves_straight ne b d q = record { taken = λ z. absurd (ne z); inner = λ z w. absurd (clash b w); straight = λ z w v. q; single = λ z w v. absurd (clash v d) }

  pub leaves_single : j ≢ who_of o → bit j c.inner ≡ 0 → bit j c.straight ≡ 0 → (l : List ℕ) → hops g j ≡ flip s0 r ∷ l → Leaves s0 p0 slots c o g j r
  leaves_single ne b d l q = record { taken = λ z. absurd (ne z); inner = λ z w. absurd (clash b w); straight = λ z w v. absurd (clash d v); single = λ z w v. (l, q) }

-- ---- the door of a single target

module _ {m s0 p0 k : ℕ} {blocks slots : List ℕ} {c : Choice} {o : Option Taken} {g : List ℕ} (s : State m s0 p0 k blocks slots c o g) (j : ℕ) (lt : j < k)
    (outer : bit j c.inner ≡ 0) (curved : bit j c.straight ≡ 0) where
  pub single_on : bit j c.rows ≡ 1
  single_on = let e = s.planned.chose.end in e.row_single j (e.single_off j lt outer curved)

  -- what reading its first block asks
  pub first_ask : (j < 16) × (length (hops g j) < 34) × (0 < length (hops g j))
  first_ask =
      let d = (way_of s.planned j single_on).door in
      (omega (arith, few-targets s.planned.asks s.planned.chose), way-short s.planned j single_on, omega (arith, ap length d.first))

  -- the same of a whole grid, as an array has it
  pub first_whole : length g ≡ 560 → (j < 16) × (length g ≡ 560) × (length (hops g j) < 34) × (0 < length (hops g j))
  first_whole w = (first_ask.0, w, first_ask.1, first_ask.2)

  door-first : (v : ℕ) → v ≡ get_or (hops g j) 0 0 → v ≡ flip s0 (way_of s.planned j single_on).door.dim
  door-first v f = f ∙ ap (λ (l : List ℕ). get_or l 0 0) (way_of s.planned j single_on).door.first

  -- the first block and s0 differ in the door
  pub door_differs : (v : ℕ) → v ≡ get_or (hops g j) 0 0 → bit_xor s0 v ≢ 0
  door_differs v f z =
      let d = (way_of s.planned j single_on).door in
      flip-moves s0 d.dim (sym (door-first v f) ∙ sym (xor-zero-eq s0 v z))

  pub leaves-door : (v e : ℕ) → v ≡ get_or (hops g j) 0 0 → Lowest 64 (bit_xor s0 v) e → (l : List ℕ) × (hops g j ≡ flip s0 e ∷ l)
  leaves-door v e f low =
      let d = (way_of s.planned j single_on).door in
      let same : e ≡ d.dim = door-of 64 s0 v d.dim e (door-first v f) low in
      (d.rest, d.first ∙ ap (λ (y : ℕ). flip s0 y ∷ d.rest) (sym same))

  -- whatever slot its block path leaves by is one of the block
  pub leave-below : (r : ℕ) (l : List ℕ) → hops g j ≡ flip s0 r ∷ l → r < 2 ^ m
  leave-below r l e =
      let d = (way_of s.planned j single_on).door in
      let same : r ≡ d.dim = flip-eq s0 r d.dim (head (sym e ∙ d.first)) in
      subst (λ (y : ℕ). y < 2 ^ m) (sym same) (full-below (2 ^ m) d.dim d.within)
    where
      head : {x y : ℕ} {l r : List ℕ} → x ∷ l ≡ y ∷ r → x ≡ y
      head e = cc
