-- What the loop over the paths of the round trip keeps (`Going`). Assumes nothing.
use Rattle.std.specs.Prelude.{ℕ, ◌+◌, ◌-◌, ◌*◌, ◌^◌, ◌≤◌, ◌<◌, ◌≡◌, List, length}
use Rattle.std.proofs.Common.{sym, subst, arith}
use Rattle.cube_math.specs.Masks.{at}
use Rattle.cube_math.specs.Doors.{Doors}
use Rattle.two_write.specs.Row.{hops}
use Rattle.two_rows.specs.Rows.{Gives}
use Rattle.two_parts.specs.Two.{two, block_of, slot_of}
use Rattle.two_write.specs.Rows.{Drawing, Drawn, ready_drawing, row_room}
use Rattle.two_round.specs.Found.{Found}
use Rattle.two_round.specs.Trip.{Trip, Slots, Course, trip_fan, trip_course}
use Rattle.two_round.specs.Paths.{PathOf, Written, written-more, trip_drawn}

-- j paths are written
pub record Going (m s w : ℕ) (targets places₀ counts₀ : List ℕ) (s0 p0 : ℕ) (to : List ℕ) (row n : ℕ) (g places counts : List ℕ) (j : ℕ) : Type 0 where
  pub trip : Trip m s w targets places₀ counts₀
  pub slots : Slots m targets to
  pub home-block : s0 ≡ block_of m s
  pub home-slot : p0 ≡ slot_of m s
  pub fan : Doors m (2 ^ m - 1) p0 0 (2 ^ m - 1) (at to) (hops g)
  pub found : Found m g (at to m) row n
  pub course : Course m s0 p0 w to row n g
  pub drawing : Drawing w s (length targets) (PathOf m s0 p0 to row n g) places₀ counts₀ places counts j

pub going_none : {m s w : ℕ} {targets places counts to : List ℕ} {s0 p0 row n : ℕ} {g₁ : List ℕ} (size : ℕ) → Trip m s w targets places counts → Slots m targets to
    → s0 ≡ block_of m s → p0 ≡ slot_of m s → size ≡ 2 ^ m → Gives (size - 1) p0 0 (size - 1) to g₁ → Found m g₁ (at to m) row n
    → Going m s w targets places counts s0 p0 to row n g₁ places counts 0
going_none {m} {s} {w} {targets} {places} {counts} {to} {s0} {p0} {row} {n} {g₁} size q t es ep e p f = record {
  trip = q;
  slots = t;
  home-block = es;
  home-slot = ep;
  fan = trip_fan q t s0 p0 es ep size g₁ e p;
  found = f;
  course = trip_course q t s0 p0 es ep size g₁ e p row n f;
  drawing = subst (λ (y : ℕ). Drawing y s (length targets) (PathOf m s0 p0 to row n g₁) places counts places counts 0) (sym q.wide) (ready_drawing (PathOf m s0 p0 to row n g₁) q.ready);
}

module _ {m s w : ℕ} {targets places₀ counts₀ : List ℕ} {s0 p0 : ℕ} {to : List ℕ} {row n : ℕ} {g places counts : List ℕ} {j : ℕ}
    (k : Going m s w targets places₀ counts₀ s0 p0 to row n g places counts j) where
  -- what writing path j asks
  pub going_asks : j ≤ m → Course m s0 p0 w to row n g × (j ≤ m) × (j * w + w ≤ length places) × (j < length counts)
  going_asks h =
      let l : j < length targets = omega (arith, k.trip.all) in
      (k.course, h, omega (arith, row_room j (length targets) w l, k.drawing.room), omega (arith, k.drawing.room-counts))

  pub going_more : {places₁ counts₁ : List ℕ} → j ≤ m → Written m s s0 p0 w to row n g j places counts places₁ counts₁
      → Going m s w targets places₀ counts₀ s0 p0 to row n g places₁ counts₁ (j + 1)
  going_more h x = record {
    trip = k.trip;
    slots = k.slots;
    home-block = k.home-block;
    home-slot = k.home-slot;
    fan = k.fan;
    found = k.found;
    course = k.course;
    drawing = written-more k.drawing (omega (arith, k.trip.all)) x;
  }

  pub going_done : m < j → Drawn (two m) s targets places₀ counts₀ places counts
  going_done h = trip_drawn k.trip k.slots s0 p0 k.home-block k.home-slot k.fan k.found j k.drawing h
