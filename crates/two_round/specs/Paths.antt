-- The paths of the round trip as they are written, one by one: all but one in the source's block, and that one around. Main result
-- `trip_drawn`: they are a fan. Assumes nothing.
use Rattle.std.specs.Prelude.{ℕ, suc, ◌+◌, ◌-◌, ◌*◌, ◌^◌, ◌≤◌, ◌<◌, ◌≡◌, ◌≢◌, List, [], ◌∷◌, ◌++◌, length, get_or, take, set}
use Rattle.std.proofs.Math.Path.{refl}
use Rattle.std.proofs.Common.{sym, ap, ◌∙◌, subst, ⊎_elim, add-one, arith, length-take, take_all, get_or-take}
use Rattle.std.proofs.Math.Decide.{ℕ_discrete}
use Rattle.std.proofs.lemmas.List.Edits.{sets}
use Rattle.cube_math.specs.Masks.{at}
use Rattle.bits.specs.Bit.{flip}
use Rattle.bits.specs.Laws.{lt-or-le}
use Rattle.paths.specs.Mesh.{width}
use Rattle.cube_math.specs.Doors.{Doors}
use Rattle.cube_math.specs.Plain.{bit-full}
use Rattle.two_write.specs.Row.{hops, hops-length}
use Rattle.two_parts.specs.Two.{two, block_of, slot_of}
use Rattle.two_math.specs.Relays.{Relay, inside, length-inside}
use Rattle.two_math.specs.Through.{Crosses}
use Rattle.two_math.specs.Assemble.{TwoFan}
use Rattle.two_math.specs.Numbers.{numbers, length-numbers, numbers-fan}
use Rattle.two_math.specs.Round.{round, when, when_yes, when_no, Heads, Upto, upto, heads-none, heads-swapped, round-fan}
use Rattle.two_write.specs.Slots.{Below, Slotted}
use Rattle.two_write.specs.Rows.{Drawing, Drawn, drawing_more, drawing_drawn, drawn, drawn-has, lists_same}
use Rattle.two_round.specs.Around.{Rounded}
use Rattle.two_round.specs.Found.{Found}
use Rattle.two_round.specs.Trip.{Trip, Slots, Course, trip_ask, trip_home}

-- ---- which path is which

-- the slots of path j, if it stays in the block: the last is the cut of a row, any other its own row
abbrev pub head_of : (m row n : ℕ) (g : List ℕ) (j : ℕ) → List ℕ
head_of m row n g j = when (ℕ_discrete j m) (take n (hops g row)) (hops g j)

-- l is path j: around where j is the row that is cut, or the last where none is
pub record PathOf (m s0 p0 : ℕ) (to : List ℕ) (row n : ℕ) (g : List ℕ) (j : ℕ) (l : List ℕ) : Type 0 where
  pub around : j ≡ row → (body : List Relay) × Crosses m s0 p0 (flip s0 (at to row)) (at to row) (round s0 p0 (at to row)) body × (l ≡ numbers m (body ++ inside s0 (at to row ∷ [])))
  pub inner : j ≢ row → l ≡ numbers m (inside s0 (head_of m row n g j))

-- these are the slots of path j
pub record Part (m row n : ℕ) (g : List ℕ) (j : ℕ) (l : List ℕ) : Type 0 where
  pub few : length l ≤ m + 1
  pub below : Below m (length l) l
  pub is : l ≡ head_of m row n g j

-- path j is written
pub record Written (m s s0 p0 w : ℕ) (to : List ℕ) (row n : ℕ) (g : List ℕ) (j : ℕ) (places counts places₁ counts₁ : List ℕ) : Type 0 where
  pub path : List ℕ
  pub is : PathOf m s0 p0 to row n g j path
  pub short : length path < w
  pub wrote : places₁ ≡ sets places (j * w) (s ∷ path)
  pub count : counts₁ ≡ set counts j (length path)

module _ {m s0 p0 w : ℕ} {to : List ℕ} {row n : ℕ} {g : List ℕ} (c : Course m s0 p0 w to row n g) (j : ℕ) where
  -- the last path: the row that is cut
  pub part_cut : j ≡ m → j ≢ row → Part m row n g j (take n (hops g row))
  part_cut e ne =
      let l : row < m = omega (arith, c.row_in) in
      let size : length (take n (hops g row)) ≤ length (hops g row) = omega (arith, length-take n (hops g row)) in
      record {
        few = omega (arith, c.few row l);
        below = λ i h. let lt : i < n = omega (arith, length-take n (hops g row)) in rw get_or-take (c.below row l i (omega arith));
        is = sym (when_yes (ℕ_discrete j m) (take n (hops g row)) (hops g j) e);
      }

  -- any other: its own row, all of it
  pub part-own : (k : ℕ) → j ≤ m → j ≢ m → k ≡ get_or g (j * 35) 0 → Part m row n g j (take k (hops g j))
  part-own k h ne e =
      let l : j < m = omega arith in
      let all : length (hops g j) ≤ k = omega (arith, hops-length g j, c.few j l, c.order) in
      rw (take_all k (hops g j) all) (record { few = c.few j l; below = c.below j l; is = sym (when_no (ℕ_discrete j m) (take n (hops g row)) (hops g j) ne) })

  pub written_around : (s r : ℕ) (places counts places₁ : List ℕ) → j ≡ row → Rounded m s s0 p0 (at to j) (j * w) places places₁ r
      → Written m s s0 p0 w to row n g j places counts places₁ (set counts j r)
  written_around s r places counts places₁ e d = record {
    path = numbers m (d.body ++ inside s0 (at to j ∷ []));
    is = record {
      around = λ z. (
        d.body,
        subst (λ (y : ℕ). Crosses m s0 p0 (flip s0 (at to y)) (at to y) (round s0 p0 (at to y)) d.body) e d.crosses,
        ap (λ (y : ℕ). numbers m (d.body ++ inside s0 (at to y ∷ []))) e,
      );
      inner = λ ne. absurd (ne e);
    };
    short = omega (arith, d.count, d.short, c.wide);
    wrote = d.wrote;
    count = ap (set counts j) d.count;
  }

  pub written_inner : (s x : ℕ) (l places counts places₁ : List ℕ) → j ≢ row → Part m row n g j l → Slotted m s0 l (j * w + 1) (set places (j * w) s) places₁ x
      → Written m s s0 p0 w to row n g j places counts places₁ (set counts j (length l))
  written_inner s x l places counts places₁ ne p d =
      let size : length (numbers m (inside s0 l)) ≡ length l = length-numbers m (inside s0 l) ∙ length-inside s0 l in
      record {
        path = numbers m (inside s0 l);
        is = record { around = λ z. absurd (ne z); inner = λ z. ap (λ (y : List ℕ). numbers m (inside s0 y)) p.is };
        short = omega (arith, p.few, c.wide);
        wrote = d.wrote ∙ ap (λ (y : ℕ). sets (set places (j * w) s) y (numbers m (inside s0 l))) (add-one (j * w));
        count = ap (set counts j) (sym size);
      }

-- one path more
pub written-more : {m s s0 p0 w : ℕ} {to : List ℕ} {row n : ℕ} {g : List ℕ} {k : ℕ} {places₀ counts₀ places counts : List ℕ} {j : ℕ} {places₁ counts₁ : List ℕ}
    → Drawing w s k (PathOf m s0 p0 to row n g) places₀ counts₀ places counts j → j < k → Written m s s0 p0 w to row n g j places counts places₁ counts₁
    → Drawing w s k (PathOf m s0 p0 to row n g) places₀ counts₀ places₁ counts₁ (j + 1)
written-more {places₁ = places₁} d h x = rw x.count (drawing_more d h x.path (length x.path) places₁ x.is x.short x.wrote refl)

-- ---- all paths

module _ {m s w : ℕ} {targets places counts to : List ℕ} (q : Trip m s w targets places counts) (t : Slots m targets to) (s0 p0 : ℕ) (es : s0 ≡ block_of m s) (ep : p0 ≡ slot_of m s)
    {row n : ℕ} {g : List ℕ} (fan : Doors m (2 ^ m - 1) p0 0 (2 ^ m - 1) (at to) (hops g)) (f : Found m g (at to m) row n) where
  abbrev k : ℕ
  k = length targets

  size : suc m ≡ k
  size = omega (arith, q.all)

  -- the paths in the block, and that they are those that are written
  abbrev Inside : Type 0
  Inside = (head : ℕ → List ℕ) × Heads m p0 k row (at to) head × ((j : ℕ) → j < k → j ≢ row → head_of m row n g j ≡ head j)

  swapped : row < m → Inside
  swapped h =
      let o = f.on h in
      let w = fan.each row (bit-full m row h) in
      let last : get_or (hops g row) (n - 1) 0 ≢ at to row =
      λ e. (trip_ask q t s0 p0 es ep).differ m row (omega arith) (omega arith) (λ z. omega arith) (trip_home q t s0 p0 es ep m (omega arith) ∙ sym (trip_home q t s0 p0 es ep row (omega arith))) (sym o.2 ∙ e) in
      let c = upto (2 ^ m - 1) p0 (at to row) (hops g row) (n - 1) w.walk (w.away, w.fresh) (omega (arith, o.0, o.1)) last in
      let cut : suc (n - 1) ≡ n = omega (arith, o.0) in (
        head_of m row n g,
        subst (λ (y : ℕ). Heads m p0 y row (at to) (head_of m row n g)) size
            (heads-swapped m p0 (at to) 0 (hops g) fan row h (take n (hops g row))
            (subst (λ (y : ℕ). Upto (2 ^ m - 1) p0 (at to row) (hops g row) (at to m) (take y (hops g row))) cut
            (subst (λ (y : ℕ). Upto (2 ^ m - 1) p0 (at to row) (hops g row) y (take (suc (n - 1)) (hops g row))) o.2 c))),
        λ j l ne. refl,
      )

  none : row ≡ m → Inside
  none e = (
    hops g,
    subst (λ (y : ℕ). Heads m p0 y row (at to) (hops g)) size (subst (λ (y : ℕ). Heads m p0 (suc m) y (at to) (hops g)) (sym e) (heads-none m p0 (at to) 0 (hops g) fan (f.none e))),
    λ j l ne. when_no (ℕ_discrete j m) (take n (hops g row)) (hops g j) (λ z. ne (z ∙ sym e)),
  )

  within : Inside
  within = ⊎_elim swapped (λ h. none (omega (arith, f.within))) (lt-or-le row m)

  module _ {places₁ counts₁ : List ℕ} (d : Drawing (width (two m)) s k (PathOf m s0 p0 to row n g) places counts places₁ counts₁ k) where
    row_in : row < k
    row_in = omega (arith, f.within)

    trip : (body : List Relay) × Crosses m s0 p0 (flip s0 (at to row)) (at to row) (round s0 p0 (at to row)) body × (drawn d row ≡ numbers m (body ++ inside s0 (at to row ∷ [])))
    trip = (drawn-has d row row_in).around refl

    paths : ℕ → List Relay
    paths j = when (ℕ_discrete j row) (trip.0 ++ inside s0 (at to row ∷ [])) (inside s0 (within.0 j))

    is_around : paths row ≡ trip.0 ++ inside s0 (at to row ∷ [])
    unfolding paths
    is_around = when_yes (ℕ_discrete row row) (trip.0 ++ inside s0 (at to row ∷ [])) (inside s0 (within.0 row)) refl

    is_inner : (j : ℕ) → j < k → j ≢ row → paths j ≡ inside s0 (within.0 j)
    unfolding paths
    is_inner j h ne = when_no (ℕ_discrete j row) (trip.0 ++ inside s0 (at to row ∷ [])) (inside s0 (within.0 j)) ne

    pairs : TwoFan m s0 p0 k (λ j. block_of m (get_or targets j 0)) (at to) paths
    pairs = round-fan {head = within.0} {body = trip.0} (record {
      inner = trip_home q t s0 p0 es ep;
      left_in = row_in;
      other = (trip_ask q t s0 p0 es ep).other row row_in (trip_home q t s0 p0 es ep row row_in);
      heads = within.1;
      crosses = trip.1;
      path-other = is_inner;
      path-left = is_around;
    })

    -- the same over the targets' own slots, from the source's own
    plain : TwoFan m (block_of m s) (slot_of m s) k (λ j. block_of m (get_or targets j 0)) (λ j. slot_of m (get_or targets j 0)) paths
    plain = subst (λ (y : ℕ). TwoFan m (block_of m s) y k (λ j. block_of m (get_or targets j 0)) (λ j. slot_of m (get_or targets j 0)) paths) ep
        (subst (λ (y : ℕ). TwoFan m y p0 k (λ j. block_of m (get_or targets j 0)) (λ j. slot_of m (get_or targets j 0)) paths) es
        (record { chain = λ j h. rw (t.is j h) at (pairs.chain j h); once = pairs.once; short = pairs.short; apart = pairs.apart }))

    same : (j : ℕ) → j < k → drawn d j ≡ numbers m (paths j)
    same j h = by (ℕ_discrete j row)
      where
        by : Dec (j ≡ row) → drawn d j ≡ numbers m (paths j)
        by (yes e) = ap (drawn d) e ∙ trip.2 ∙ ap (numbers m) (sym is_around ∙ ap paths (sym e))
        by (no ne) = (drawn-has d j h).inner ne ∙ ap (λ (l : List ℕ). numbers m (inside s0 l)) (within.2 j h ne) ∙ ap (numbers m) (sym (is_inner j h ne))

    closed : Drawn (two m) s targets places counts places₁ counts₁
    closed = drawing_drawn d (lists_same (numbers-fan m s targets paths q.ready.sound.source plain) same)

  pub trip_drawn : {places₁ counts₁ : List ℕ} (j : ℕ) → Drawing w s k (PathOf m s0 p0 to row n g) places counts places₁ counts₁ j → m < j → Drawn (two m) s targets places counts places₁ counts₁
  trip_drawn {places₁} {counts₁} j d h =
      let end : j ≡ k = omega (arith, d.bound) in
      closed (subst (λ (y : ℕ). Drawing y s k (PathOf m s0 p0 to row n g) places counts places₁ counts₁ k) q.wide
      (subst (λ (y : ℕ). Drawing w s k (PathOf m s0 p0 to row n g) places counts places₁ counts₁ y) end d))
