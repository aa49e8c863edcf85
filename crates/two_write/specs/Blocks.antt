-- The blocks of a block path, each entered by a door and walked through to the next (`Crossed`): what the loop that writes them keeps.
-- A block path is a row of a grid. Assumes nothing.
use Rattle.std.specs.Prelude.{ℕ, zero, suc, ◌+◌, ◌-◌, ◌*◌, ◌^◌, ◌≤◌, ◌<◌, ◌≡◌, refl, ◌≢◌, List, [], ◌∷◌, ◌++◌, length, get_or, take, set}
use Rattle.std.proofs.Common.{sym, ap, ◌∙◌, subst, inl, inr, add-zero, suc-mul, mul-le-mul_right, add-one, arith, length-append, length-take, take-suc, take_all, pow_mono, pow-add}
use Rattle.std.proofs.lemmas.List.Edits.{sets}
use Rattle.std.proofs.Math.Seq.{length-sets}
use Rattle.std.specs.Int.Bits.{bit_xor}
use Rattle.bits.specs.Bit.{bit, flip, Lowest}
use Rattle.bits.specs.Laws.{flip-lt, xor-zero-eq, flip-moves}
use Rattle.paths.specs.Lists.{in_at}
use Rattle.cube_math.specs.Doors.{In, Walk}
use Rattle.cube_math.specs.Plain.{full-below}
use Rattle.two_math.specs.Relays.{Relay, inside, length-inside}
use Rattle.two_math.specs.Through.{Stroll, Crosses, crosses_short}
use Rattle.two_math.specs.Numbers.{numbers, numbers-append, length-numbers}
use Rattle.two_math.specs.Loops.{crosses_none, crosses_more, walk_hop, door-of}
use Rattle.scan.specs.Runs.{sets_append}
use Rattle.two_write.specs.Walked.{relays, relays-numbers, Walked}
use Rattle.two_write.specs.Row.{hops}

-- ---- numbers of relays fit

pub order_small : {m : ℕ} → m ≤ 5 → 2 ^ m ≤ 32
order_small h = pow_mono h

pub base_fits : {m b : ℕ} → m ≤ 5 → b < 2 ^ (2 ^ m) → b * 2 ^ m + 2 ^ m < 2 ^ 64
base_fits {m} {b} h l =
    let all : b * 2 ^ m + 2 ^ m ≤ 2 ^ (2 ^ m) * 2 ^ m = omega (arith, mul-le-mul_right (2 ^ m) l, suc-mul b (2 ^ m)) in
    let few : 2 ^ m + m ≤ 37 = omega (arith, order_small h) in
    let size : 2 ^ (2 ^ m + m) ≤ 2 ^ 37 = pow_mono few in
    omega (arith, pow-add 2 (2 ^ m) m)

-- ---- a relay of a row

-- the blocks of a walk are blocks of the mesh
pub walk-below : (n free u t : ℕ) (l : List ℕ) → ((i : ℕ) → bit i free ≡ 1 → i < n) → u < 2 ^ n → Walk free u t l → (x : ℕ) → In x l → x < 2 ^ n
walk-below n free u t [] h lt w x g = absurd g
walk-below n free u t (v ∷ l) h lt w x (inl e) = subst (λ (y : ℕ). y < 2 ^ n) (sym (e ∙ w.2)) (flip-lt n u w.0 lt (h w.0 w.1))
walk-below n free u t (v ∷ l) h lt w x (inr g) =
    walk-below n free v t l h (subst (λ (y : ℕ). y < 2 ^ n) (sym w.2) (flip-lt n u w.0 lt (h w.0 w.1))) w.3 x g

-- ---- one block

-- b is entered at the slot p and walked through to the slot q: its relays stand from `at` on, up to r
pub record Entered (m b p q at : ℕ) (was now : List ℕ) (r : ℕ) : Type 0 where
  pub way : List ℕ
  pub stroll : Stroll m p q way
  pub wrote : now ≡ sets was at (numbers m (inside b (p ∷ way)))
  pub next : r ≡ at + suc (length way)

pub entered : {m b p q at : ℕ} {was now : List ℕ} {r : ℕ} (first : ℕ) → first ≡ b * 2 ^ m → Walked m first p q (at + 1) (set was at (first + p)) now r → Entered m b p q at was now r
entered {m} {b} {p} {q} {at} {was} {now} {r} first e w₁ =
    let w : Walked m (b * 2 ^ m) p q (at + 1) (set was at (b * 2 ^ m + p)) now r = subst (λ (y : ℕ). Walked m y p q (at + 1) (set was at (y + p)) now r) e w₁ in
    record {
      way = w.way;
      stroll = w.stroll;
      wrote = w.wrote ∙ sym (ap (sets was at) (relays-numbers m b (p ∷ w.way)) ∙ sets_append was at ((b * 2 ^ m + p) ∷ []) (relays (b * 2 ^ m) w.way));
      next = omega (arith, w.next);
    }

-- ---- all blocks

-- the row is a walk through blocks
pub record Goes (m s0 : ℕ) (g : List ℕ) (row : ℕ) : Type 0 where
  pub end : ℕ
  pub walk : Walk (2 ^ (2 ^ m) - 1) s0 end (hops g row)
  pub few : length (hops g row) < 34

-- the first of them are one
pub walk-take : (free n u t : ℕ) (l : List ℕ) → Walk free u t l → (e : ℕ) × Walk free u e (take n l)
walk-take free zero u t l w = (u, refl)
walk-take free (suc n) u t [] w = (u, refl)
walk-take free (suc n) u t (v ∷ l) w = let r = walk-take free n v t l w.3 in (r.0, (w.0, w.1, w.2, r.1))

-- what may be asked: the blocks of a path, from s0 by the slot `leave`, to the slot `last` of the last of them
pub record Ways (m s0 : ℕ) (path : List ℕ) (leave last at size : ℕ) : Type 0 where
  pub order : m ≤ 5
  pub home : s0 < 2 ^ (2 ^ m)
  pub goes : 0 < length path → (end : ℕ) × Walk (2 ^ (2 ^ m) - 1) s0 end path
  pub first : 0 < length path → get_or path 0 0 ≡ flip s0 leave
  pub leave_in : leave < 2 ^ m
  pub last_in : last < 2 ^ m
  pub stays : length path ≡ 0 → leave ≡ last
  pub room : at + length path * suc m ≤ size

-- the blocks of the route are crossed, to the slot q of the block `last`: the relays stand from `at` on, up to r
pub record Crossed (m s0 leave q : ℕ) (route : List ℕ) (at : ℕ) (was now : List ℕ) (r : ℕ) : Type 0 where
  pub last : ℕ
  pub body : List Relay
  pub crosses : Crosses m s0 leave last q route body
  pub wrote : now ≡ sets was at (numbers m body)
  pub next : r ≡ at + length body

-- the slot by which block i is left
pub record Exit (m : ℕ) (path : List ℕ) (last i e : ℕ) : Type 0 where
  pub within : e < 2 ^ m
  pub ends : i + 1 ≡ length path → e ≡ last
  pub goes : i + 1 < length path → get_or path (i + 1) 0 ≡ flip (get_or path i 0) e

pub record Crossing (m s0 : ℕ) (path : List ℕ) (leave last at : ℕ) (was now : List ℕ) (slot p i : ℕ) : Type 0 where
  pub bound : i ≤ length path
  pub here : ℕ
  pub body : List Relay
  pub crosses : Crosses m s0 leave here slot (take i path) body
  pub slot_in : slot < 2 ^ m
  pub door : i < length path → get_or path i 0 ≡ flip here slot
  pub done : i ≡ length path → slot ≡ last
  pub wrote : now ≡ sets was at (numbers m body)
  pub next : p ≡ at + length body
  pub long : length now ≡ length was

module _ {m s0 : ℕ} {path : List ℕ} {leave last at size : ℕ} (w : Ways m s0 path leave last at size) where
  pub crossing-block : (i : ℕ) → i < length path → get_or path i 0 < 2 ^ (2 ^ m)
  crossing-block i h =
      let r = w.goes (omega arith) in
      walk-below (2 ^ m) (2 ^ (2 ^ m) - 1) s0 r.0 path (full-below (2 ^ m)) w.home r.1 (get_or path i 0) (in_at path 0 i (omega arith))

  -- the next block is behind a door of block i
  next-door : (i : ℕ) → i + 1 < length path → (d : ℕ) × (d < 2 ^ m) × (get_or path (i + 1) 0 ≡ flip (get_or path i 0) d)
  next-door i h =
      let r = w.goes (omega arith) in
      let x = walk_hop (2 ^ (2 ^ m) - 1) s0 r.0 (i + 1) path r.1 (omega arith) in
      (x.0, full-below (2 ^ m) x.0 x.1, x.2 ∙ ap (λ (y : ℕ). flip (get_or (s0 ∷ path) y 0) x.0) (add-one i))

  pub next_differs : (i x y : ℕ) → i + 1 < length path → x ≡ get_or path i 0 → y ≡ get_or path (i + 1) 0 → bit_xor x y ≢ 0
  next_differs i x y h ex ey z =
      let d = next-door i h in
      flip-moves (get_or path i 0) d.0 (sym d.2 ∙ sym ey ∙ sym (xor-zero-eq x y z) ∙ ex)

  pub exit_door : (i x y e : ℕ) → i + 1 < length path → x ≡ get_or path i 0 → y ≡ get_or path (i + 1) 0 → Lowest 64 (bit_xor x y) e → Exit m path last i e
  exit_door i x y e h ex ey low =
      let d = next-door i h in
      let same : e ≡ d.0 = door-of 64 x y d.0 e (ey ∙ d.2 ∙ ap (λ (u : ℕ). flip u d.0) (sym ex)) low in
      record {
        within = subst (λ (u : ℕ). u < 2 ^ m) (sym same) d.1;
        ends = λ z. absurd (omega arith);
        goes = λ z. d.2 ∙ ap (flip (get_or path i 0)) (sym same);
      }

  -- the last block is left by the last slot
  pub exit_last : (i : ℕ) → i + 1 ≡ length path → Exit m path last i last
  exit_last i e = record { within = w.last_in; ends = λ z. refl; goes = λ z. absurd (omega arith) }

module _ (m s0 : ℕ) (path : List ℕ) (leave last at : ℕ) (was : List ℕ) (w : Ways m s0 path leave last at (length was)) where
  pub crossing-none : Crossing m s0 path leave last at was was leave at 0
  crossing-none = record {
    bound = omega arith;
    here = s0;
    body = [];
    crosses = crosses_none m s0 leave;
    slot_in = w.leave_in;
    door = w.first;
    done = λ e. w.stays (sym e);
    wrote = refl;
    next = sym (add-zero at);
    long = refl;
  }

  module _ (now : List ℕ) (slot p i : ℕ) (k : Crossing m s0 path leave last at was now slot p i) (lt : i < length path) where
    size : length (take i path) ≡ i
    size = length-take i path ∙ omega arith

    pub crossing-room : p + suc m ≤ length now
    crossing-room =
        let steps : i * suc m + suc m ≤ length path * suc m = omega (arith, mul-le-mul_right (suc m) lt, suc-mul i (suc m)) in
        omega (arith, crosses_short m s0 leave k.here slot (take i path) k.body k.crosses, ap (λ (y : ℕ). y * suc m) size, k.next, k.long, w.room)

    pub crossing-more : (x₁ e r : ℕ) (after : List ℕ) → x₁ ≡ get_or path i 0 → Exit m path last i e → Entered m x₁ slot e p now after r
        → Crossing m s0 path leave last at was after e r (i + 1)
    crossing-more x₁ e r after is x d₁ =
        let b : ℕ = get_or path i 0 in
        let d : Entered m b slot e p now after r = subst (λ (y : ℕ). Entered m y slot e p now after r) is d₁ in
        let at_b : b ≡ flip k.here slot = k.door lt in
        let more = crosses_more m s0 leave k.here slot e (take i path) k.body d.way k.crosses d.stroll in
        let taken : take (i + 1) path ≡ take i path ++ (b ∷ []) = ap (λ (y : ℕ). take y path) (add-one i) ∙ take-suc path i 0 (omega arith) in
        record {
          bound = omega arith;
          here = b;
          body = k.body ++ inside b (slot ∷ d.way);
          crosses = subst (λ (y : List ℕ). Crosses m s0 leave b e y (k.body ++ inside b (slot ∷ d.way))) (sym taken)
              (subst (λ (y : ℕ). Crosses m s0 leave y e (take i path ++ (y ∷ [])) (k.body ++ inside y (slot ∷ d.way))) (sym at_b) more);
          slot_in = x.within;
          door = x.goes;
          done = λ z. x.ends z;
          wrote = d.wrote ∙ ap (λ (l : List ℕ). sets l p (numbers m (inside b (slot ∷ d.way)))) k.wrote
              ∙ ap (λ (y : ℕ). sets (sets was at (numbers m k.body)) y (numbers m (inside b (slot ∷ d.way)))) (k.next ∙ ap (λ (y : ℕ). at + y) (sym (length-numbers m k.body)))
              ∙ sym (sets_append was at (numbers m k.body) (numbers m (inside b (slot ∷ d.way))))
              ∙ ap (sets was at) (sym (numbers-append m k.body (inside b (slot ∷ d.way))));
          next = omega (arith, d.next, k.next, length-append k.body (inside b (slot ∷ d.way)), length-inside b d.way);
          long = ap length d.wrote ∙ length-sets now p (numbers m (inside b (slot ∷ d.way))) ∙ k.long;
        }

  pub crossing_done : (now : List ℕ) (slot p i : ℕ) → Crossing m s0 path leave last at was now slot p i → length path ≤ i → Crossed m s0 leave last path at was now p
  crossing_done now slot p i k h =
      let all : i ≡ length path = omega (arith, k.bound) in
      record {
        last = k.here;
        body = k.body;
        crosses = subst (λ (y : ℕ). Crosses m s0 leave k.here y path k.body) (k.done all)
            (subst (λ (y : List ℕ). Crosses m s0 leave k.here slot y k.body) (take_all i path (omega arith)) k.crosses);
        wrote = k.wrote;
        next = k.next;
      }
