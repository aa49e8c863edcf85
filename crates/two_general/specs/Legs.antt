-- The rest of a path after its head: a law for each kind of target (`leg_inner`, `leg_taken`, `leg_direct`, `leg_gated`, `leg_straight`).
-- Assumes nothing.
use Rattle.std.specs.Prelude.{ℕ, suc, ◌+◌, ◌-◌, ◌*◌, ◌^◌, ◌≤◌, ◌<◌, ◌≡◌, refl, ◌⊎◌, ◌≢◌, List, [], ◌∷◌, Option, length, get_or, take}
use Rattle.std.proofs.Common.{sym, ap, ◌∙◌, subst, inl, inr, ⊎_elim, suc-mul, mul-le-mul_right, mul-suc, mul_comm, add-one, arith, length-take, take_all, get_or-take, pow_pos}
use Rattle.cube_math.specs.Masks.{at}
use Rattle.bits.specs.Bit.{bit, flip}
use Rattle.bits.specs.Laws.{flip-flip, flip-lt}
use Rattle.paths.specs.Lists.{in_at}
use Rattle.cube_math.specs.Doors.{In, Walk, Way}
use Rattle.cube_math.specs.Plain.{full-below}
use Rattle.two_write.specs.Row.{hops}
use Rattle.two_math.specs.Relays.{Relay}
use Rattle.two_math.specs.Through.{Crosses}
use Rattle.two_math.specs.Assemble.{most}
use Rattle.two_math.specs.Plan.{Steps, Role}
use Rattle.two_math.specs.Gates.{Near}
use Rattle.two_math.specs.Loops.{crosses_last, walk-last}
use Rattle.two_choose.specs.declared.Choice.{Choice}
use Rattle.two_takeover.specs.declared.Taken as taken
use Rattle.two_write.specs.Blocks.{Goes}
use Rattle.two_write.specs.Slots.{Below}
use Rattle.two_general.specs.Draft.{State, who_of, way_of, way-short, single_on, leave-below}

-- ---- small facts

-- no slots, where there is no tail
take_none : (l : List ℕ) → take 0 l ≡ []
take_none [] = refl
take_none (x ∷ l) = refl

-- the tail through a gate
some-steps : (m q p : ℕ) → Near m p q → (tail : List ℕ) × Steps m q p tail
some-steps m q p (inl e) = (q ∷ [], inl (e, refl))
some-steps m q p (inr (h, l, e)) = (q ∷ p ∷ [], inr (h, l, sym (ap (λ (y : ℕ). flip y h) e ∙ flip-flip p h), refl))

-- slots of a walk in a block
walk-slots : (m u t : ℕ) (l : List ℕ) → u < 2 ^ m → Walk (2 ^ m - 1) u t l → (x : ℕ) → In x l → x < 2 ^ m
walk-slots m u t [] h w x o = absurd o
walk-slots m u t (v ∷ l) h w x o =
    let next : v < 2 ^ m = subst (λ (y : ℕ). y < 2 ^ m) (sym w.2) (flip-lt m u w.0 h (full-below m w.0 w.1)) in
    ⊎_elim (λ e. subst (λ (y : ℕ). y < 2 ^ m) (sym e) next) (walk-slots m v t l next w.3 x) o

pub slots-below : (m u t : ℕ) (l : List ℕ) → u < 2 ^ m → Walk (2 ^ m - 1) u t l → (x : ℕ) → In x (u ∷ l) → x < 2 ^ m
slots-below m u t l h w x o = ⊎_elim (λ e. subst (λ (y : ℕ). y < 2 ^ m) (sym e) h) (walk-slots m u t l h w x) o

-- what is kept of an array is what a list says
pub below_list : (m len : ℕ) (tail l : List ℕ) → take len tail ≡ l → len ≤ length tail → ((x : ℕ) → In x l → x < 2 ^ m) → Below m len tail
below_list m len tail l e h f i lt =
    let size : length (take len tail) ≡ len = length-take len tail ∙ omega arith in
    subst (λ (y : ℕ). y < 2 ^ m) (get_or-take len tail i 0 lt)
    (f (get_or (take len tail) i 0) (subst (λ (y : List ℕ). In (get_or (take len tail) i 0) y) e (in_at (take len tail) 0 i (omega arith))))

blocks-room : (m n : ℕ) → n ≤ 2 ^ m + 1 → n * suc m ≤ m * 2 ^ m + 2 ^ m + m + 1
blocks-room m n le = omega (arith, mul-le-mul_right (suc m) le, suc-mul (2 ^ m) (suc m), mul-suc (2 ^ m) m, mul_comm (2 ^ m) m, ap (λ (y : ℕ). y * suc m) (add-one (2 ^ m)))

-- ---- a leg

-- a path of blocks from s0 by the slot `leave`, to the slot `last` of the last of them; and `len` slots of the target's block. Whatever relays cross
-- the blocks so make the part of target j
pub record Leg (m s0 p0 k : ℕ) (blocks slots : List ℕ) (c : Choice) (o : Option taken.Taken) (g : List ℕ) (j leave : ℕ) (path : List ℕ) (last len : ℕ) (tail : List ℕ) : Type 0 where
  pub row : ℕ
  pub goes : 0 < length path → (end : ℕ) × Walk (2 ^ (2 ^ m) - 1) s0 end path
  pub first : 0 < length path → get_or path 0 0 ≡ flip s0 leave
  pub leave_in : leave < 2 ^ m
  pub last_in : last < 2 ^ m
  pub stays : length path ≡ 0 → leave ≡ last
  pub few : len ≤ 8
  pub whole : len ≤ length tail
  pub below : Below m len tail
  pub role : (b : ℕ) (body : List Relay) → Crosses m s0 leave b last path body
      → Role m s0 p0 k (at blocks) (at slots) c.gates.gated c.rows (who_of o) (at c.gates.slots) (at c.ends) (hops g) j leave row path (take len tail) body
  pub room : (h : ℕ) → h ≤ m + 1 → (leave ≡ p0 → h ≡ 0) → h + (length path * suc m + len) ≤ most m

-- the tail through a gate: its slot, and the target's if that is another
pub record GateTail (gate slot len : ℕ) (tail : List ℕ) : Type 0 where
  pub long : length tail ≡ 8
  pub is : ((gate ≡ slot) × (len ≡ 1) × (take len tail ≡ gate ∷ [])) ⊎ ((gate ≢ slot) × (len ≡ 2) × (take len tail ≡ gate ∷ slot ∷ []))

gate-steps : {m gate slot len : ℕ} {tail : List ℕ} → Near m slot gate → GateTail gate slot len tail → Steps m gate slot (take len tail)
gate-steps {m} {gate} {slot} {len} {tail} n t = by n t.is
  where
    by : Near m slot gate → ((gate ≡ slot) × (len ≡ 1) × (take len tail ≡ gate ∷ [])) ⊎ ((gate ≢ slot) × (len ≡ 2) × (take len tail ≡ gate ∷ slot ∷ [])) → Steps m gate slot (take len tail)
    by n (inl (e, z, q)) = inl (e, q)
    by (inl e) (inr (ne, z, q)) = absurd (ne e)
    by (inr (h, l, e)) (inr (ne, z, q)) = inr (h, l, sym (ap (λ (y : ℕ). flip y h) e ∙ flip-flip slot h), q)

gate-few : {gate slot len : ℕ} {tail : List ℕ} → GateTail gate slot len tail → len ≤ 2
gate-few t = ⊎_elim (λ q. omega (arith, q.1)) (λ q. omega (arith, q.1)) t.is

gate-below : (m : ℕ) {gate slot len : ℕ} {tail : List ℕ} → gate < 2 ^ m → slot < 2 ^ m → GateTail gate slot len tail → Below m len tail
gate-below m {gate} {slot} {len} {tail} hg hs t = ⊎_elim
    (λ q. below_list m len tail (gate ∷ []) q.2 (omega (arith, gate-few t, t.long)) (λ x o. ⊎_elim (λ e. subst (λ (y : ℕ). y < 2 ^ m) (sym e) hg) (λ z. absurd z) o))
    (λ q. below_list m len tail (gate ∷ slot ∷ []) q.2 (omega (arith, gate-few t, t.long))
    (λ x o. ⊎_elim (λ e. subst (λ (y : ℕ). y < 2 ^ m) (sym e) hg) (λ r. ⊎_elim (λ e. subst (λ (y : ℕ). y < 2 ^ m) (sym e) hs) (λ z. absurd z) r) o)) t.is

module _ {m s0 p0 k : ℕ} {blocks slots : List ℕ} {c : Choice} {o : Option taken.Taken} {g : List ℕ} (s : State m s0 p0 k blocks slots c o g) (j : ℕ) (lt : j < k) where
  abbrev TheLeg : (leave : ℕ) (path : List ℕ) (last len : ℕ) (tail : List ℕ) → Type 0
  TheLeg = Leg m s0 p0 k blocks slots c o g j

  slot_in : at slots j < 2 ^ m
  slot_in = s.planned.asks.slot j

  pub leg_inner : (leave : ℕ) (tail : List ℕ) → bit j c.inner ≡ 1 → leave ≡ at slots j → TheLeg leave [] (at slots j) 0 tail
  leg_inner leave tail b e = record {
    row = 0;
    goes = λ z. absurd (omega arith);
    first = λ z. absurd (omega arith);
    leave_in = subst (λ (y : ℕ). y < 2 ^ m) (sym e) slot_in;
    last_in = slot_in;
    stays = λ z. e;
    few = omega arith;
    whole = omega arith;
    below = λ i h. absurd (omega arith);
    role = λ d body k. inl (record {
      here = (s.planned.chose.sort.inner_on j b).1;
      leaves = e;
      no_route = refl;
      no_body = k.2;
      no_tail = refl;
    });
    room = λ h le z. omega (arith, pow_pos m);
  }

  pub leg_straight : (leave len : ℕ) (tail : List ℕ) → bit j c.straight ≡ 1 → leave ≡ at c.gates.slots j → GateTail (at c.gates.slots j) (at slots j) len tail
      → TheLeg leave [] (at c.gates.slots j) len tail
  leg_straight leave len tail b e t =
      let x = s.planned.chose.keeps.straight_on j b in
      let near = (s.planned.chose.gate j lt x.0).near in
      record {
        row = 0;
        goes = λ z. absurd (omega arith);
        first = λ z. absurd (omega arith);
        leave_in = subst (λ (y : ℕ). y < 2 ^ m) (sym e) (s.planned.chose.below j);
        last_in = s.planned.chose.below j;
        stays = λ z. e;
        few = omega (arith, gate-few t);
        whole = omega (arith, gate-few t, t.long);
        below = gate-below m (s.planned.chose.below j) slot_in t;
        role = λ d body k. inr (inr (
          x.0,
          inr (inl (record {
            at-gate = x.1;
            leaves = e;
            no_route = refl;
            no_body = k.2;
            steps = gate-steps near t;
          })),
        ));
        room = λ h le z. omega (arith, gate-few t, pow_pos m);
      }

  module _ (outer : bit j c.inner ≡ 0) (curved : bit j c.straight ≡ 0) (leave : ℕ) (rest : List ℕ) (starts : hops g j ≡ flip s0 leave ∷ rest) where
    single : bit j c.singles ≡ 1
    single = s.planned.chose.end.single_off j lt outer curved

    on : bit j c.rows ≡ 1
    on = single_on s j lt outer curved

    leave_in : leave < 2 ^ m
    leave_in = leave-below s j lt outer curved leave rest starts

    way : Way (2 ^ m) (2 ^ (2 ^ m) - 1) s0 c.shut (at c.ends j) (hops g j)
    way = way_of s.planned j on

    -- its row is a walk, and can be read
    goes_on : Goes m s0 g j
    goes_on = record { end = at c.ends j; walk = way.walk; few = way-short s.planned j on }

    few-j : j < 16
    few-j = omega (arith, s.planned.asks.ask.few, s.planned.asks.high)

    some-hops : length (hops g j) ≢ 0
    some-hops e = let z : length (hops g j) ≡ suc (length rest) = ap length starts in omega arith

    -- it ends in the end of its row
    ends_there : (d q : ℕ) (body : List Relay) → Crosses m s0 leave d q (hops g j) body → Crosses m s0 leave (at c.ends j) q (hops g j) body
    ends_there d q body k =
        let e : d ≡ at c.ends j = sym (crosses_last m s0 leave d q (hops g j) body k) ∙ walk-last (2 ^ (2 ^ m) - 1) s0 (at c.ends j) (hops g j) way.walk in
        subst (λ (y : ℕ). Crosses m s0 leave y q (hops g j) body) e k

    pub leg_direct : (tail : List ℕ) → bit j c.gates.gated ≡ 0 → j ≢ who_of o → TheLeg leave (hops g j) (at slots j) 0 tail
    leg_direct tail b ne =
        let sort = s.planned.chose.sort in
        let end : at c.ends j ≡ at blocks j = s.planned.chose.end.end_direct j single b in
        record {
          row = j;
          goes = λ z. (at c.ends j, way.walk);
          first = λ z. ap (λ (l : List ℕ). get_or l 0 0) starts;
          leave_in = leave_in;
          last_in = slot_in;
          stays = λ z. absurd (some-hops z);
          few = omega arith;
          whole = omega arith;
          below = λ i h. absurd (omega arith);
          role = λ d body k. inr (inl (record {
            ungated = b;
            alone = (sort.gated_off j lt (sort.inner_off j lt outer) b).0;
            member = on;
            end = end;
            follows = refl;
            crosses = subst (λ (y : ℕ). Crosses m s0 leave y (at slots j) (hops g j) body) end (ends_there d (at slots j) body k);
            no_tail = refl;
          }));
          room = λ h le z. omega (arith, blocks-room m (length (hops g j)) way.short);
        }

    pub leg_gated : (len : ℕ) (tail : List ℕ) → bit j c.gates.gated ≡ 1 → GateTail (at c.gates.slots j) (at slots j) len tail
        → TheLeg leave (hops g j) (at c.gates.slots j) len tail
    leg_gated len tail b t =
        let end : at c.ends j ≡ flip (at blocks j) (at c.gates.slots j) = s.planned.chose.end.end-gate j single b in
        record {
          row = j;
          goes = λ z. (at c.ends j, way.walk);
          first = λ z. ap (λ (l : List ℕ). get_or l 0 0) starts;
          leave_in = leave_in;
          last_in = s.planned.chose.below j;
          stays = λ z. absurd (some-hops z);
          few = omega (arith, gate-few t);
          whole = omega (arith, gate-few t, t.long);
          below = gate-below m (s.planned.chose.below j) slot_in t;
          role = λ d body k. inr (inr (
            b,
            inl (record {
              member = on;
              end = end;
              follows = refl;
              crosses = subst (λ (y : ℕ). Crosses m s0 leave y (at c.gates.slots j) (hops g j) body) end (ends_there d (at c.gates.slots j) body k);
              steps = gate-steps (s.planned.chose.gate j lt b).near t;
            }),
          ));
          room = λ h le z. omega (arith, blocks-room m (length (hops g j)) way.short, gate-few t);
        }

-- so many blocks, by another name
pub leg_long : {m s0 p0 k : ℕ} {blocks slots : List ℕ} {c : Choice} {o : Option taken.Taken} {g : List ℕ} {j leave last len : ℕ} {tail : List ℕ} (row n : ℕ) → n ≡ length (hops g row)
    → Leg m s0 p0 k blocks slots c o g j leave (hops g row) last len tail → Leg m s0 p0 k blocks slots c o g j leave (take n (hops g row)) last len tail
leg_long {g = g} row n e l = rw (take_all n (hops g row) (omega arith)) l
