-- The heads: each path's leg has relays that cross its blocks, so all parts are drafted, and a cube fan leads to the slots by which the paths leave
-- (`heads_ask`). Assumes nothing.
use Rattle.std.specs.Prelude.{ℕ, zero, suc, ◌+◌, ◌-◌, ◌^◌, ◌≤◌, ◌<◌, ◌≡◌, refl, ◌⊎◌, ◌≢◌, List, [], ◌∷◌, Option, Some, None, length, get_or, take}
use Rattle.std.proofs.Common.{sym, ap, subst, inl, inr, arith}
use Rattle.std.proofs.Math.Decide.{ℕ_discrete}
use Rattle.std.specs.Int.Count.{ones-ones}
use Rattle.cube_math.specs.Masks.{at}
use Rattle.bits.specs.Bit.{bit, flip}
use Rattle.bits.specs.Laws.{bit-cases, lt-or-le}
use Rattle.cube_math.specs.Doors.{Walk}
use Rattle.cube_math.specs.Choose.{Chosen}
use Rattle.cube_math.specs.Plain.{full-below}
use Rattle.two_math.specs.Relays.{Relay}
use Rattle.two_math.specs.Through.{Crosses, through}
use Rattle.two_math.specs.Plan.{Role, Draft}
use Rattle.two_math.specs.Shut.{some-row}
use Rattle.two_math.proofs.Roles.{drafted, heads_request}
use Rattle.two_math.specs.Someone.{someone, few-walk}
use Rattle.two_math.specs.Loops.{last}
use Rattle.two_choose.specs.declared.Choice.{Choice}
use Rattle.two_takeover.specs.declared.Taken as taken
use Rattle.two_write.specs.Row.{hops}
use Rattle.two_rows.specs.Rows.{Ask}
use Rattle.two_general.specs.Draft.{State, who_of, Leaves}
use Rattle.two_general.specs.Legs.{Leg, GateTail, leg_inner, leg_straight, leg_direct, leg_gated}
use Rattle.two_general.specs.TakenLeg.{leg_taken, taken_row}

-- a walk cut short
walk-take : (free u t n : ℕ) (l : List ℕ) → Walk free u t l → Walk free u (last u (take n l)) (take n l)
walk-take free u t zero [] w = refl
walk-take free u t zero (v ∷ l) w = refl
walk-take free u t (suc n) [] w = refl
walk-take free u t (suc n) (v ∷ l) w = (w.0, w.1, w.2, walk-take free v t n l w.3)

-- ---- any leg can be walked

-- the blocks of a walk, left by its first move
body_of : (m s0 leave last₁ : ℕ) (r : List ℕ) → (length r ≡ 0 → leave ≡ last₁) → (0 < length r → (end : ℕ) × Walk (2 ^ (2 ^ m) - 1) s0 end r) → (0 < length r → get_or r 0 0 ≡ flip s0 leave)
    → leave < 2 ^ m → last₁ < 2 ^ m → (d : ℕ) × (body : List Relay) × Crosses m s0 leave d last₁ r body
body_of m s0 leave last₁ [] stays goes first a b = (s0, [], (refl, stays refl, refl))
body_of m s0 leave last₁ (x ∷ r) stays goes first a b =
    let w = goes (omega arith) in
    let t = through m s0 leave w.0 last₁ (x ∷ r) w.1 a b x r refl (first (omega arith)) in
    (w.0, t.0, t.1)

-- so are those of a leg
some-body : {m s0 p0 k : ℕ} {blocks slots : List ℕ} {c : Choice} {o : Option taken.Taken} {g : List ℕ} {j leave : ℕ} {path : List ℕ} {last₁ len : ℕ} {tail : List ℕ}
    → Leg m s0 p0 k blocks slots c o g j leave path last₁ len tail → (d : ℕ) × (body : List Relay) × Crosses m s0 leave d last₁ path body
some-body {m} {s0} {leave = leave} {path = path} {last₁ = last₁} l = body_of m s0 leave last₁ path l.stays l.goes l.first l.leave_in l.last_in

pub some_role : {m s0 p0 k : ℕ} {blocks slots : List ℕ} {c : Choice} {o : Option taken.Taken} {g : List ℕ} {j leave : ℕ} {path : List ℕ} {last₁ len : ℕ} {tail : List ℕ}
    → Leg m s0 p0 k blocks slots c o g j leave path last₁ len tail → (row : ℕ) × (route tail : List ℕ) × (body : List Relay)
    × Role m s0 p0 k (at blocks) (at slots) c.gates.gated c.rows (who_of o) (at c.gates.slots) (at c.ends) (hops g) j leave row route tail body
some_role {m} {s0} {p0} {k} {blocks} {slots} {c} {o} {g} {j} {leave} {path} {last₁} {len} {tail} l =
    let b = some-body l in
    (l.row, path, take len tail, b.1, l.role b.0 b.1 b.2)

-- ---- each target has a leg

eight : ℕ → ℕ → List ℕ
eight a b = a ∷ b ∷ 0 ∷ 0 ∷ 0 ∷ 0 ∷ 0 ∷ 0 ∷ []

some-tail : (gate slot : ℕ) → (len : ℕ) × (tail : List ℕ) × GateTail gate slot len tail
unfolding eight
some-tail gate slot = by (ℕ_discrete gate slot)
  where
    by : Dec (gate ≡ slot) → (len : ℕ) × (tail : List ℕ) × GateTail gate slot len tail
    by (yes e) = (1, eight gate slot, record { long = refl; is = inl (e, refl, refl) })
    by (no ne) = (2, eight gate slot, record { long = refl; is = inr (ne, refl, refl) })

-- the leg of the target that takes over
taken_role : {m s0 p0 k : ℕ} {blocks slots : List ℕ} {c : Choice} {g : List ℕ} (o : Option taken.Taken) → State m s0 p0 k blocks slots c o g → (j leave : ℕ) → j < k → j ≡ who_of o → leave ≡ p0
    → (row : ℕ) × (route tail : List ℕ) × (body : List Relay)
    × Role m s0 p0 k (at blocks) (at slots) c.gates.gated c.rows (who_of o) (at c.gates.slots) (at c.ends) (hops g) j leave row route tail body
taken_role None s j leave lt q e = absurd (omega (arith, s.planned.asks.ask.few, s.planned.asks.high))
taken_role {g = g} (Some y) s j leave lt q e =
    let t = s.over.someone y refl in
    some_role (leg_taken s t j leave y.row (length (hops g y.row) - 1) q e refl (omega (arith, (taken_row s t).2)))

module _ {m s0 p0 k : ℕ} {blocks slots : List ℕ} {c : Choice} {o : Option taken.Taken} {g : List ℕ} (s : State m s0 p0 k blocks slots c o g) where
  abbrev Part : (j leave : ℕ) → Type 0
  Part j leave = (row : ℕ) × (route tail : List ℕ) × (body : List Relay)
      × Role m s0 p0 k (at blocks) (at slots) c.gates.gated c.rows (who_of o) (at c.gates.slots) (at c.ends) (hops g) j leave row route tail body

  part : (j leave : ℕ) → j < k → Leaves s0 p0 slots c o g j leave → Part j leave
  part j leave lt e = by (ℕ_discrete j (who_of o)) (bit-cases j c.inner) (bit-cases j c.straight) (bit-cases j c.gates.gated)
    where
      by : Dec (j ≡ (who_of o)) → (bit j c.inner ≡ 0) ⊎ (bit j c.inner ≡ 1) → (bit j c.straight ≡ 0) ⊎ (bit j c.straight ≡ 1) → (bit j c.gates.gated ≡ 0) ⊎ (bit j c.gates.gated ≡ 1) → Part j leave
      by (yes q) a b d = taken_role o s j leave lt q (e.taken q)
      by (no q) (inr a) b d = some_role (leg_inner s j lt leave [] a (e.inner q a))
      by (no q) (inl a) (inr b) d = let t = some-tail (at c.gates.slots j) (at slots j) in some_role (leg_straight s j lt leave t.0 t.1 b (e.straight q a b) t.2)
      by (no q) (inl a) (inl b) (inl d) = let f = e.single q a b in some_role (leg_direct s j lt a b leave f.0 f.1 [] d q)
      by (no q) (inl a) (inl b) (inr d) =
          let f = e.single q a b in
          let t = some-tail (at c.gates.slots j) (at slots j) in
          some_role (leg_gated s j lt a b leave f.0 f.1 t.0 t.1 d t.2)

  module _ (leaves : List ℕ) (e : (j : ℕ) → j < k → Leaves s0 p0 slots c o g j (at leaves j)) where
    part-or : (j : ℕ) → (j < k) ⊎ (k ≤ j) → (row : ℕ) × (route tail : List ℕ) × (body : List Relay)
        × (j < k → Role m s0 p0 k (at blocks) (at slots) c.gates.gated c.rows (who_of o) (at c.gates.slots) (at c.ends) (hops g) j (at leaves j) row route tail body)
    part-or j (inl h) = let x = part j (at leaves j) h (e j h) in (x.0, x.1, x.2, x.3, λ l. x.4)
    part-or j (inr h) = (0, [], [], [], λ l. absurd (omega arith))

    abbrev piece : (j : ℕ) → (row : ℕ) × (route tail : List ℕ) × (body : List Relay)
        × (j < k → Role m s0 p0 k (at blocks) (at slots) c.gates.gated c.rows (who_of o) (at c.gates.slots) (at c.ends) (hops g) j (at leaves j) row route tail body)
    piece j = part-or j (lt-or-le j k)

    draft : Draft m s0 p0 k (at blocks) (at slots) c.gates.gated c.rows (who_of o) (at c.gates.slots) (at c.ends) (hops g) c.shut (at leaves)
        (λ j. (piece j).0) (λ j. (piece j).1) (λ j. (piece j).2) (λ j. (piece j).3)
    draft =
        let h = s.planned.chose in
        drafted s.planned.asks.ask h.sort h.gate h.keeps h.end (who_of o) (hops g) h.shuts s.planned.fan (λ j l. (piece j).4 l)

    -- one path leaves by p0, or there are few
    someone_home : (k ≤ m) ⊎ ((j : ℕ) × (j < k) × (at blocks j ≢ s0)) → (k ≤ m) ⊎ ((j : ℕ) × (j < k) × (at leaves j ≡ p0))
    someone_home (inl h) = inl h
    someone_home (inr (j, l, ne)) =
        let h = s.planned.chose in
        inr (someone s.planned.asks.ask h.sort h.keeps h.end draft h.gate h.shuts (some-row s.planned.asks.ask h.sort h.gate h.keeps h.end j l ne)
        (λ r l b q. taker o refl r l b q))
      where
        taker : (x : Option taken.Taken) → o ≡ x → (r : ℕ) (l : List ℕ) → bit r c.reps ≡ 1 → hops g (8 + r) ≡ flip s0 p0 ∷ l → (j : ℕ) × (j < k) × (at leaves j ≡ p0)
        taker None z r l b q = absurd (s.over.nobody z r l b q)
        taker (Some y) z r l b q = let t = s.over.someone y z in (y.who, t.tailed.within, (e y.who t.tailed.within).taken (sym (ap who_of z)))

    module _ {walkers : ℕ} (w : Chosen (λ j. at leaves j ≢ p0) (λ j. at leaves j ≡ p0) (2 ^ k - 1) walkers) where
      on : (j : ℕ) → bit j walkers ≡ 1 → (j < k) × (at leaves j ≢ p0)
      on j b = (full-below k j (w.sub j b), w.holds j b)

      pub heads_ask : (k ≤ m) ⊎ ((j : ℕ) × (j < k) × (at blocks j ≢ s0)) → (free : ℕ) → free ≡ 2 ^ m - 1 → Ask free p0 0 walkers leaves
      heads_ask some free ef =
          let h = s.planned.chose in
          subst (λ (y : ℕ). Ask y p0 0 walkers leaves) (sym ef) (record {
            request = heads_request s.planned.asks.ask h.sort h.gate h.keeps h.end (who_of o) (hops g) h.shuts draft walkers on
                (few-walk m p0 k walkers (at leaves) s.planned.asks.ask.few on (someone_home some));
            small = omega (arith, ones-ones m, s.planned.asks.high);
            few = λ j b. omega (arith, (on j b).0, s.planned.asks.ask.few, s.planned.asks.high);
          })
