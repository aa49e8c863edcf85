-- The leg of the target that takes over the block path of its crowd (`leg_taken`). Assumes nothing.
use Rattle.std.specs.Prelude.{ℕ, suc, ◌+◌, ◌-◌, ◌*◌, ◌^◌, ◌≤◌, ◌<◌, ◌≡◌, refl, ◌⊎◌, ◌≢◌, List, [], ◌∷◌, ◌++◌, Option, Some, None, length, get_or, take}
use Rattle.std.proofs.Common.{sym, ap, ◌∙◌, subst, inl, inr, ⊎_elim, mul-le-mul_right, mul-suc, mul_comm, arith, length-take, length-append, get_or-take, take_at}
use Rattle.cube_math.specs.Masks.{at}
use Rattle.bits.specs.Bit.{bit, flip}
use Rattle.bits.specs.Laws.{flip-flip, flip-eq}
use Rattle.cube_math.specs.Doors.{In, Way}
use Rattle.two_write.specs.Row.{hops}
use Rattle.two_math.specs.Relays.{Relay, in_append}
use Rattle.two_math.specs.Through.{Crosses}
use Rattle.two_math.specs.Plan.{Taken}
use Rattle.two_math.specs.Gates.{Near}
use Rattle.two_math.specs.Crowd.{met, met_gate}
use Rattle.two_math.specs.Loops.{last, crosses_last}
use Rattle.two_choose.specs.declared.Choice.{Choice}
use Rattle.two_takeover.specs.declared.Taken as taken
use Rattle.two_takeover.specs.TakeOver.{Takes}
use Rattle.two_write.specs.Blocks.{walk-take}
use Rattle.two_write.specs.Slots.{Below}
use Rattle.two_general.specs.Draft.{State, who_of, way_of, way-short}
use Rattle.two_general.specs.Legs.{Leg, slots-below, below_list}

few-room : (m n : ℕ) → n ≤ 2 ^ m → n * suc m ≤ m * 2 ^ m + 2 ^ m
few-room m n le = omega (arith, mul-le-mul_right (suc m) le, mul-suc (2 ^ m) m, mul_comm (2 ^ m) m)

module _ {m s0 p0 k : ℕ} {blocks slots : List ℕ} {c : Choice} {y : taken.Taken} {g : List ℕ} (s : State m s0 p0 k blocks slots c (Some y) g)
    (t : Takes m s0 p0 k blocks slots c.gates.slots c.gates.gated c.reps g y.who y.row y.enter y.tail.len y.tail.slots) where
  abbrev who : ℕ
  who = y.who

  abbrev row : ℕ
  row = 8 + t.r

  abbrev route : List ℕ
  route = t.enters.route

  on : bit row c.rows ≡ 1
  on = s.planned.chose.end.row_crowd t.r t.rep

  end : at c.ends row ≡ at blocks t.r
  end = s.planned.chose.end.end_crowd t.r t.rep

  way : Way (2 ^ m) (2 ^ (2 ^ m) - 1) s0 c.shut (at c.ends row) (hops g row)
  way = way_of s.planned row on

  size : length (hops g row) ≡ length route + 1
  size = ap length t.enters.splits ∙ length-append route (at blocks t.r ∷ [])

  -- all but the last block
  pub but_last : (n : ℕ) → n + 1 ≡ length (hops g row) → take n (hops g row) ≡ route
  but_last n e = ap (take n) t.enters.splits ∙ take_at route (at blocks t.r ∷ []) n (omega (arith, size))

  -- whatever crosses these ends before the crowd
  before : (d : ℕ) (body : List Relay) → Crosses m s0 p0 d y.enter route body → Crosses m s0 p0 (flip (at c.ends row) y.enter) y.enter route body
  before d body k =
      subst (λ (u : ℕ). Crosses m s0 p0 u y.enter route body)
      (sym (crosses_last m s0 p0 d y.enter route body k) ∙ sym (flip-flip (last s0 route) y.enter) ∙ ap (λ (u : ℕ). flip u y.enter) (sym (end ∙ t.enters.door))) k

  splits : hops g row ≡ route ++ (at c.ends row ∷ [])
  splits = t.enters.splits ∙ ap (λ (y : ℕ). route ++ (y ∷ [])) (sym end)

  made : (body : List Relay) → Crosses m s0 p0 (flip (at c.ends row) y.enter) y.enter route body
      → Taken m s0 p0 k (at blocks) (at slots) c.gates.gated c.rows who (at c.gates.slots) (at c.ends) (hops g) who p0 row route (take y.tail.len y.tail.slots) body
  made body cross = by t.tailed.ends
    where
      met_there : t.tailed.x ≡ at slots who → Taken m s0 p0 k (at blocks) (at slots) c.gates.gated c.rows who (at c.gates.slots) (at c.ends) (hops g) who p0 row route (y.enter ∷ t.tailed.cut) body
      met_there = met m s0 p0 k (at blocks) (at slots) c.gates.gated c.rows (at c.gates.slots) (at c.ends) (hops g) c.shut s.planned.asks.ask.differ s.planned.fan
          (λ j h q. (s.planned.chose.gate j h q).free) (λ j h q. (s.planned.chose.gate j h q).own) (λ j h q. (s.planned.chose.gate j h q).near) s.planned.asks.ask.slots
          row t.r on end y.enter route body splits cross t.tailed.cut t.tailed.short t.tailed.x t.tailed.cut t.tailed.cuts who t.tailed.within t.tailed.mine.0 t.tailed.mine.1 t.tailed.at_x

      met_before : t.tailed.x ≢ at slots who → Near m (at slots who) (at c.gates.slots who)
          → Taken m s0 p0 k (at blocks) (at slots) c.gates.gated c.rows who (at c.gates.slots) (at c.ends) (hops g) who p0 row route (y.enter ∷ (t.tailed.cut ++ (at slots who ∷ []))) body
      met_before ne (inl e) = absurd (⊎_elim (λ z. ne (z ∙ e)) ne t.tailed.at_x)
      met_before ne (inr (h, l, e)) = met_gate m s0 p0 k (at blocks) (at slots) c.gates.gated c.rows (at c.gates.slots) (at c.ends) (hops g) c.shut s.planned.asks.ask.differ s.planned.fan
          (λ j h q. (s.planned.chose.gate j h q).free) (λ j h q. (s.planned.chose.gate j h q).own) (λ j h q. (s.planned.chose.gate j h q).near) s.planned.asks.ask.slots
          row t.r on end y.enter route body splits cross t.tailed.cut t.tailed.short t.tailed.x t.tailed.cut t.tailed.cuts who t.tailed.within t.tailed.mine.0 t.tailed.mine.1 t.tailed.at_x ne h l e

      by : ((t.tailed.x ≡ at slots who) × (take y.tail.len y.tail.slots ≡ y.enter ∷ t.tailed.cut)) ⊎ ((t.tailed.x ≢ at slots who) × (take y.tail.len y.tail.slots ≡ y.enter ∷ (t.tailed.cut ++ (at slots who ∷ []))))
          → Taken m s0 p0 k (at blocks) (at slots) c.gates.gated c.rows who (at c.gates.slots) (at c.ends) (hops g) who p0 row route (take y.tail.len y.tail.slots) body
      by (inl (e, q)) = rw q (met_there e)
      by (inr (ne, q)) = rw q (met_before ne (s.planned.chose.gate who t.tailed.within t.tailed.mine.0).near)

  -- the slots of its tail
  tail-size : length (take y.tail.len y.tail.slots) ≡ y.tail.len
  tail-size = length-take y.tail.len y.tail.slots ∙ omega (arith, t.few, t.long)

  tail-few : y.tail.len ≤ m + 2
  tail-few = ⊎_elim
      (λ q. omega (arith, tail-size, ap length q.1, t.tailed.short))
      (λ q. omega (arith, tail-size, ap length q.1, length-append t.tailed.cut (at slots who ∷ []), t.tailed.short)) t.tailed.ends

  walked : (x : ℕ) → In x (y.enter ∷ t.tailed.cut) → x < 2 ^ m
  walked = slots-below m y.enter t.tailed.x t.tailed.cut t.enters.within t.tailed.cuts.walk

  tail-below : Below m y.tail.len y.tail.slots
  tail-below = ⊎_elim
      (λ q. below_list m y.tail.len y.tail.slots (y.enter ∷ t.tailed.cut) q.1 (omega (arith, t.few, t.long)) walked)
      (λ q. below_list m y.tail.len y.tail.slots (y.enter ∷ (t.tailed.cut ++ (at slots who ∷ []))) q.1 (omega (arith, t.few, t.long))
      (λ x i. ⊎_elim (walked x) (λ z. ⊎_elim (λ e. subst (λ (y : ℕ). y < 2 ^ m) (sym e) (s.planned.asks.slot who)) (λ w. absurd w) z)
      (in_append x (y.enter ∷ t.tailed.cut) (at slots who ∷ []) i))) t.tailed.ends

  few-rows : row < 16
  few-rows =
      let x = (s.planned.chose.end.reps_on t.r t.rep).0 in
      omega (arith, (s.planned.chose.sort.gated_on t.r x).0, s.planned.asks.ask.few, s.planned.asks.high)

  taken-size : (n : ℕ) → n + 1 ≡ length (hops g row) → length (take n (hops g row)) ≡ n
  taken-size n e = length-take n (hops g row) ∙ omega arith

  leg : (n : ℕ) → n + 1 ≡ length (hops g row) → Leg m s0 p0 k blocks slots c (Some y) g who p0 (take n (hops g row)) y.enter y.tail.len y.tail.slots
  leg n e = record {
    row = row;
    goes = λ z. walk-take (2 ^ (2 ^ m) - 1) n s0 (at c.ends row) (hops g row) way.walk;
    first = λ z. let lt : 0 < n = omega (arith, taken-size n e) in rw (get_or-take n (hops g row) 0 0 lt) (ap (λ (l : List ℕ). get_or l 0 0) t.first);
    leave_in = s.planned.asks.ask.home-slot;
    last_in = t.enters.within;
    stays = λ z. enters-home n e (omega (arith, taken-size n e));
    few = omega (arith, t.few);
    whole = omega (arith, t.few, t.long);
    below = tail-below;
    role = λ d body k.
        let k₁ : Crosses m s0 p0 d y.enter route body = subst (λ (l : List ℕ). Crosses m s0 p0 d y.enter l body) (but_last n e) k in
        rw (but_last n e) (inr (inr (t.tailed.mine.0, inr (inr (made body (before d body k₁))))));
    room = λ h le z. omega (arith, z refl, few-room m n (omega (arith, way.short)), tail-few, ap (λ (u : ℕ). u * suc m) (taken-size n e));
  }
    where
      -- one block: it is entered by p0 itself
      enters-home : (n : ℕ) → n + 1 ≡ length (hops g row) → n ≡ 0 → p0 ≡ y.enter
      enters-home n e z = flip-eq s0 p0 y.enter (one route (omega (arith, size)) t.enters.splits t.enters.door)
        where
          one : (r : List ℕ) → length r ≡ 0 → hops g row ≡ r ++ (at blocks t.r ∷ []) → at blocks t.r ≡ flip (last s0 r) y.enter → flip s0 p0 ≡ flip s0 y.enter
          one [] h q d = let f : flip s0 p0 ∷ t.rest ≡ at blocks t.r ∷ [] = sym t.first ∙ q in let x : flip s0 p0 ≡ at blocks t.r = cc in x ∙ d
          one (x ∷ r) h q d = absurd (omega arith)

  pub leg_taken : (j leave row₁ n : ℕ) → j ≡ who → leave ≡ p0 → row₁ ≡ y.row → n + 1 ≡ length (hops g row₁)
      → Leg m s0 p0 k blocks slots c (Some y) g j leave (take n (hops g row₁)) y.enter y.tail.len y.tail.slots
  leg_taken j leave row₁ n ej el er en =
      let at_row : row₁ ≡ row = er ∙ t.row_is in
      subst (λ (u : ℕ). Leg m s0 p0 k blocks slots c (Some y) g u leave (take n (hops g row₁)) y.enter y.tail.len y.tail.slots) (sym ej)
      (subst (λ (u : ℕ). Leg m s0 p0 k blocks slots c (Some y) g who u (take n (hops g row₁)) y.enter y.tail.len y.tail.slots) (sym el)
      (subst (λ (u : ℕ). Leg m s0 p0 k blocks slots c (Some y) g who p0 (take n (hops g u)) y.enter y.tail.len y.tail.slots) (sym at_row) (leg n (en ∙ ap (λ (u : ℕ). length (hops g u)) at_row))))

  -- its row can be read
  pub taken_row : (y.row < 16) × (length (hops g y.row) < 34) × (0 < length (hops g y.row))
  taken_row = rw t.row_is (few-rows, way-short s.planned row on, omega (arith, size))

module _ {m s0 p0 k : ℕ} {blocks slots : List ℕ} {c : Choice} {o : Option taken.Taken} {y : taken.Taken} {g : List ℕ} (is : o ≡ Some y) (s : State m s0 p0 k blocks slots c o g) where
  some_state : State m s0 p0 k blocks slots c (Some y) g
  some_state = subst (λ (x : Option taken.Taken). State m s0 p0 k blocks slots c x g) is s

  takes : Takes m s0 p0 k blocks slots c.gates.slots c.gates.gated c.reps g y.who y.row y.enter y.tail.len y.tail.slots
  takes = s.over.someone y is

  -- whoever takes over does, and its row can be read
  pub over_row : (y.row < 16) × (length (hops g y.row) < 34) × (0 < length (hops g y.row))
  over_row = taken_row some_state takes

  pub over_leg : (j leave n : ℕ) → j ≡ y.who → leave ≡ p0 → n + 1 ≡ length (hops g y.row) → Leg m s0 p0 k blocks slots c o g j leave (take n (hops g y.row)) y.enter y.tail.len y.tail.slots
  over_leg j leave n e l q =
      subst (λ (x : Option taken.Taken). Leg m s0 p0 k blocks slots c x g j leave (take n (hops g y.row)) y.enter y.tail.len y.tail.slots) (sym is) (leg_taken some_state takes j leave y.row n e l refl q)

-- a target that is who takes over does
pub takes_over : {m s0 p0 k : ℕ} {blocks slots : List ℕ} {c : Choice} {o : Option taken.Taken} {g : List ℕ} {j : ℕ} → State m s0 p0 k blocks slots c o g → j < k → j ≡ who_of o
    → (y : taken.Taken) × (o ≡ Some y) × Takes m s0 p0 k blocks slots c.gates.slots c.gates.gated c.reps g y.who y.row y.enter y.tail.len y.tail.slots
takes_over {o = None} s lt e = absurd (omega (arith, s.planned.asks.ask.few, s.planned.asks.high))
takes_over {o = Some y} s lt e = (y, refl, s.over.someone y refl)
