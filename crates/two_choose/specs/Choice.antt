-- The choices of the planner, as the code makes them: what each function may be asked and what it gives. Assumes nothing.
use Rattle.std.specs.Prelude.{ℕ, zero, suc, ◌+◌, ◌-◌, ◌^◌, ◌≤◌, ◌<◌, ◌≡◌, refl, ◌⊎◌, ◌≢◌, List, Bool, true, false, length, set, replicate}
use Rattle.std.proofs.Common.{sym, ap, ◌∙◌, subst, inl, inr, ⊎_elim, arith, length-set, pow_pos, get_or-set_same, get_or-set_other}
use Rattle.std.proofs.Math.Decide.{ℕ_discrete}
use Rattle.std.specs.Int.Bits.{bit_or}
use Rattle.cube_math.specs.Masks.{at}
use Rattle.bits.specs.Bit.{bit, flip}
use Rattle.bits.specs.Laws.{bit-none, clash, flip-other, bit-pow-same, pow-bit, flip-lt, same_or}
use Rattle.cube_math.specs.Choose.{Chosen, cleared, or-on, or_left, or_right}
use Rattle.two_math.specs.Gates.{Gates, Near, gates_more}
use Rattle.two_math.specs.Sort.{Behind, Shared}
use Rattle.two_gate.specs.Says.{Tells, tells_no, tells_yes, Search, Serves}

-- ---- who needs a gate

abbrev pub IsGated : (s0 k : ℕ) (tb : ℕ → ℕ) (kept j : ℕ) → Type 0
IsGated s0 k tb kept j = (tb j ≢ s0) × (Shared k tb j ⊎ Behind s0 kept (tb j))

-- j stands alone and behind no kept door
abbrev pub Plain : (s0 k : ℕ) (tb : ℕ → ℕ) (kept j : ℕ) → Type 0
Plain s0 k tb kept j = tb j ≢ s0 → ((i : ℕ) → i < k → i ≢ j → tb i ≢ tb j) × ((a : ℕ) → bit a kept ≡ 1 → tb j ≢ flip s0 a)

-- those of the first n targets that need a gate
abbrev pub Gated : (s0 k : ℕ) (tb : ℕ → ℕ) (kept n r : ℕ) → Type 0
Gated s0 k tb kept n r = Chosen (IsGated s0 k tb kept) (Plain s0 k tb kept) (2 ^ n - 1) r

module _ (s0 k : ℕ) (tb : ℕ → ℕ) (kept j : ℕ) where
  pub not_gated : (IsGated s0 k tb kept j → ⊥) → Plain s0 k tb kept j
  not_gated n ne = ((λ i h d e. n (ne, inl (i, h, d, e))), (λ a o e. n (ne, inr (a, o, e))))

  -- what tells it: a target at home, one that shares its block, and else a door
  pub gated_home : tb j ≡ s0 → Tells (IsGated s0 k tb kept j) false
  gated_home e = tells_no (λ z. z.0 e)

  pub gated_shared : tb j ≢ s0 → Shared k tb j → Tells (IsGated s0 k tb kept j) true
  gated_shared ne s = tells_yes (ne, inl s)

  pub gated_behind : {r : Bool} → tb j ≢ s0 → (Shared k tb j → ⊥) → Tells (Behind s0 kept (tb j)) r → Tells (IsGated s0 k tb kept j) r
  gated_behind ne n t = record { so = λ e. (ne, inr (t.so e)); not = λ e z. ⊎_elim n (t.not e) z.1 }

-- those of the first n targets whose block is behind a door of the set
abbrev pub Hidden : (s0 : ℕ) (tb : ℕ → ℕ) (doors n r : ℕ) → Type 0
Hidden s0 tb doors n r = Chosen (λ j. Behind s0 doors (tb j)) (λ j. (a : ℕ) → bit a doors ≡ 1 → tb j ≢ flip s0 a) (2 ^ n - 1) r

-- ---- gates

pub record GateAsk (m s0 k : ℕ) (blocks slots : List ℕ) (gated : ℕ) : Type 0 where
  pub order : m ≤ 5
  pub few : k ≤ m + 1
  pub slot : (i : ℕ) → at slots i < 2 ^ m
  pub differ : (a b : ℕ) → a < k → b < k → a ≢ b → at blocks a ≡ at blocks b → at slots a ≢ at slots b
  pub member : (j : ℕ) → bit j gated ≡ 1 → (j < k) × (at blocks j ≢ s0)

pub record GateAll (m s0 k : ℕ) (blocks slots : List ℕ) (gated : ℕ) (gates : List ℕ) : Type 0 where
  pub gate : Gates m s0 k (at blocks) (at slots) gated (at gates)
  pub below : (i : ℕ) → at gates i < 2 ^ m

-- gates for `done`, and `todo` are left
pub record Gating (m s0 k : ℕ) (blocks slots : List ℕ) (gated : ℕ) (gates : List ℕ) (done todo : ℕ) : Type 0 where
  pub gate : Gates m s0 k (at blocks) (at slots) done (at gates)
  pub below : (i : ℕ) → at gates i < 2 ^ m
  pub long : length gates ≡ 8
  pub ahead : (j : ℕ) → bit j todo ≡ 1 → bit j gated ≡ 1
  pub all : (j : ℕ) → bit j gated ≡ 1 → bit j todo ≡ 0 → bit j done ≡ 1

-- the slot of a gate is one of the block
pub near-below : {m p q : ℕ} → p < 2 ^ m → Near m p q → q < 2 ^ m
near-below {m} {p} {q} h (inl e) = subst (λ (y : ℕ). y < 2 ^ m) (sym e) h
near-below {m} {p} {q} h (inr e) = subst (λ (y : ℕ). y < 2 ^ m) (sym e.2) (flip-lt m p e.0 h e.1)

module _ {m s0 k : ℕ} {blocks slots : List ℕ} {gated : ℕ} (ask : GateAsk m s0 k blocks slots gated) where
  pub gating_search : {gates : List ℕ} {done todo : ℕ} (j : ℕ) → Gating m s0 k blocks slots gated gates done todo → bit j todo ≡ 1 → Search m s0 k blocks slots done gates j
  gating_search j g o =
      let x = ask.member j (g.ahead j o) in
      record { order = ask.order; few = ask.few; slot = ask.slot; gate = g.below; differ = ask.differ; before = g.gate; lt = x.0; outer = x.1 }

  pub gating_more : {gates : List ℕ} {done todo : ℕ} (j q pw next : ℕ) → Gating m s0 k blocks slots gated gates done todo → bit j todo ≡ 1
      → Serves m s0 k blocks slots done gates j q → pw ≡ 2 ^ j → next ≡ flip todo j → Gating m s0 k blocks slots gated (set gates j q) (bit_or done pw) next
  gating_more {gates} {done} {todo} j q pw next g o s ep en =
      let small : j < length gates = omega (arith, (ask.member j (g.ahead j o)).0, ask.few, ask.order, g.long) in
      subst (λ (y : ℕ). Gating m s0 k blocks slots gated (set gates j q) (bit_or done pw) y) (sym en)
      (subst (λ (y : ℕ). Gating m s0 k blocks slots gated (set gates j q) (bit_or done y) (flip todo j)) (sym ep) (record {
        gate = gates_more m s0 k (at blocks) (at slots) done (bit_or done (2 ^ j)) j q (at gates) (at (set gates j q)) g.gate (ask.member j (g.ahead j o)).0
            (λ i p ne. ⊎_elim (λ z. z) (λ z. absurd (ne (pow-bit i j z))) (or-on i done (2 ^ j) p)) (get_or-set_same gates j q 0 small) (λ i ne. get_or-set_other gates j i q 0 ne) s;
        below = λ i. by i (ℕ_discrete i j) small;
        long = length-set gates j q ∙ g.long;
        ahead = λ i p. g.ahead i (cleared todo j o i p).0;
        all = λ i p z. ⊎_elim (λ e. ap (λ (y : ℕ). bit y (bit_or done (2 ^ j))) e ∙ or_right j done (2 ^ j) (bit-pow-same j))
            (λ ne. or_left i done (2 ^ j) (g.all i p (sym (flip-other todo j i ne) ∙ z))) (same_or i j);
      }))
    where
      by : (i : ℕ) → Dec (i ≡ j) → j < length gates → at (set gates j q) i < 2 ^ m
      by i (yes e) h = subst (λ (y : ℕ). y < 2 ^ m) (sym (ap (at (set gates j q)) e ∙ get_or-set_same gates j q 0 h)) (near-below (ask.slot j) s.near)
      by i (no ne) h = subst (λ (y : ℕ). y < 2 ^ m) (sym (get_or-set_other gates j i q 0 ne)) (g.below i)

  pub gating_done : {gates : List ℕ} {done : ℕ} → Gating m s0 k blocks slots gated gates done 0 → GateAll m s0 k blocks slots gated gates
  gating_done {gates} {done} g = record {
    gate = λ j h o. let p = g.gate j h (g.all j o (bit-none j)) in record {
      outer = p.outer;
      near = p.near;
      holds_none = p.holds_none;
      free = p.free;
      shy = p.shy;
      own = λ i l ne z. p.own i l ne (g.all i z (bit-none i));
    };
    below = g.below;
  }

  pub gating_none : {gates : List ℕ} → gates ≡ replicate 8 0 → Gating m s0 k blocks slots gated gates 0 gated
  gating_none {gates} e = record {
    gate = λ j h o. absurd (clash (bit-none j) o);
    below = λ i. omega (arith, zeros 8 i, ap (λ (l : List ℕ). at l i) e, pow_pos m);
    long = ap length e;
    ahead = λ j o. o;
    all = λ j o z. absurd (clash z o);
  }
    where
      zeros : (n i : ℕ) → at (replicate n 0) i ≡ 0
      zeros zero i = refl
      zeros (suc n) zero = refl
      zeros (suc n) (suc i) = zeros n i

  pub gating_small : {gates : List ℕ} {done todo : ℕ} (j : ℕ) → Gating m s0 k blocks slots gated gates done todo → bit j todo ≡ 1 → j < 8
  gating_small j g o = omega (arith, (ask.member j (g.ahead j o)).0, ask.few, ask.order)
