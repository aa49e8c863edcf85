-- The search for whoever takes over, whole: what may be asked (`OverAsk`), and what it gives (`Over`). Assumes nothing.
use Rattle.std.specs.Prelude.{ℕ, ◌+◌, ◌-◌, ◌^◌, ◌≤◌, ◌<◌, ◌≡◌, refl, List, ◌∷◌, Option, Some, None, length, take}
use Rattle.std.proofs.Common.{sym, ap, ◌∙◌, subst, inr, arith}
use Rattle.cube_math.specs.Masks.{at}
use Rattle.bits.specs.Bit.{bit, flip}
use Rattle.cube_math.specs.Doors.{Walk}
use Rattle.two_write.specs.Row.{hops}
use Rattle.two_takeover.specs.declared.Taken.{Taken}
use Rattle.two_takeover.specs.Over.{Crowds, CrowdBy, LastAsk, Enters}
use Rattle.two_takeover.specs.Tail.{TailAsk, Tailed}

pub record OverAsk (m s0 p0 k : ℕ) (blocks slots gates : List ℕ) (gated reps : ℕ) (g : List ℕ) : Type 0 where
  pub order : m ≤ 5
  pub few : k < 8
  pub home : p0 < 2 ^ m
  pub crowds : Crowds reps g
  pub walk : (r : ℕ) → bit r reps ≡ 1 → Walk (2 ^ (2 ^ m) - 1) s0 (at blocks r) (hops g (8 + r))
  pub member : (r : ℕ) → bit r reps ≡ 1 → (r < k) × (bit r gated ≡ 1)
  pub slot : (i : ℕ) → i < k → at slots i < 2 ^ m

-- `who` takes over the block path `row`, of the crowd of r, which it enters by the slot `enter`
pub record Takes (m s0 p0 k : ℕ) (blocks slots gates : List ℕ) (gated reps : ℕ) (g : List ℕ) (who row enter len : ℕ) (tail : List ℕ) : Type 0 where
  pub r : ℕ
  pub rep : bit r reps ≡ 1
  pub row_is : row ≡ 8 + r
  pub rest : List ℕ
  pub first : hops g (8 + r) ≡ flip s0 p0 ∷ rest
  pub enters : Enters m s0 (at blocks r) g (8 + r) enter
  pub tailed : Tailed m k (at blocks) (at slots) (at gates) gated (at blocks r) enter who (take len tail)
  pub few : len ≤ 7
  pub long : length tail ≡ 8

pub record Over (m s0 p0 k : ℕ) (blocks slots gates : List ℕ) (gated reps : ℕ) (g : List ℕ) (o : Option Taken) : Type 0 where
  pub nobody : o ≡ None → (q : ℕ) (l : List ℕ) → bit q reps ≡ 1 → hops g (8 + q) ≡ flip s0 p0 ∷ l → ⊥
  pub someone : (t : Taken) → o ≡ Some t → Takes m s0 p0 k blocks slots gates gated reps g t.who t.row t.enter t.tail.len t.tail.slots

module _ {m s0 p0 k : ℕ} {blocks slots gates : List ℕ} {gated reps : ℕ} {g : List ℕ} (a : OverAsk m s0 p0 k blocks slots gates gated reps g) where
  -- no crowd's block path begins behind that door: nobody takes over
  pub over_none : {front : ℕ} {o : Option ℕ} → front ≡ flip s0 p0 → CrowdBy reps front g o → o ≡ None → Over m s0 p0 k blocks slots gates gated reps g None
  over_none {front} e c z = record {
    nobody = λ w q l o h. c.none z q l o (h ∙ ap (λ (y : ℕ). y ∷ l) (sym e));
    someone = λ t w. cc;
  }

  module _ {front r : ℕ} {o : Option ℕ} (e : front ≡ flip s0 p0) (c : CrowdBy reps front g o) (is : o ≡ Some r) where
    pub small : r < 8
    small = a.crowds.few r (c.found r is).0

    -- what the search for its last slot and for its tail asks
    pub last_ask : LastAsk m s0 p0 (at blocks r) g (8 + r)
    last_ask =
        let f = c.found r is in
        record {
          row_in = omega (arith, small);
          short = a.crowds.short r f.0;
          walk = a.walk r f.0;
          rest = f.1.0;
          first = f.1.1 ∙ ap (λ (y : ℕ). y ∷ f.1.0) e;
          home = a.home;
        }

    pub tail_ask : {enter : ℕ} → Enters m s0 (at blocks r) g (8 + r) enter → TailAsk m k (at blocks) (at slots) (at gates) gated (at blocks r) enter (at slots r)
    tail_ask n =
        let x = a.member r (c.found r is).0 in
        record {
          order = a.order;
          few = a.few;
          from = n.within;
          goal = a.slot r x.0;
          hit = (r, x.0, (x.1, refl, inr refl));
          slots = a.slot;
        }

    -- a crowd's block path does: the first who is met there takes over
    pub over-some : {t : Taken} → t.row ≡ 8 + r → Enters m s0 (at blocks r) g (8 + r) t.enter
        → Tailed m k (at blocks) (at slots) (at gates) gated (at blocks r) t.enter t.who (take t.tail.len t.tail.slots) → t.tail.len ≤ 7 → length t.tail.slots ≡ 8
        → Over m s0 p0 k blocks slots gates gated reps g (Some t)
    over-some {t} row n tailed h q =
        let f = c.found r is in
        let taken : Takes m s0 p0 k blocks slots gates gated reps g t.who t.row t.enter t.tail.len t.tail.slots = record {
          r = r;
          rep = f.0;
          row_is = row;
          rest = f.1.0;
          first = f.1.1 ∙ ap (λ (y : ℕ). y ∷ f.1.0) e;
          enters = n;
          tailed = tailed;
          few = h;
          long = q;
        } in
        record {
          nobody = λ z. cc;
          someone = λ y w. let same : t ≡ y = cc in subst (λ (y : Taken). Takes m s0 p0 k blocks slots gates gated reps g y.who y.row y.enter y.tail.len y.tail.slots) same taken;
        }
