-- Rows begun with their targets, and the cube fan that fills them. Assumes nothing.
use Rattle.std.specs.Prelude.{ℕ, ◌≤◌, ◌<◌, ◌≡◌, ◌≢◌, List, [], ◌∷◌, length}
use Rattle.std.proofs.Common.{sym, ap, ◌∙◌, subst, inl, inr, ⊎_elim, arith}
use Rattle.std.specs.Int.Count.{ones}
use Rattle.cube_math.specs.Masks.{at}
use Rattle.bits.specs.Bit.{bit, flip}
use Rattle.bits.specs.Laws.{bit-none, clash, flip-other, ones_clear, same_or}
use Rattle.cube_math.specs.Doors.{Doors}
use Rattle.cube_math.specs.Choose.{cleared}
use Rattle.cube_math.specs.Request.{Request, request_same, doors_same}
use Rattle.cube_rows.specs.Grid.{Sets, target, lone-target, hops-same, rows_apart}
use Rattle.cube_split.specs.Plan.{Asked, Planned}
use Rattle.two_write.specs.Row.{hops}

-- every member is a row
abbrev pub Few : ℕ → Type 0
Few set = (j : ℕ) → bit j set ≡ 1 → j < 16

-- the rows of the set hold their targets, but those still to come
pub record Started (set : ℕ) (to : List ℕ) (todo : ℕ) (g : List ℕ) : Type 0 where
  pub ahead : (j : ℕ) → bit j todo ≡ 1 → bit j set ≡ 1
  pub is : (j : ℕ) → bit j set ≡ 1 → bit j todo ≡ 0 → hops g j ≡ at to j ∷ []
  pub long : length g ≡ 560

pub started_none : (set : ℕ) (to g : List ℕ) → length g ≡ 560 → Started set to set g
started_none set to g e = record { ahead = λ j o. o; is = λ j o z. absurd (clash z o); long = e }

pub started_more : {set : ℕ} {to : List ℕ} {todo : ℕ} {g : List ℕ} (j next : ℕ) (h : List ℕ) → Started set to todo g → bit j todo ≡ 1 → Sets 35 g h j (at to j ∷ [])
    → length h ≡ length g → next ≡ flip todo j → Started set to next h
started_more {set} {to} {todo} {g} j next h s o w l e = subst (λ (y : ℕ). Started set to y h) (sym e) (record {
  ahead = λ i p. s.ahead i (cleared todo j o i p).0;
  is = λ i p z. ⊎_elim (λ q. ap (hops h) q ∙ w.is ∙ ap (λ (y : ℕ). at to y ∷ []) (sym q))
      (λ ne. kept i ne ∙ s.is i p (sym (flip-other todo j i ne) ∙ z)) (same_or i j);
  long = l ∙ s.long;
})
  where
    kept : (i : ℕ) → i ≢ j → hops h i ≡ hops g i
    kept i ne = hops-same 35 i g h (λ x lo hi. w.only.out x (⊎_elim (λ z. inl (omega arith)) (λ z. inr (omega arith)) (rows_apart i j 35 ne)))

pub fewer : (todo j next : ℕ) → bit j todo ≡ 1 → next ≡ flip todo j → ones next < ones todo
fewer todo j next o e = omega (arith, ones_clear j todo o, ap ones e)

-- ---- the fan

pub record Ask (free s shut set : ℕ) (to : List ℕ) : Type 0 where
  pub request : Request free s shut set (at to)
  pub small : ones free ≤ 32
  pub few : Few set

pub record Gives (free s shut set : ℕ) (to g : List ℕ) : Type 0 where
  pub fan : Doors (ones free) free s shut set (at to) (hops g)
  pub long : length g ≡ 560

module _ {free s shut set : ℕ} {to g : List ℕ} (a : Ask free s shut set to) (b : Started set to 0 g) where
  same : (j : ℕ) → bit j set ≡ 1 → target 35 g j ≡ at to j
  same j o = lone-target 35 g j (at to j) (b.is j o (bit-none j))

  pub asked : Asked free s shut set 35 g
  asked = record {
    request = request_same (target 35 g) same a.request;
    small = omega (arith, a.small);
    rows = record { wide = omega arith; room = λ j o. omega (arith, a.few j o, b.long) };
    new = record { is = λ j o. b.is j o (bit-none j) ∙ ap (λ (y : ℕ). y ∷ []) (sym (same j o)) };
  }

  pub gives : {h : List ℕ} → Planned free s shut set 35 g h → Gives free s shut set to h
  gives {h} p = record {
    fan = doors_same (at to) (λ j o. sym (same j o)) p.fan;
    long = p.keeps.long ∙ b.long;
  }
