-- Ends of block paths and the doors that stay shut for them: what the code's arrays and masks hold. Assumes nothing.
use Rattle.std.specs.Prelude.{ℕ, ◌+◌, ◌-◌, ◌^◌, ◌≤◌, ◌<◌, ◌≡◌, ◌⊎◌, ◌≢◌, List, Bool, true, false, length, set, eqb}
use Rattle.std.proofs.Common.{sym, ap, ◌∙◌, subst, inl, inr, ⊎_elim, arith, length-set, get_or-set_same, get_or-set_other, eq-eqb, ne_eqb}
use Rattle.std.specs.Int.Count.{ones, ones-ones}
use Rattle.std.proofs.Math.Decide.{ℕ_discrete}
use Rattle.bits.specs.Bit.{bit, flip, Lowest}
use Rattle.bits.specs.Laws.{bit-none, clash}
use Rattle.cube_math.specs.Masks.{at, less}
use Rattle.cube_math.specs.Choose.{less-on, less-or}
use Rattle.cube_math.specs.Plain.{bit-full}
use Rattle.cube_math.specs.First.{part-all}
use Rattle.two_math.specs.Shut.{Opening, opening-more, opening-left}

-- ---- the blocks behind the gates

pub record Blocked (blocks gates : List ℕ) (n : ℕ) (r : List ℕ) : Type 0 where
  pub long : length r ≡ 8
  pub is : (j : ℕ) → j < n → at r j ≡ flip (at blocks j) (at gates j)

-- filled one by one
pub blocked_none : (blocks gates r : List ℕ) → length r ≡ 8 → Blocked blocks gates 0 r
blocked_none blocks gates r e = record { long = e; is = λ j h. absurd (omega arith) }

pub blocked_more : {blocks gates : List ℕ} {n : ℕ} {r : List ℕ} (v : ℕ) → Blocked blocks gates n r → n < 8 → v ≡ flip (at blocks n) (at gates n) → Blocked blocks gates (n + 1) (set r n v)
blocked_more {blocks} {gates} {n} {r} v b h e = record { long = length-set r n v ∙ b.long; is = λ j l. by j l (ℕ_discrete j n) }
  where
    by : (j : ℕ) → j < n + 1 → Dec (j ≡ n) → at (set r n v) j ≡ flip (at blocks j) (at gates j)
    by j l (yes z) = rw z (get_or-set_same r n v 0 (omega (arith, b.long)) ∙ e)
    by j l (no ne) = get_or-set_other r n j v 0 ne ∙ b.is j (omega arith)

-- ---- the ends

unfoldable pub end_of : (block behind : ℕ) → Bool → ℕ
end_of b g true = g
end_of b g false = b

pub end_gated : (b g j gated : ℕ) → bit j gated ≡ 1 → end_of b g (eqb (bit j gated) 1) ≡ g
unfolding end_of
end_gated b g j gated o = ap (end_of b g) (eq-eqb (bit j gated) 1 o)

pub end_plain : (b g j gated : ℕ) → bit j gated ≡ 0 → end_of b g (eqb (bit j gated) 1) ≡ b
unfolding end_of
end_plain b g j gated z = ap (end_of b g) (ne_eqb (bit j gated) 1 (λ o. clash z o))

-- row j ends in the block of j or behind its gate, row 8 + j in the block of j
pub record Ended (blocks behind : List ℕ) (gated n : ℕ) (r : List ℕ) : Type 0 where
  pub long : length r ≡ 16
  pub single : (j : ℕ) → j < n → at r j ≡ end_of (at blocks j) (at behind j) (eqb (bit j gated) 1)
  pub crowd : (j : ℕ) → j < n → at r (8 + j) ≡ at blocks j

-- filled two by two
pub ended_none : (blocks behind : List ℕ) (gated : ℕ) (r : List ℕ) → length r ≡ 16 → Ended blocks behind gated 0 r
ended_none blocks behind gated r e = record { long = e; single = λ j h. absurd (omega arith); crowd = λ j h. absurd (omega arith) }

pub ended_more : {blocks behind : List ℕ} {gated n : ℕ} {r : List ℕ} (v : ℕ) → Ended blocks behind gated n r → n < 8
    → v ≡ end_of (at blocks n) (at behind n) (eqb (bit n gated) 1) → Ended blocks behind gated (n + 1) (set (set r n v) (8 + n) (at blocks n))
ended_more {blocks} {behind} {gated} {n} {r} v b h e = record {
  long = length-set (set r n v) (8 + n) (at blocks n) ∙ length-set r n v ∙ b.long;
  single = λ j l. get_or-set_other (set r n v) (8 + n) j (at blocks n) 0 (λ z. omega arith) ∙ one j l (ℕ_discrete j n);
  crowd = λ j l. two j l (ℕ_discrete j n);
}
  where
    one : (j : ℕ) → j < n + 1 → Dec (j ≡ n) → at (set r n v) j ≡ end_of (at blocks j) (at behind j) (eqb (bit j gated) 1)
    one j l (yes z) = rw z (get_or-set_same r n v 0 (omega (arith, b.long)) ∙ e)
    one j l (no ne) = get_or-set_other r n j v 0 ne ∙ b.single j (omega arith)

    two : (j : ℕ) → j < n + 1 → Dec (j ≡ n) → at (set (set r n v) (8 + n) (at blocks n)) (8 + j) ≡ at blocks j
    two j l (yes z) = rw z (get_or-set_same (set r n v) (8 + n) (at blocks n) 0 (omega (arith, length-set r n v, b.long)))
    two j l (no ne) =
        get_or-set_other (set r n v) (8 + n) (8 + j) (at blocks n) 0 (λ z. ne (omega arith)) ∙ get_or-set_other r n (8 + j) v 0 (λ z. omega arith) ∙ b.crowd j (omega arith)

-- ---- the doors

pub record DoorAsk (doors p0 keep n : ℕ) : Type 0 where
  pub few : doors ≤ 32
  pub home : p0 < doors
  pub kept : (a : ℕ) → bit a keep ≡ 1 → a < doors
  pub room : n + ones keep ≤ doors

-- the door that is opened after i others
abbrev pub NextDoor : (p0 keep shut i x : ℕ) → Type 0
NextDoor p0 keep shut i x = ((i ≡ 0) × (bit p0 keep ≡ 0) × (x ≡ p0)) ⊎ (((i ≢ 0) ⊎ (bit p0 keep ≡ 1)) × (bit x shut ≡ 1) × (bit x keep ≡ 0))

pub next_lowest : (p0 keep shut i x pw : ℕ) → (i ≢ 0) ⊎ (bit p0 keep ≡ 1) → pw ≡ less shut keep → Lowest 64 pw x → NextDoor p0 keep shut i x
next_lowest p0 keep shut i x pw why e low = let p = less-on x shut keep (ap (bit x) (sym e) ∙ low.set) in inr (why, p.0, p.1)

module _ {doors p0 keep n : ℕ} (ask : DoorAsk doors p0 keep n) {i shut : ℕ} (k : Opening doors p0 keep i shut) (lt : i < n) where
  pub door-left : less shut keep ≢ 0
  door-left e =
      let x = opening-left k (omega (arith, ask.room)) in
      ⊎_elim (λ z. clash x.2 z) (λ z. clash (ap (bit x.0) e ∙ bit-none x.0) z) (less-or x.0 shut keep x.1)

  -- it is a door
  pub door-below : (x : ℕ) → NextDoor p0 keep shut i x → x < doors
  door-below x (inl (z, w, e)) = subst (λ (y : ℕ). y < doors) (sym e) ask.home
  door-below x (inr (w, o, z)) = k.within x o

  pub door-more : (x next : ℕ) → NextDoor p0 keep shut i x → next ≡ flip shut x → Opening doors p0 keep (i + 1) next
  door-more x next d e = subst (λ (y : ℕ). Opening doors p0 keep (i + 1) y) (sym e) (by d)
    where
      first : i ≡ 0 → bit p0 shut ≡ 1
      first z = part-all (2 ^ doors - 1) shut (λ a o. bit-full doors a (k.within a o)) (omega (arith, k.count, ones-ones doors)) p0 (bit-full doors p0 ask.home)

      by : NextDoor p0 keep shut i x → Opening doors p0 keep (i + 1) (flip shut x)
      by (inl (z, w, q)) = opening-more x k (ap (λ (y : ℕ). bit y shut) q ∙ first z) (ap (λ (y : ℕ). bit y keep) q ∙ w) (inr (inl q))
      by (inr (inl ne, o, z)) = opening-more x k o z (inl ne)
      by (inr (inr p, o, z)) = opening-more x k o z (inr (inr p))
