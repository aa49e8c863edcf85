-- A sound request of order 2 to 5, taken apart and planned (`general_draws`, `general_drawn`). Assumes nothing.
use Rattle.std.specs.Prelude.{ℕ, ◌+◌, ◌*◌, ◌^◌, ◌≤◌, ◌<◌, ◌≡◌, ◌⊎◌, ◌≢◌, List, length}
use Rattle.std.proofs.Common.{sym, ◌∙◌, subst, inl, inr, ⊎_elim, arith, pow_mono, pow_pos}
use Rattle.cube_math.specs.Masks.{at}
use Rattle.two_parts.specs.Two.{two, block_of, slot_of}
use Rattle.two_math.specs.Assemble.{most}
use Rattle.two_math.specs.Numbers.{block, slot}
use Rattle.two_write.specs.Rows.{Ready, Drawn}
use Rattle.two_general.specs.Filled.{Filled}
use Rattle.two_general.specs.Whole.{Painted, targets_ask, painted_fan}
use Rattle.two_general.specs.Draws.{Draws}

-- fewer targets than links, or one of them outside the source's block
pub record General (m s w : ℕ) (targets places counts : List ℕ) : Type 0 where
  pub low : 2 ≤ m
  pub high : m ≤ 5
  pub wide : w ≡ most m + 1
  pub ready : Ready (two m) s targets places counts
  pub some : (length targets ≤ m) ⊎ ((j : ℕ) × (j < length targets) × (block m (at targets j) ≢ block m s))

module _ {m s w : ℕ} {targets places counts : List ℕ} (a : General m s w targets places counts) where
  -- its numbers are small
  pub general_small : (2 ^ m ≤ 32) × (0 < 2 ^ m) × (length targets ≤ 6)
  general_small = let p : 2 ^ m ≤ 32 = pow_mono a.high in (p, pow_pos m, omega (arith, a.ready.sound.few, a.high))

  module _ {blocks slots : List ℕ} {s0 p0 : ℕ} (tb : Filled 8 (length targets) (λ j v. v ≡ block_of m (at targets j)) blocks)
      (tp : Filled 8 (length targets) (λ j v. v ≡ slot_of m (at targets j)) slots) (es : s0 ≡ block_of m s) (ep : p0 ≡ slot_of m s) where
    pub general_draws : (k : ℕ) → k ≡ length targets → Draws m s0 p0 k w blocks slots places counts
    general_draws k e = subst (λ (y : ℕ). Draws m y p0 k w blocks slots places counts) (sym es) (subst (λ (y : ℕ). Draws m (block m s) y k w blocks slots places counts) (sym ep) (subst (λ (y : ℕ). Draws m (block m s) (slot m s) y w blocks slots places counts) (sym e) (record {
      asks = targets_ask a.low a.high a.ready.sound tb tp;
      some = ⊎_elim (λ h. inl h) (λ x. inr (x.0, x.1, λ z. x.2 (sym (tb.each x.0 x.1) ∙ z))) a.some;
      wide = a.wide;
      room = subst (λ (y : ℕ). length targets * y ≤ length places) (sym a.wide) a.ready.room;
      room-counts = a.ready.room-counts;
      filled = λ x h. a.ready.filled x (subst (λ (y : ℕ). x < length targets * y) a.wide h);
    })))

    pub general_drawn : (k : ℕ) → k ≡ length targets → {places₁ counts₁ : List ℕ} → Painted m s0 p0 k w s blocks slots places counts places₁ counts₁
        → Drawn (two m) s targets places counts places₁ counts₁
    general_drawn k e {places₁} {counts₁} p = painted_fan a.low a.high a.wide a.ready tb tp
        (subst (λ (y : ℕ). Painted m (block m s) (slot m s) y w s blocks slots places counts places₁ counts₁) e
        (subst (λ (y : ℕ). Painted m (block m s) y k w s blocks slots places counts places₁ counts₁) ep
        (subst (λ (y : ℕ). Painted m y p0 k w s blocks slots places counts places₁ counts₁) es p)))
