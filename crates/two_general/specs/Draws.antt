-- From the choices to the paths, step by step: what each call is asked (`blocks_ask`, `planned`, `stated`, `held`). Assumes nothing.
use Rattle.std.specs.Prelude.{ℕ, ◌+◌, ◌-◌, ◌*◌, ◌^◌, ◌≤◌, ◌<◌, ◌≡◌, ◌⊎◌, ◌≢◌, List, Option, length, get_or}
use Rattle.std.proofs.Common.{sym, subst, arith, pow_mono}
use Rattle.std.specs.Int.Count.{ones, ones-ones}
use Rattle.cube_math.specs.Masks.{at}
use Rattle.paths.specs.Fan as fan
use Rattle.cube_math.specs.Doors.{Doors}
use Rattle.cube_math.specs.Choose.{Chosen}
use Rattle.two_math.specs.Assemble.{most}
use Rattle.two_choose.specs.declared.Choice.{Choice}
use Rattle.two_choose.specs.Chosen.{Asks}
use Rattle.two_takeover.specs.declared.Taken as taken
use Rattle.two_write.specs.Row.{hops}
use Rattle.two_write.specs.Rows.{Drawing}
use Rattle.two_rows.specs.Rows.{Ask, Gives}
use Rattle.two_general.specs.Draft as draft
use Rattle.two_general.specs.Draft.{Planned, State, Overs, Leaves, AllInside, blocks_request, rows_within}
use Rattle.two_general.specs.Heads.{heads_ask}
use Rattle.two_general.specs.Filled.{Filled}
use Rattle.two_general.specs.Paths.{Held, Pathed, Writes}
use Rattle.two_general.specs.Whole.{Painted}

-- what may be asked: the targets, and one of them outside the source's block if there are as many as links
pub record Draws (m s0 p0 k w : ℕ) (blocks slots places counts : List ℕ) : Type 0 where
  pub asks : Asks m s0 p0 k blocks slots
  pub some : (k ≤ m) ⊎ ((j : ℕ) × (j < k) × (at blocks j ≢ s0))
  pub wide : w ≡ most m + 1
  pub room : k * w ≤ length places
  pub room-counts : k ≤ length counts
  pub filled : (x : ℕ) → x < k * w → get_or places x 0 ≡ fan.filler

pub draws_small : {m s0 p0 k w : ℕ} {blocks slots places counts : List ℕ} → Draws m s0 p0 k w blocks slots places counts → (m ≤ 5) × (2 ^ m ≤ 32) × (k ≤ 6)
draws_small d = let p : 2 ^ _ ≤ 32 = pow_mono d.asks.high in (d.asks.high, p, omega (arith, d.asks.ask.few, d.asks.high))

module _ {m s0 p0 k w : ℕ} {blocks slots places counts : List ℕ} (d : Draws m s0 p0 k w blocks slots places counts) {c : Choice} (h : draft.Chosen m s0 p0 k blocks slots c) where
  pub blocks_ask : (free : ℕ) → free ≡ 2 ^ (2 ^ m) - 1 → Ask free s0 c.shut c.rows c.ends
  blocks_ask free e = subst (λ (y : ℕ). Ask y s0 c.shut c.rows c.ends) (sym e) (record {
    request = blocks_request d.asks h;
    small = omega (arith, ones-ones (2 ^ m), (draws_small d).1);
    few = rows_within d.asks h;
  })

  pub planned : (free : ℕ) → free ≡ 2 ^ (2 ^ m) - 1 → {g : List ℕ} → Gives free s0 c.shut c.rows c.ends g → Planned m s0 p0 k blocks slots c g
  planned free e {g} b =
      let fan₁ = subst (λ (y : ℕ). Doors (ones y) y s0 c.shut c.rows (at c.ends) (hops g)) e b.fan in record {
        asks = d.asks;
        chose = h;
        fan = subst (λ (y : ℕ). Doors y (2 ^ (2 ^ m) - 1) s0 c.shut c.rows (at c.ends) (hops g)) (ones-ones (2 ^ m)) fan₁;
      }

module _ {m s0 p0 k w : ℕ} {blocks slots places counts : List ℕ} (d : Draws m s0 p0 k w blocks slots places counts) {c : Choice} {o : Option taken.Taken} {g : List ℕ}
    (p : Planned m s0 p0 k blocks slots c g) (t : Overs m s0 p0 k blocks slots c o g) where
  pub stated : State m s0 p0 k blocks slots c o g
  stated = record { planned = p; over = t }

  pub all-inside : AllInside s0 p0 k slots c o g
  all-inside = record { m = m; blocks = blocks; state = stated }

  module _ {leaves : List ℕ} {walkers : ℕ} (l : Filled 16 k (Leaves s0 p0 slots c o g) leaves) (x : Chosen (λ j. at leaves j ≢ p0) (λ j. at leaves j ≡ p0) (2 ^ k - 1) walkers) where
    pub head_ask : (free : ℕ) → free ≡ 2 ^ m - 1 → Ask free p0 0 walkers leaves
    head_ask free e = heads_ask stated leaves l.each x d.some free e

    pub held : (free : ℕ) → free ≡ 2 ^ m - 1 → {heads : List ℕ} → Gives free p0 0 walkers leaves heads → Held m s0 p0 k blocks slots c o g leaves heads
    held free e {heads} b = record { walkers = walkers; state = stated; leave = l.each; walk = x; fan = subst (λ (y : ℕ). Gives y p0 0 walkers leaves heads) e b }

pub writes : {m s0 p0 k w : ℕ} {blocks slots places counts : List ℕ} {c : Choice} {o : Option taken.Taken} {g leaves heads : List ℕ} → Draws m s0 p0 k w blocks slots places counts
    → Held m s0 p0 k blocks slots c o g leaves heads → Writes m s0 p0 k w blocks slots c o g leaves heads places counts
writes d h = record { held = h; wide = d.wide; room = d.room; room-counts = d.room-counts; filled = d.filled }

pub painted : {m s0 p0 k w source : ℕ} {blocks slots places counts places₁ counts₁ : List ℕ} {c : Choice} {o : Option taken.Taken} {g leaves heads : List ℕ}
    → Held m s0 p0 k blocks slots c o g leaves heads → Drawing w source k (Pathed m s0 p0 k blocks slots c o g leaves heads) places counts places₁ counts₁ k
    → Painted m s0 p0 k w source blocks slots places counts places₁ counts₁
painted {c = c} {o = o} {g = g} {leaves = leaves} {heads = heads} h d = record { c = c; o = o; g = g; leaves = leaves; heads = heads; held = h; drawing = d }
