-- The targets sorted, the doors kept, the ends of block paths, the doors shut: as masks, by facts; with the counts. Assumes nothing.
use Rattle.std.specs.Prelude.{ℕ, zero, suc, ◌+◌, ◌-◌, ◌*◌, ◌^◌, ◌≤◌, ◌<◌, ◌≡◌, ◌⊎◌, ◌≢◌}
use Rattle.std.proofs.Common.{sym, ◌∙◌, subst, inl, inr, ⊎_elim, pow-suc, arith, pow_pos}
use Rattle.std.specs.Int.Bits.{bit_or}
use Rattle.std.specs.Int.Count.{ones, ones-ones}
use Rattle.bits.specs.Bit.{bit, flip}
use Rattle.bits.specs.Laws.{bit-cases, clash, same_or, flip-eq}
use Rattle.cube_math.specs.Masks.{less, ones_mono}
use Rattle.cube_math.specs.Plain.{bit-full, full-below}
use Rattle.cube_math.specs.Choose.{Chosen, Used, gather, neighbour, or-on, or_left, or_right, ones-less, less-on, less-or, ones-or}
use Rattle.cube_math.specs.First.{no_fewer}
use Rattle.two_math.specs.Gates.{Gates}

-- what may be asked
pub record Ask (m s0 p0 k : ℕ) (tb tp : ℕ → ℕ) : Type 0 where
  pub few : k ≤ m + 1
  pub home-slot : p0 < 2 ^ m
  pub home-block : s0 < 2 ^ (2 ^ m)
  pub slots : (j : ℕ) → j < k → tp j < 2 ^ m
  pub blocks : (j : ℕ) → j < k → tb j < 2 ^ (2 ^ m)
  pub differ : (i j : ℕ) → i < k → j < k → i ≢ j → tb i ≡ tb j → tp i ≢ tp j
  pub other : (j : ℕ) → j < k → tb j ≡ s0 → tp j ≢ p0

-- another target stands in the block of j
abbrev pub Shared : (k : ℕ) (tb : ℕ → ℕ) (j : ℕ) → Type 0
Shared k tb j = (i : ℕ) × (i < k) × (i ≢ j) × (tb i ≡ tb j)

-- the block b is behind a door of the set
abbrev pub Behind : (s0 doors b : ℕ) → Type 0
Behind s0 doors b = (a : ℕ) × (bit a doors ≡ 1) × (b ≡ flip s0 a)

pub behind? : (s0 doors b : ℕ) → Behind s0 doors b ⊎ ((a : ℕ) → bit a doors ≡ 1 → b ≢ flip s0 a)
behind? s0 doors b = ⊎_elim
    (λ x. ⊎_elim (λ z. inr (λ a o e. clash z (subst (λ (y : ℕ). bit y doors ≡ 1) (flip-eq s0 a x.0 (sym e ∙ x.1)) o))) (λ o. inl (x.0, o, x.1)) (bit-cases x.0 doors))
    (λ none. inr (λ a o. none a)) (neighbour s0 b)

-- the targets in the source's block, their slots, and the targets that need a gate
pub record Sorts (s0 k : ℕ) (tb tp : ℕ → ℕ) (inner kept gated : ℕ) : Type 0 where
  pub inner_on : (j : ℕ) → bit j inner ≡ 1 → (j < k) × (tb j ≡ s0)
  pub inner_off : (j : ℕ) → j < k → bit j inner ≡ 0 → tb j ≢ s0
  pub kept_on : (j : ℕ) → bit j inner ≡ 1 → bit (tp j) kept ≡ 1
  pub kept_from : (a : ℕ) → bit a kept ≡ 1 → (j : ℕ) × (bit j inner ≡ 1) × (tp j ≡ a)
  pub kept-few : ones kept ≤ ones inner
  pub gated_on : (j : ℕ) → bit j gated ≡ 1 → (j < k) × (tb j ≢ s0) × (Shared k tb j ⊎ Behind s0 kept (tb j))
  pub gated_off : (j : ℕ) → j < k → tb j ≢ s0 → bit j gated ≡ 0 → ((i : ℕ) → i < k → i ≢ j → tb i ≢ tb j) × ((a : ℕ) → bit a kept ≡ 1 → tb j ≢ flip s0 a)

-- from masks made by tests and unions
pub sorts_from : {s0 k : ℕ} {tb tp : ℕ → ℕ} (inner kept gated : ℕ) → Chosen (λ j. tb j ≡ s0) (λ j. tb j ≢ s0) (2 ^ k - 1) inner → Used (λ j a. tp j ≡ a) inner kept
    → Chosen (λ j. (tb j ≢ s0) × (Shared k tb j ⊎ Behind s0 kept (tb j)))
    (λ j. tb j ≢ s0 → ((i : ℕ) → i < k → i ≢ j → tb i ≢ tb j) × ((a : ℕ) → bit a kept ≡ 1 → tb j ≢ flip s0 a)) (2 ^ k - 1) gated
    → Sorts s0 k tb tp inner kept gated
sorts_from {s0} {k} {tb} {tp} inner kept gated c g d = record {
  inner_on = λ j o. (full-below k j (c.sub j o), c.holds j o);
  inner_off = λ j h z. c.fails j (bit-full k j h) z;
  kept_on = λ j o. let u = g.uses j o in subst (λ (y : ℕ). bit y kept ≡ 1) (sym u.1) u.2;
  kept_from = g.from;
  kept-few = g.few;
  gated_on = λ j o. (full-below k j (d.sub j o), (d.holds j o).0, (d.holds j o).1);
  gated_off = λ j h ne z. d.fails j (bit-full k j h) z ne;
}

-- all targets of a gated target's block are gated
pub mates_gated : {s0 k : ℕ} {tb tp : ℕ → ℕ} {inner kept gated : ℕ} → Sorts s0 k tb tp inner kept gated → (i j : ℕ) → i < k → bit j gated ≡ 1 → tb i ≡ tb j → bit i gated ≡ 1
mates_gated {s0} {k} {tb} {tp} {inner} {kept} {gated} s i j h o e = ⊎_elim
    (λ z. ⊎_elim (λ y. absurd (clash z (subst (λ (u : ℕ). bit u gated ≡ 1) (sym y) o)))
    (λ ne. let g = s.gated_on j o in absurd ((s.gated_off i h (λ y. g.1 (sym e ∙ y)) z).0 j g.0 (λ y. ne (sym y)) (sym e))) (same_or i j))
    (λ y. y) (bit-cases i gated)

-- the gated targets whose gate block is s0, and all kept doors with their gate slots
pub record Keeps (s0 : ℕ) (tb : ℕ → ℕ) (kept gated : ℕ) (gate : ℕ → ℕ) (straight keep : ℕ) : Type 0 where
  pub straight_on : (j : ℕ) → bit j straight ≡ 1 → (bit j gated ≡ 1) × (flip (tb j) (gate j) ≡ s0)
  pub straight_off : (j : ℕ) → bit j gated ≡ 1 → bit j straight ≡ 0 → flip (tb j) (gate j) ≢ s0
  pub keep-kept : (a : ℕ) → bit a kept ≡ 1 → bit a keep ≡ 1
  pub keep-gate : (j : ℕ) → bit j straight ≡ 1 → bit (gate j) keep ≡ 1
  pub keep-from : (a : ℕ) → bit a keep ≡ 1 → (bit a kept ≡ 1) ⊎ ((j : ℕ) × (bit j straight ≡ 1) × (gate j ≡ a))
  pub keep-few : ones keep ≤ ones kept + ones straight

pub keeps_from : {s0 : ℕ} {tb : ℕ → ℕ} {kept gated : ℕ} {gate : ℕ → ℕ} (straight slots : ℕ)
    → Chosen (λ j. flip (tb j) (gate j) ≡ s0) (λ j. flip (tb j) (gate j) ≢ s0) gated straight → Used (λ j a. gate j ≡ a) straight slots
    → Keeps s0 tb kept gated gate straight (bit_or kept slots)
keeps_from {s0} {tb} {kept} {gated} {gate} straight slots c g = record {
  straight_on = λ j o. (c.sub j o, c.holds j o);
  straight_off = c.fails;
  keep-kept = λ a o. or_left a kept slots o;
  keep-gate = λ j o. let u = g.uses j o in or_right (gate j) kept slots (subst (λ (y : ℕ). bit y slots ≡ 1) (sym u.1) u.2);
  keep-from = λ a o. ⊎_elim inl (λ p. inr (g.from a p)) (or-on a kept slots o);
  keep-few = omega (arith, ones-or kept slots, g.few);
}

-- the targets with a block path of their own, `singles`; a representative of each gated block that is not behind a kept door, `reps`; the
-- block paths: that of a single target has its index, that of a crowd the index of its representative and `base`
pub record Ends (s0 k : ℕ) (tb : ℕ → ℕ) (inner gated : ℕ) (gate : ℕ → ℕ) (straight keep base singles reps rows : ℕ) (ends : ℕ → ℕ) : Type 0 where
  pub room : k ≤ base
  pub single_on : (j : ℕ) → bit j singles ≡ 1 → (j < k) × (bit j inner ≡ 0) × (bit j straight ≡ 0)
  pub single_off : (j : ℕ) → j < k → bit j inner ≡ 0 → bit j straight ≡ 0 → bit j singles ≡ 1
  pub single_few : ones singles + ones inner + ones straight ≤ k
  pub reps_on : (r : ℕ) → bit r reps ≡ 1 → (bit r gated ≡ 1) × ((a : ℕ) → bit a keep ≡ 1 → tb r ≢ flip s0 a)
  pub reps_differ : (r q : ℕ) → bit r reps ≡ 1 → bit q reps ≡ 1 → r ≢ q → tb r ≢ tb q
  pub reps_all : (j : ℕ) → bit j gated ≡ 1 → ((a : ℕ) → bit a keep ≡ 1 → tb j ≢ flip s0 a) → (r : ℕ) × (bit r reps ≡ 1) × (tb r ≡ tb j)
  pub row_single : (j : ℕ) → bit j singles ≡ 1 → bit j rows ≡ 1
  pub row_crowd : (r : ℕ) → bit r reps ≡ 1 → bit (base + r) rows ≡ 1
  pub row_from : (x : ℕ) → bit x rows ≡ 1 → (bit x singles ≡ 1) ⊎ ((r : ℕ) × (bit r reps ≡ 1) × (x ≡ base + r))
  pub row-few : ones rows ≤ ones singles + ones reps
  pub end_direct : (j : ℕ) → bit j singles ≡ 1 → bit j gated ≡ 0 → ends j ≡ tb j
  pub end-gate : (j : ℕ) → bit j singles ≡ 1 → bit j gated ≡ 1 → ends j ≡ flip (tb j) (gate j)
  pub end_crowd : (r : ℕ) → bit r reps ≡ 1 → ends (base + r) ≡ tb r

-- representatives r, one of each class of f among the members of s
pub record Classes (f : ℕ → ℕ) (s r : ℕ) : Type 0 where
  pub sub : (j : ℕ) → bit j r ≡ 1 → bit j s ≡ 1
  pub differ : (i j : ℕ) → bit i r ≡ 1 → bit j r ≡ 1 → i ≢ j → f i ≢ f j
  pub all : (j : ℕ) → bit j s ≡ 1 → (c : ℕ) × (bit c r ≡ 1) × (f c ≡ f j)

-- from masks made by tests, classes and unions
pub ends-from : {s0 k : ℕ} {tb : ℕ → ℕ} {inner gated : ℕ} {gate : ℕ → ℕ} {straight keep base : ℕ} (ajar reps crowds : ℕ) (ends : ℕ → ℕ) → k ≤ base
    → ((j : ℕ) → bit j inner ≡ 1 → (j < k) × (bit j straight ≡ 0)) → ((j : ℕ) → bit j straight ≡ 1 → j < k)
    → Chosen (λ j. (a : ℕ) → bit a keep ≡ 1 → tb j ≢ flip s0 a) (λ j. Behind s0 keep (tb j)) gated ajar → Classes tb ajar reps → Used (λ j i. i ≡ base + j) reps crowds
    → ((j : ℕ) → j < k → bit j gated ≡ 0 → ends j ≡ tb j) → ((j : ℕ) → j < k → bit j gated ≡ 1 → ends j ≡ flip (tb j) (gate j)) → ((r : ℕ) → bit r reps ≡ 1 → ends (base + r) ≡ tb r)
    → Ends s0 k tb inner gated gate straight keep base (less (less (2 ^ k - 1) inner) straight) reps (bit_or (less (less (2 ^ k - 1) inner) straight) crowds) ends
ends-from {s0} {k} {tb} {inner} {gated} {gate} {straight} {keep} {base} ajar reps crowds ends room ion son c r g direct gates crowd =
    let all : ℕ = 2 ^ k - 1 in
    let outer : ℕ = less all inner in
    let singles : ℕ = less outer straight in
    let sub : (j : ℕ) → bit j straight ≡ 1 → bit j outer ≡ 1 = λ j o. ⊎_elim (λ z. absurd (clash (ion j z).1 o)) (λ z. z) (less-or j all inner (bit-full k j (son j o))) in
    let below : (j : ℕ) → bit j singles ≡ 1 → j < k = λ j o. full-below k j (less-on j all inner (less-on j outer straight o).0).0 in record {
      room = room;
      single_on = λ j o. let p = less-on j outer straight o in let q = less-on j all inner p.0 in (full-below k j q.0, q.1, p.1);
      single_off = λ j h z y. ⊎_elim (λ p. absurd (clash z p)) (λ p. ⊎_elim (λ w. absurd (clash y w)) (λ w. w) (less-or j outer straight p)) (less-or j all inner (bit-full k j h));
      single_few = omega (arith, ones-less outer straight sub, ones-less all inner (λ j o. bit-full k j (ion j o).0), ones-ones k);
      reps_on = λ j o. let p = r.sub j o in (c.sub j p, c.holds j p);
      reps_differ = r.differ;
      reps_all = λ j o free. r.all j (⊎_elim (λ z. let b = c.fails j o z in absurd (free b.0 b.1 b.2)) (λ z. z) (bit-cases j ajar));
      row_single = λ j o. or_left j singles crowds o;
      row_crowd = λ j o. let u = g.uses j o in or_right (base + j) singles crowds (subst (λ (y : ℕ). bit y crowds ≡ 1) u.1 u.2);
      row_from = λ x o. ⊎_elim inl (λ p. inr (g.from x p)) (or-on x singles crowds o);
      row-few = omega (arith, ones-or singles crowds, g.few);
      end_direct = λ j o z. direct j (below j o) z;
      end-gate = λ j o z. gates j (below j o) z;
      end_crowd = crowd;
    }

-- ---- the counts

three : (m : ℕ) → 3 * m + 9 ≤ 2 * 2 ^ suc (suc m) + 1
three zero = omega arith
three (suc m) = omega (arith, three m, pow-suc 2 (suc (suc m)), pow_pos (suc (suc m)))

pub half-more : (m k c : ℕ) → 2 ≤ m → k ≤ m + 1 → c + c ≤ k → k + c ≤ 2 ^ m
half-more zero k c h f g = absurd (omega arith)
half-more (suc zero) k c h f g = absurd (omega arith)
half-more (suc (suc m)) k c h f g = omega (arith, three m)

module _ {m s0 p0 k : ℕ} {tb tp : ℕ → ℕ} {inner kept gated : ℕ} {gate : ℕ → ℕ} {straight keep base singles reps rows : ℕ} {ends : ℕ → ℕ}
    (ask : Ask m s0 p0 k tb tp) (sort : Sorts s0 k tb tp inner kept gated) (gates : Gates m s0 k tb tp gated gate)
    (keep-is : Keeps s0 tb kept gated gate straight keep) (end_is : Ends s0 k tb inner gated gate straight keep base singles reps rows ends) where
  -- a crowd has two members
  crowd_mate : (r : ℕ) → bit r reps ≡ 1 → Shared k tb r
  crowd_mate r o = let p = end_is.reps_on r o in
      ⊎_elim (λ z. z) (λ z. absurd (p.1 z.0 (keep-is.keep-kept z.0 z.1) z.2)) (sort.gated_on r p.0).2

  pub reps_half : ones reps + ones reps ≤ k
  reps_half =
      let R : ℕ → ℕ → Type 0 = λ r i. (bit r reps ≡ 1) × (i < k) × (i ≢ r) × (tb i ≡ tb r) in
      let g = gather R reps (λ r o. let x = crowd_mate r o in (x.0, (o, x.1, x.2, x.3))) in
      let many : ones reps ≤ ones g.0 = no_fewer R reps g.0 g.1.uses
      (λ a b i x y. ⊎_elim (λ e. e) (λ ne. absurd (end_is.reps_differ a b x.0 y.0 ne (sym x.3 ∙ y.3))) (same_or a b)) in
      let sub : (j : ℕ) → bit j reps ≡ 1 → bit j (2 ^ k - 1) ≡ 1 = λ j o. bit-full k j (sort.gated_on j (end_is.reps_on j o).0).0 in
      let rest : ones g.0 ≤ ones (less (2 ^ k - 1) reps) = ones_mono g.0 (less (2 ^ k - 1) reps) (λ i o.
      let f = g.1.from i o in
      ⊎_elim (λ z. absurd (end_is.reps_differ i f.0 z f.2.0 f.2.2 f.2.3)) (λ z. z) (less-or i (2 ^ k - 1) reps (bit-full k i f.2.1))) in
      omega (arith, ones-less (2 ^ k - 1) reps sub, ones-ones k)

  -- there are doors enough
  pub doors_enough : 2 ≤ m → ones rows + ones keep ≤ 2 ^ m
  doors_enough order = omega (arith, half-more m k (ones reps) order ask.few reps_half, end_is.row-few, end_is.single_few, keep-is.keep-few, sort.kept-few)
