-- Rows chosen by their targets: those on one side of a dimension (`Picking`), a dimension that parts two of them (`Parting`), a relay beside f that
-- is no target (`Beside`), and what stands in for f (`StoodIn`). Assumes nothing.
use Rattle.std.specs.Prelude.{ℕ, ◌+◌, ◌-◌, ◌^◌, ◌≤◌, ◌<◌, ◌≡◌, refl, ◌⊎◌, ◌≢◌, List, [], ◌∷◌}
use Rattle.std.proofs.Common.{sym, ap, ◌∙◌, subst, inl, ⊎_elim, arith}
use Rattle.std.specs.Int.Bits.{bit_xor, bit_and, bit_or}
use Rattle.std.specs.Int.Count.{ones}
use Rattle.bits.specs.Bit.{bit, flip, Lowest}
use Rattle.bits.specs.Laws.{bit-none, clash, flip-same, flip-other, ones_clear, ones-zero, xor-zero-eq, same_or}
use Rattle.cube_math.specs.Paths.{bit-not-one}
use Rattle.cube_math.specs.Masks.{less, less-some}
use Rattle.cube_math.specs.Single.{differs_bit}
use Rattle.cube_math.specs.Choose.{cleared, Chosen, less-on}
use Rattle.cube_math.specs.Loops.{Plus, plus_or, Taking, take-skip, take-one, taken_none}
use Rattle.cube_rows.specs.Grid.{hops, target, only_rest, Sets, Keeps, keeps_none, keeps_one}
use Rattle.cube_moves.specs.Sort.{flip_of, of-flip}

-- ---- the rows whose target agrees with f in the bits of `mask`

abbrev pub Like : (ℕ → ℕ) → ℕ → ℕ → ℕ → Type 0
Like to f mask j = bit_and (bit_xor (to j) f) mask ≡ 0

abbrev pub Unlike : (ℕ → ℕ) → ℕ → ℕ → ℕ → Type 0
Unlike to f mask j = bit_and (bit_xor (to j) f) mask ≢ 0

-- the row of `far` whose target is f, where the door b is shut
pub record HomeOf (to : ℕ → ℕ) (far f free shut b r : ℕ) : Type 0 where
  pub barred : bit b shut ≡ 1 → Chosen (Like to f free) (Unlike to f free) far r
  pub ajar : bit b shut ≡ 0 → r ≡ 0

-- r, with j if x is 0
pub record Kept (r j x after : ℕ) : Type 0 where
  pub zero : x ≡ 0 → after ≡ flip r j
  pub other : x ≢ 0 → after ≡ r

pub record Picking (A B : ℕ → Type 0) (m todo r : ℕ) : Type 0 where
  pub part : (j : ℕ) → bit j todo ≡ 1 → bit j m ≡ 1
  pub out : (j : ℕ) → bit j todo ≡ 1 → bit j r ≡ 0
  pub sub : (j : ℕ) → bit j r ≡ 1 → bit j m ≡ 1
  pub holds : (j : ℕ) → bit j r ≡ 1 → A j
  pub fails : (j : ℕ) → bit j m ≡ 1 → bit j todo ≡ 0 → bit j r ≡ 0 → B j

module _ (A B : ℕ → Type 0) (m : ℕ) where
  pub pick-start : Picking A B m m 0
  pick-start = record {
    part = λ j o. o;
    out = λ j o. bit-none j;
    sub = λ j o. absurd (clash (bit-none j) o);
    holds = λ j o. absurd (clash (bit-none j) o);
    fails = λ j o z. absurd (clash z o);
  }

  pick-skip : {todo r : ℕ} (j : ℕ) → Picking A B m todo r → bit j todo ≡ 1 → B j → Picking A B m (flip todo j) r
  pick-skip {todo} {r} j a o bad = record {
    part = λ c p. a.part c (cleared todo j o c p).0;
    out = λ c p. a.out c (cleared todo j o c p).0;
    sub = a.sub;
    holds = a.holds;
    fails = λ c p z q. ⊎_elim (λ e. subst B (sym e) bad) (λ ne. a.fails c p (sym (flip-other todo j c ne) ∙ z) q) (same_or c j);
  }

  pick-take : {todo r : ℕ} (j : ℕ) → Picking A B m todo r → bit j todo ≡ 1 → A j → Picking A B m (flip todo j) (flip r j)
  pick-take {todo} {r} j a o good =
      let on : bit j (flip r j) ≡ 1 = flip-same r j ∙ ap (λ (y : ℕ). 1 - y) (a.out j o) in
      record {
        part = λ c p. a.part c (cleared todo j o c p).0;
        out = λ c p. let x = cleared todo j o c p in flip-other r j c x.1 ∙ a.out c x.0;
        sub = λ c p. ⊎_elim (λ e. subst (λ (y : ℕ). bit y m ≡ 1) (sym e) (a.part j o)) (λ ne. a.sub c (sym (flip-other r j c ne) ∙ p)) (same_or c j);
        holds = λ c p. ⊎_elim (λ e. subst A (sym e) good) (λ ne. a.holds c (sym (flip-other r j c ne) ∙ p)) (same_or c j);
        fails = λ c p z q. ⊎_elim
            (λ e. absurd (clash q (subst (λ (y : ℕ). bit y (flip r j) ≡ 1) (sym e) on)))
            (λ ne. a.fails c p (sym (flip-other todo j c ne) ∙ z) (sym (flip-other r j c ne) ∙ q)) (same_or c j);
      }

  pub pick-step : {todo r : ℕ} (j x after next : ℕ) → Picking A B m todo r → bit j todo ≡ 1 → (x ≡ 0 → A j) → (x ≢ 0 → B j) → Kept r j x after → next ≡ flip todo j
      → Picking A B m next after
  pick-step {todo} {r} j x after next a o good bad k e = subst (λ (y : ℕ). Picking A B m y after) (sym e) (⊎_elim
      (λ z. subst (Picking A B m (flip todo j)) (sym (k.zero z)) (pick-take j a o (good z)))
      (λ ne. subst (Picking A B m (flip todo j)) (sym (k.other ne)) (pick-skip j a o (bad ne))) (same_or x 0))

  pub pick_all : {todo r : ℕ} → Picking A B m todo r → todo ≡ 0 → Chosen A B m r
  pick_all {todo} {r} a z = record { sub = a.sub; holds = a.holds; fails = λ j o. a.fails j o (ap (bit j) z ∙ bit-none j) }

-- ---- a dimension that parts two targets

pub record Parting (m : ℕ) (to : ℕ → ℕ) (b : ℕ) : Type 0 where
  pub small : b < 64
  pub x : ℕ
  pub y : ℕ
  pub x_in : bit x m ≡ 1
  pub y_in : bit y m ≡ 1
  pub differ : bit b (to x) ≢ bit b (to y)

pub more_left : (m x : ℕ) → 2 ≤ ones m → bit x m ≡ 1 → flip m x ≢ 0
more_left m x h o e = omega (arith, ones_clear x m o, ap ones e, ones-zero)

pub two_apart : (m : ℕ) (to : ℕ → ℕ) (x y rest t u : ℕ) → rest ≡ flip m x → bit x m ≡ 1 → bit y rest ≡ 1 → t ≡ to x → u ≡ to y
    → ((i j : ℕ) → bit i m ≡ 1 → bit j m ≡ 1 → i ≢ j → to i ≢ to j) → bit_xor t u ≢ 0
two_apart m to x y rest t u e o p ex ey d z =
    let q = cleared m x o y (subst (λ (k : ℕ). bit y k ≡ 1) e p) in
    d x y o q.0 (λ k. q.1 (sym k)) (sym ex ∙ xor-zero-eq t u z ∙ ey)

pub parting_is : (m : ℕ) (to : ℕ → ℕ) (x y rest t u b : ℕ) → rest ≡ flip m x → bit x m ≡ 1 → bit y rest ≡ 1 → t ≡ to x → u ≡ to y → Lowest 64 (bit_xor t u) b → Parting m to b
parting_is m to x y rest t u b e o p ex ey l = record {
  small = l.within;
  x = x;
  y = y;
  x_in = o;
  y_in = (cleared m x o y (subst (λ (k : ℕ). bit y k ≡ 1) e p)).0;
  differ = λ z. differs_bit b t u l.set (ap (bit b) ex ∙ z ∙ sym (ap (bit b) ey));
}

-- ---- a relay beside f

abbrev pub Marked : ℕ → ℕ → ℕ → Type 0
Marked taken x r = ((i : ℕ) × (x ≡ 2 ^ i) × Plus taken i r) ⊎ (((i : ℕ) → x ≢ 2 ^ i) × (r ≡ taken))

pub marked-one : (taken x : ℕ) → (i : ℕ) × (i < 64) × (x ≡ 2 ^ i) → Marked taken x (bit_or taken x)
marked-one taken x a = inl (a.0, a.2, subst (λ (y : ℕ). Plus taken a.0 (bit_or taken y)) (sym a.2) (plus_or taken a.0))

pub record Beside (rest f shut m : ℕ) (to : ℕ → ℕ) (w : ℕ) : Type 0 where
  pub small : w < 64
  pub within : bit w rest ≡ 1
  pub ajar : bit w shut ≡ 0
  pub none : (j : ℕ) → bit j m ≡ 1 → to j ≢ flip f w

pub take_step : (f shut m : ℕ) (to : ℕ → ℕ) (todo taken j t after next : ℕ) → Taking f shut m todo taken to → bit j todo ≡ 1 → t ≡ to j → Marked taken (bit_xor f t) after
    → next ≡ flip todo j → Taking f shut m next after to
take_step f shut m to todo taken j t after next a o et k₀ e =
    let k : Marked taken (bit_xor f (to j)) after = subst (λ (y : ℕ). Marked taken (bit_xor f y) after) et k₀ in
    subst (λ (y : ℕ). Taking f shut m y after to) (sym e) (⊎_elim
    (λ x. take-one f shut m to j x.0 after a o (flip_of f (to j) x.0 x.1) x.2)
    (λ x. subst (λ (y : ℕ). Taking f shut m (flip todo j) y to) (sym x.1) (take-skip f shut m to j a o (λ i q. x.0 i (of-flip f (to j) i q)))) k)

pub beside_some : (rest f shut m : ℕ) (to : ℕ → ℕ) (todo taken : ℕ) → Taking f shut m todo taken to → todo ≡ 0 → ones shut + ones m < ones rest → less rest taken ≢ 0
beside_some rest f shut m to todo taken a z h = less-some rest taken (omega (arith, a.count))

pub beside_is : (rest f shut m : ℕ) (to : ℕ → ℕ) (todo taken left w : ℕ) → Taking f shut m todo taken to → todo ≡ 0 → left ≡ less rest taken → Lowest 64 left w → Beside rest f shut m to w
beside_is rest f shut m to todo taken left w a z e l =
    let on = less-on w rest taken (sym (ap (bit w) e) ∙ l.set) in
    record {
      small = l.within;
      within = on.0;
      ajar = bit-not-one w shut (λ o. clash on.1 (a.shut w o));
      none = λ j o. taken_none f shut m to w j (subst (λ (y : ℕ). Taking f shut m y taken to) z a) on.1 o;
    }

-- ---- the targets of the far rows

pub record StoodIn (w rest f far home : ℕ) (before after : List ℕ) : Type 0 where
  pub keeps : Keeps w far before after
  pub none : home ≡ 0 → after ≡ before
  pub some : home ≢ 0 → (h d : ℕ) × (bit h home ≡ 1) × (bit d rest ≡ 1) × (hops w after h ≡ flip f d ∷ []) × ((j : ℕ) → j ≢ h → hops w after j ≡ hops w before j)
      × ((j : ℕ) → bit j (flip far h) ≡ 1 → target w before j ≢ flip f d)

pub stood_none : (w rest f far home : ℕ) (g : List ℕ) → home ≡ 0 → StoodIn w rest f far home g g
stood_none w rest f far home g z = record { keeps = keeps_none w far g; none = λ e. refl; some = λ ne. absurd (ne z) }

pub stood_some : (w rest f shut far home h d left v : ℕ) (g k : List ℕ) → bit h home ≡ 1 → bit h far ≡ 1 → left ≡ flip far h → Beside rest f shut left (target w g) d
    → v ≡ flip f d → Sets w g k h (v ∷ []) → StoodIn w rest f far home g k
stood_some w rest f shut far home h d left v g k o in-far e b q a = record {
  keeps = keeps_one h in-far a.only;
  none = λ z. absurd (clash (ap (bit h) z ∙ bit-none h) o);
  some = λ ne. (
    h,
    d,
    o,
    b.within,
    a.is ∙ ap (λ (x : ℕ). x ∷ []) q,
    only_rest a.only,
    λ j p. b.none j (subst (λ (y : ℕ). bit j y ≡ 1) (sym e) p),
  );
}
