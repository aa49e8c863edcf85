-- The rows of the grid before and after the recursion: each begins with its target (`Begun`), and becomes a path as it is lent (`Settled`, `Spread`).
-- `fan-asked`: what the caller shows is what the recursion asks; `fan_given`: what it gives is laid out. Assumes nothing.
use Rattle.std.specs.Prelude.{ℕ, zero, suc, ◌+◌, ◌-◌, ◌*◌, ◌^◌, ◌≤◌, ◌<◌, min, ◌≡◌, refl, ◌⊎◌, ◌≢◌, List, [], ◌∷◌, length, get_or, set, replicate}
use Rattle.std.proofs.Common.{sym, ap, ◌∙◌, subst, inl, ⊎_elim, arith, get_or-set_same, get_or-set_other}
use Rattle.std.proofs.Math.Logic.{inr}
use Rattle.std.specs.Int.Count.{ones, ones-ones}
use Rattle.std.proofs.Math.ListN.{get_or-eq_default}
use Rattle.std.proofs.lemmas.List.Edits.{sets}
use Rattle.bits.specs.Bit.{bit}
use Rattle.bits.specs.Laws.{lt-or-le, same_or}
use Rattle.scan.specs.Runs.{Shifted, filled_in, filled_out}
use Rattle.paths.specs.Fan as fan
use Rattle.paths.specs.Lists.{ahead, ahead-at, ahead-length, Laid}
use Rattle.cube_math.specs.Doors.{Doors}
use Rattle.cube_math.specs.Request.{doors_same, request_same}
use Rattle.cube_math.specs.Plain.{bit-full, full-below, cube_request}
use Rattle.cube_rows.specs.Grid.{row_room, hops, hops-length, hops-same, target, lone-target, Sets, only_rest}
use Rattle.cube_split.specs.Plan.{Asked, Planned}

-- below i + 1 and not i
under : (j i : ℕ) → j < i + 1 → j ≢ i → j < i
under j i h ne = omega arith

-- ---- each row holds its target

-- the first r rows do; places after the last row are as they were
pub record Begun (w : ℕ) (targets : List ℕ) (r : ℕ) (before after : List ℕ) : Type 0 where
  pub is : (j : ℕ) → j < r → hops w after j ≡ get_or targets j 0 ∷ []
  pub beyond : (i : ℕ) → length targets * w ≤ i → get_or after i 0 ≡ get_or before i 0
  pub long : length after ≡ length before

pub begun-none : (w : ℕ) (targets : List ℕ) (r : ℕ) (g : List ℕ) → r ≡ 0 → Begun w targets r g g
begun-none w targets r g e = record { is = λ j h. absurd (omega arith); beyond = λ i h. refl; long = refl }

pub begun_more : (w : ℕ) (targets : List ℕ) (r : ℕ) (g h k : List ℕ) → Begun w targets r g h → r < length targets → Sets w h k r (get_or targets r 0 ∷ [])
    → Begun w targets (r + 1) g k
begun_more w targets r g h k a lt b = record {
  is = λ j q. ⊎_elim
      (λ e. subst (λ (y : ℕ). hops w k y ≡ get_or targets y 0 ∷ []) (sym e) b.is)
      (λ ne. only_rest b.only j ne ∙ a.is j (under j r q ne)) (same_or j r);
  beyond = λ i q. let u = row_room r (length targets) w lt in b.only.out i (inr (omega arith)) ∙ a.beyond i q;
  long = b.only.long ∙ a.long;
}

pub begun_all : {w : ℕ} {targets : List ℕ} {r k : ℕ} {g h : List ℕ} → r ≡ k → Begun w targets r g h → Begun w targets k g h
begun_all {w} {targets} {r} {k} {g} {h} e a = subst (λ (y : ℕ). Begun w targets y g h) e a

-- ---- filler

pub record Filled (from to : ℕ) (before after : List ℕ) : Type 0 where
  pub is : (i : ℕ) → from ≤ i → i < to → get_or after i 0 ≡ fan.filler
  pub rest : (i : ℕ) → (i < from) ⊎ (to ≤ i) → get_or after i 0 ≡ get_or before i 0

-- places that were filled
pub filled : (from n to : ℕ) {l m : List ℕ} → to ≡ from + n → to ≤ length l → m ≡ sets l from (replicate n fan.filler) → Filled from to l m
filled from n to {l} e h z = record {
  is = λ i a b. ap (λ (k : List ℕ). get_or k i 0) z ∙ filled_in l from n fan.filler i (omega arith) a (omega arith);
  rest = λ i a. ap (λ (k : List ℕ). get_or k i 0) z ∙ filled_out l from n fan.filler i (⊎_elim (λ (b : i < from). inl b) (λ b. inr (omega arith)) a);
}

-- ---- one row

-- the n relays at the end of the row stand after s, with filler after them
pub record Settled (s w at : ℕ) (before after : List ℕ) (n : ℕ) : Type 0 where
  pub hops : n ≡ get_or before at 0
  pub is : (p : ℕ) → p < w → get_or after (at + p) 0 ≡ get_or (s ∷ ahead before (at + w - n) n) p fan.filler
  pub rest : (i : ℕ) → (i < at) ⊎ (at + w ≤ i) → get_or after i 0 ≡ get_or before i 0

pub settled : (s w at n from : ℕ) (l m o : List ℕ) → n ≡ get_or l at 0 → n < w → at < length o → from ≡ at + w - n → Shifted (at + 1) from n l m
    → Filled (at + 1 + n) (at + w) m o → Settled s w at l (set o at s) n
settled s w at n from l m o e few lt ef a b = record {
  hops = e;
  is = λ p h. place p h;
  rest = λ i h. other i (λ z. ⊎_elim (λ (y : i < at). omega arith) (λ y. omega arith) h)
      ∙ b.rest i (⊎_elim (λ (y : i < at). inl (omega arith)) (λ y. inr y) h)
      ∙ a.rest i (⊎_elim (λ (y : i < at). inl (omega arith)) (λ y. inr (omega arith)) h);
}
  where
    other : (i : ℕ) → i ≢ at → get_or (set o at s) i 0 ≡ get_or o i 0
    other i ne = get_or-set_other o at i s 0 ne

    place : (p : ℕ) → p < w → get_or (set o at s) (at + p) 0 ≡ get_or (s ∷ ahead l (at + w - n) n) p fan.filler
    place zero h = ap (λ (i : ℕ). get_or (set o at s) i 0) (omega arith) ∙ get_or-set_same o at s 0 lt
    place (suc p) h = other (at + suc p) (λ z. omega arith) ∙ go (lt-or-le p n)
      where
        go : (p < n) ⊎ (n ≤ p) → get_or o (at + suc p) 0 ≡ get_or (ahead l (at + w - n) n) p fan.filler
        go (inl q) =
            b.rest (at + suc p) (inl (omega arith)) ∙ ap (λ (i : ℕ). get_or m i 0) (omega arith) ∙ a.is p q
            ∙ ap (λ (f : ℕ). get_or l (f + p) 0) ef ∙ sym (ahead-at l (at + w - n) n fan.filler p q)
        go (inr q) =
            b.is (at + suc p) (omega arith) (omega arith)
            ∙ sym (get_or-eq_default (ahead l (at + w - n) n) fan.filler {n = p} (omega (arith, ahead-length l (at + w - n) n)))

-- ---- all rows

-- the first r rows are paths as they are lent, with their hops; places after them and other counts are as they were
pub record Spread (s w r : ℕ) (before after counted counts : List ℕ) : Type 0 where
  pub at : (j p : ℕ) → j < r → p < w → get_or after (j * w + p) 0 ≡ get_or (s ∷ hops w before j) p fan.filler
  pub count : (j : ℕ) → j < r → get_or counts j 0 ≡ get_or before (j * w) 0
  pub ahead : (i : ℕ) → r * w ≤ i → get_or after i 0 ≡ get_or before i 0
  pub kept : (i : ℕ) → r ≤ i → get_or counts i 0 ≡ get_or counted i 0

pub spread_none : (s w r : ℕ) (l c : List ℕ) → r ≡ 0 → Spread s w r l l c c
spread_none s w r l c e = record { at = λ j p h. absurd (omega arith); count = λ j h. absurd (omega arith); ahead = λ i h. refl; kept = λ i h. refl }

pub spread_more : (s w r n : ℕ) (l m o c d : List ℕ) → Spread s w r l m c d → get_or l (r * w) 0 < w → r < length d → Settled s w (r * w) m o n
    → Spread s w (r + 1) l o c (set d r n)
unfolding hops
spread_more s w r n l m o c d a few lt b =
    let same : n ≡ get_or l (r * w) 0 = b.hops ∙ a.ahead (r * w) (omega arith) in
    let all : min w n ≡ n = whole n w (omega arith) in
    let path : ahead m (r * w + w - n) n ≡ hops w l r =
    sym (ap (λ (c : ℕ). ahead m (r * w + w - c) c) (ap (min w) (sym b.hops) ∙ all)) ∙ hops-same w r l m (λ i x y. a.ahead i x) in
    record {
      at = λ j p q h. ⊎_elim
          (λ z. subst (λ (y : ℕ). get_or o (y * w + p) 0 ≡ get_or (s ∷ hops w l y) p fan.filler) (sym z) (b.is p h ∙ ap (λ (x : List ℕ). get_or (s ∷ x) p fan.filler) path))
          (λ ne. let u = row_room j r w (under j r q ne) in b.rest (j * w + p) (inl (omega arith)) ∙ a.at j p (under j r q ne) h) (same_or j r);
      count = λ j q. ⊎_elim
          (λ z. ap (λ (y : ℕ). get_or (set d r n) y 0) z ∙ get_or-set_same d r n 0 lt ∙ same ∙ ap (λ (y : ℕ). get_or l (y * w) 0) (sym z))
          (λ ne. get_or-set_other d r j n 0 ne ∙ a.count j (under j r q ne)) (same_or j r);
      ahead = λ i q. let u = row_room r (r + 1) w (omega arith) in b.rest i (inr (omega arith)) ∙ a.ahead i (omega arith);
      kept = λ i q. get_or-set_other d r i n 0 (λ z. omega arith) ∙ a.kept i (omega arith);
    }
  where
    whole : (n w : ℕ) → n < w → min w n ≡ n
    whole n w h = omega arith

pub spread_all : {s w r k : ℕ} {l m c d : List ℕ} → r ≡ k → Spread s w r l m c d → Spread s w k l m c d
spread_all {s} {w} {r} {k} {l} {m} {c} {d} e a = subst (λ (y : ℕ). Spread s w y l m c d) e a

-- ---- the fan

-- what may be asked: different targets other than s, in the cube of n ≤ 32 dimensions, no more than there are dimensions that are not shut; and
-- room for what is written
pub record Sought (n s shut : ℕ) (targets places counts : List ℕ) : Type 0 where
  pub size : n ≤ 32
  pub few : length targets + ones shut ≤ n
  pub held : (i : ℕ) → bit i shut ≡ 1 → i < n
  pub source : s < 2 ^ n
  pub below : (j : ℕ) → j < length targets → get_or targets j 0 < 2 ^ n
  pub other : (j : ℕ) → j < length targets → get_or targets j 0 ≢ s
  pub differ : (i j : ℕ) → i < length targets → j < length targets → i ≢ j → get_or targets i 0 ≢ get_or targets j 0
  pub room : length targets * (n + 2) ≤ length places
  pub counted : length targets ≤ length counts

-- what is given: paths that are a fan through doors, laid out; what lies beyond is as it was
pub record Given (n s shut : ℕ) (targets places counts places₁ counts₁ : List ℕ) : Type 0 where
  pub paths : ℕ → List ℕ
  pub doors : Doors n (2 ^ n - 1) s shut (2 ^ length targets - 1) (λ j. get_or targets j 0) paths
  pub laid : Laid (n + 2) s (length targets) paths places₁ counts₁
  pub beyond : (i : ℕ) → length targets * (n + 2) ≤ i → get_or places₁ i 0 ≡ get_or places i 0
  pub kept : (i : ℕ) → length targets ≤ i → get_or counts₁ i 0 ≡ get_or counts i 0

module _ (n s shut : ℕ) (targets places counts g : List ℕ) (q : Sought n s shut targets places counts)
    (a : Begun (n + 2) targets (length targets) places g) where
  abbrev k : ℕ
  k = length targets

  abbrev to : ℕ → ℕ
  to j = get_or targets j 0

  -- the row of each target holds it
  held : (j : ℕ) → bit j (2 ^ k - 1) ≡ 1 → target (n + 2) g j ≡ to j
  held j o = lone-target (n + 2) g j (to j) (a.is j (full-below k j o))

  pub fan-asked : (free m : ℕ) → free ≡ 2 ^ n - 1 → m ≡ 2 ^ k - 1 → Asked free s shut m (n + 2) g
  fan-asked free m ef em =
      subst (λ (x : ℕ). Asked x s shut m (n + 2) g) (sym ef) (subst (λ (x : ℕ). Asked (2 ^ n - 1) s shut x (n + 2) g) (sym em) (record {
        request = request_same (target (n + 2) g) held (cube_request n s shut k to q.few q.held q.source q.below q.other q.differ);
        small = omega (arith, ones-ones n);
        rows = record { wide = omega arith; room = λ j o. omega (arith, row_room j k (n + 2) (full-below k j o), q.room, a.long) };
        new = record { is = λ j o. a.is j (full-below k j o) ∙ ap (λ (t : ℕ). t ∷ []) (sym (held j o)) };
      }))

  module _ (free m : ℕ) (g₁ : List ℕ) (ef : free ≡ 2 ^ n - 1) (em : m ≡ 2 ^ k - 1) (p : Planned free s shut m (n + 2) g g₁) where
    doors : Doors n (2 ^ n - 1) s shut (2 ^ k - 1) to (hops (n + 2) g₁)
    doors = doors_same to (λ j o. sym (held j o)) (subst (λ (c : ℕ). Doors c (2 ^ n - 1) s shut (2 ^ k - 1) (target (n + 2) g) (hops (n + 2) g₁)) (ones-ones n)
        (subst (λ (x : ℕ). Doors (ones (2 ^ n - 1)) (2 ^ n - 1) s shut x (target (n + 2) g) (hops (n + 2) g₁)) em
        (subst (λ (x : ℕ). Doors (ones x) x s shut m (target (n + 2) g) (hops (n + 2) g₁)) ef p.fan)))

    -- each row says how many relays it has
    pub fan-count : (j : ℕ) → j < k → get_or g₁ (j * (n + 2)) 0 < n + 2
    fan-count j h = omega (arith, (doors.each j (bit-full k j h)).short, hops-length (n + 2) g₁ j)

    pub fan_given : (places₁ counts₁ : List ℕ) → Spread s (n + 2) k g₁ places₁ counts counts₁ → Given n s shut targets places counts places₁ counts₁
    unfolding fan.relay fan.hops
    fan_given places₁ counts₁ b = record {
      paths = hops (n + 2) g₁;
      doors = doors;
      laid = record {
        at = λ i c h l. b.at i c h l;
        count = λ i h. b.count i h ∙ omega (arith, fan-count i h, hops-length (n + 2) g₁ i);
      };
      beyond = λ i h. b.ahead i h ∙ p.keeps.out i (λ j o. let u = row_room j k (n + 2) (below j o) in inr (omega arith)) ∙ a.beyond i h;
      kept = b.kept;
    }
      where
        below : (j : ℕ) → bit j m ≡ 1 → j < k
        below j o = full-below k j (sym (ap (bit j) em) ∙ o)
