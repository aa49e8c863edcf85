-- Paths written row by row into filled places: what the loop over the paths keeps (`Drawing`), and that the rows are then laid out
-- (`drawing-laid`). Assumes nothing.
use Rattle.std.specs.Prelude.{ℕ, zero, suc, ◌+◌, ◌*◌, ◌≤◌, ◌<◌, ◌≡◌, refl, ◌⊎◌, List, [], ◌∷◌, length, set}
use Rattle.std.proofs.Common.{sym, ap, ◌∙◌, subst, inl, inr, ⊎_elim, suc-mul, mul-le-mul_right, add-one, arith, length-set, get_or-set_same, get_or-set_other}
use Rattle.std.proofs.Math.Decide.{ℕ_discrete}
use Rattle.std.proofs.Math.ListN.{get_or, get_or-eq_default}
use Rattle.std.proofs.lemmas.List.Edits.{sets}
use Rattle.std.proofs.Math.Seq.{length-sets}
use Rattle.bits.specs.Laws.{lt-or-le}
use Rattle.paths.specs.Fan as fan
use Rattle.paths.specs.Mesh.{Mesh, width}
use Rattle.paths.specs.Lists.{Laid, Lists}
use Rattle.requests.specs.Sound.{Sound}

-- ---- a run written into a list

pub get_d_sets_out : (l : List ℕ) (a : ℕ) (vs : List ℕ) (i : ℕ) → (i < a) ⊎ (a + length vs ≤ i) → get_or (sets l a vs) i 0 ≡ get_or l i 0
get_d_sets_out l a [] i h = refl
get_d_sets_out l a (v ∷ vs) i h =
    get_d_sets_out (set l a v) (suc a) vs i (⊎_elim (λ z. inl (omega arith)) (λ z. inr (omega arith)) h)
    ∙ get_or-set_other l a i v 0 (λ e. ⊎_elim (λ z. omega arith) (λ z. omega arith) h)

pub get_d_sets_in : (l : List ℕ) (a : ℕ) (vs : List ℕ) (i d : ℕ) → i < length vs → a + length vs ≤ length l → get_or (sets l a vs) (a + i) 0 ≡ get_or vs i d
get_d_sets_in l a [] i d h r = absurd (omega arith)
get_d_sets_in l a (v ∷ vs) zero d h r =
    ap (λ (y : ℕ). get_or (sets (set l a v) (suc a) vs) y 0) (omega arith) ∙ get_d_sets_out (set l a v) (suc a) vs a (inl (omega arith)) ∙ get_or-set_same l a v 0 (omega arith)
get_d_sets_in l a (v ∷ vs) (suc i) d h r =
    ap (λ (y : ℕ). get_or (sets (set l a v) (suc a) vs) y 0) (omega arith) ∙ get_d_sets_in (set l a v) (suc a) vs i d (omega arith) (omega (arith, length-set l a v))

pub row_room : (j k w : ℕ) → j < k → j * w + w ≤ k * w
row_room j k w h = rw suc-mul at (mul-le-mul_right {m = suc j} w h)

-- ---- rows

-- path i is l: it stands in its w places, its source first and filler after its end
pub record Row (w s : ℕ) (places counts : List ℕ) (i : ℕ) (l : List ℕ) : Type 0 where
  pub at : (p : ℕ) → p < w → get_or places (i * w + p) 0 ≡ get_or (s ∷ l) p fan.filler
  pub count : get_or counts i 0 ≡ length l

-- the first j of k paths are written, each with the property P
pub record Drawing (w s k : ℕ) (P : ℕ → List ℕ → Type 0) (places₀ counts₀ places counts : List ℕ) (j : ℕ) : Type 0 where
  pub bound : j ≤ k
  pub row : (i : ℕ) → i < j → (l : List ℕ) × P i l × Row w s places counts i l
  pub ahead : (x : ℕ) → j * w ≤ x → x < k * w → get_or places x 0 ≡ fan.filler
  pub rest : (x : ℕ) → k * w ≤ x → get_or places x 0 ≡ get_or places₀ x 0
  pub kept : (x : ℕ) → j ≤ x → get_or counts x 0 ≡ get_or counts₀ x 0
  pub room : k * w ≤ length places
  pub room-counts : k ≤ length counts
  pub long : length places ≡ length places₀
  pub long_counts : length counts ≡ length counts₀

pub drawing_none : (w s k : ℕ) (P : ℕ → List ℕ → Type 0) (places counts : List ℕ) → k * w ≤ length places → k ≤ length counts
    → ((x : ℕ) → x < k * w → get_or places x 0 ≡ fan.filler) → Drawing w s k P places counts places counts 0
drawing_none w s k P places counts a b f = record {
  bound = omega arith;
  row = λ i h. absurd (omega arith);
  ahead = λ x h. f x;
  rest = λ x h. refl;
  kept = λ x h. refl;
  room = a;
  room-counts = b;
  long = refl;
  long_counts = refl;
}

module _ {w s k : ℕ} {P : ℕ → List ℕ → Type 0} {places₀ counts₀ places counts : List ℕ} {j : ℕ} (d : Drawing w s k P places₀ counts₀ places counts j) (lt : j < k) where
  -- one path more
  pub drawing_more : (l : List ℕ) (n : ℕ) (places₁ : List ℕ) → P j l → length l < w → places₁ ≡ sets places (j * w) (s ∷ l) → n ≡ length l
      → Drawing w s k P places₀ counts₀ places₁ (set counts j n) (j + 1)
  drawing_more l n places₁ p short e en = record {
    bound = omega arith;
    row = λ i h. by i h (ℕ_discrete i j);
    ahead = λ x h g. out x (inr (omega (arith, next))) ∙ d.ahead x (omega (arith, next)) g;
    rest = λ x h. out x (inr (omega (arith, row_room j k w lt))) ∙ d.rest x h;
    kept = λ x h. get_or-set_other counts j x n 0 (λ z. omega arith) ∙ d.kept x (omega arith);
    room = omega (arith, same, d.room);
    room-counts = omega (arith, length-set counts j n, d.room-counts);
    long = same ∙ d.long;
    long_counts = length-set counts j n ∙ d.long_counts;
  }
    where
      next : (j + 1) * w ≡ j * w + w
      next = ap (λ (y : ℕ). y * w) (add-one j) ∙ suc-mul j w

      same : length places₁ ≡ length places
      same = ap length e ∙ length-sets places (j * w) (s ∷ l)

      out : (x : ℕ) → (x < j * w) ⊎ (j * w + suc (length l) ≤ x) → get_or places₁ x 0 ≡ get_or places x 0
      out x h = ap (λ (y : List ℕ). get_or y x 0) e ∙ get_d_sets_out places (j * w) (s ∷ l) x h

      new : Row w s places₁ (set counts j n) j l
      new = record {
        at = λ p h. ⊎_elim
            (λ g. ap (λ (y : List ℕ). get_or y (j * w + p) 0) e ∙ get_d_sets_in places (j * w) (s ∷ l) p fan.filler g (omega (arith, row_room j k w lt, d.room)))
            (λ g. out (j * w + p) (inr (omega arith)) ∙ d.ahead (j * w + p) (omega arith) (omega (arith, row_room j k w lt)) ∙ sym (get_or-eq_default (s ∷ l) fan.filler {n = p} g))
            (lt-or-le p (suc (length l)));
        count = get_or-set_same counts j n 0 (omega (arith, d.room-counts)) ∙ en;
      }

      old : (i : ℕ) → i < j → (l : List ℕ) × P i l × Row w s places₁ (set counts j n) i l
      old i h =
          let r = d.row i h in (
            r.0,
            r.1,
            record {
              at = λ p g. out (i * w + p) (inl (omega (arith, row_room i j w h))) ∙ r.2.at p g;
              count = get_or-set_other counts j i n 0 (λ z. omega arith) ∙ r.2.count;
            },
          )

      by : (i : ℕ) → i < j + 1 → Dec (i ≡ j) → (l : List ℕ) × P i l × Row w s places₁ (set counts j n) i l
      by i h (yes z) = subst (λ (y : ℕ). (l : List ℕ) × P y l × Row w s places₁ (set counts j n) y l) (sym z) (l, p, new)
      by i h (no ne) = old i (omega arith)

-- ---- all rows

module _ {w s k : ℕ} {P : ℕ → List ℕ → Type 0} {places₀ counts₀ places counts : List ℕ} (d : Drawing w s k P places₀ counts₀ places counts k) where
  path-or : (j : ℕ) → (j < k) ⊎ (k ≤ j) → List ℕ
  path-or j (inl h) = (d.row j h).0
  path-or j (inr h) = []

  -- the paths
  pub drawn : ℕ → List ℕ
  drawn j = path-or j (lt-or-le j k)

  pub drawn-has : (j : ℕ) → j < k → P j (drawn j)
  unfolding drawn path-or
  drawn-has j h = by (lt-or-le j k)
    where
      by : (c : (j < k) ⊎ (k ≤ j)) → P j (path-or j c)
      by (inl g) = (d.row j g).1
      by (inr g) = absurd (omega arith)

  pub drawn-laid : Laid w s k drawn places counts
  unfolding drawn path-or fan.relay fan.hops
  drawn-laid = record { at = λ i p h g. at i p h g (lt-or-le i k); count = λ i h. count i h (lt-or-le i k) }
    where
      at : (i p : ℕ) → i < k → p < w → (c : (i < k) ⊎ (k ≤ i)) → get_or places (i * w + p) 0 ≡ get_or (s ∷ path-or i c) p fan.filler
      at i p h g (inl c) = (d.row i c).2.at p g
      at i p h g (inr c) = absurd (omega arith)

      count : (i : ℕ) → i < k → (c : (i < k) ⊎ (k ≤ i)) → get_or counts i 0 ≡ length (path-or i c)
      count i h (inl c) = (d.row i c).2.count
      count i h (inr c) = absurd (omega arith)

-- ---- what each of the planner's three ways is asked, and what it gives

-- a sound request, with the places of its paths filled
pub record Ready (mesh : Mesh) (s : ℕ) (targets places counts : List ℕ) : Type 0 where
  pub sound : Sound mesh.relays mesh.links s targets
  pub room : length targets * width mesh ≤ length places
  pub room-counts : length targets ≤ length counts
  pub filled : (x : ℕ) → x < length targets * width mesh → get_or places x 0 ≡ fan.filler

-- a fan is laid out in them, and what lies beyond is as it was
pub record Drawn (mesh : Mesh) (s : ℕ) (targets places counts places₁ counts₁ : List ℕ) : Type 0 where
  pub paths : ℕ → List ℕ
  pub fan : Lists mesh s targets paths
  pub laid : Laid (width mesh) s (length targets) paths places₁ counts₁
  pub rest : (x : ℕ) → length targets * width mesh ≤ x → get_or places₁ x 0 ≡ get_or places x 0
  pub kept : (x : ℕ) → length targets ≤ x → get_or counts₁ x 0 ≡ get_or counts x 0

pub ready_drawing : {mesh : Mesh} {s : ℕ} {targets places counts : List ℕ} (P : ℕ → List ℕ → Type 0) → Ready mesh s targets places counts
    → Drawing (width mesh) s (length targets) P places counts places counts 0
ready_drawing {mesh} {s} {targets} {places} {counts} P r = drawing_none (width mesh) s (length targets) P places counts r.room r.room-counts r.filled

-- all paths written, and they are a fan
pub drawing_drawn : {mesh : Mesh} {s : ℕ} {targets places counts places₁ counts₁ : List ℕ} {P : ℕ → List ℕ → Type 0}
    → (d : Drawing (width mesh) s (length targets) P places counts places₁ counts₁ (length targets)) → Lists mesh s targets (drawn d) → Drawn mesh s targets places counts places₁ counts₁
drawing_drawn d f = record { paths = drawn d; fan = f; laid = drawn-laid d; rest = d.rest; kept = d.kept }

-- the same lists are the same fan
pub lists_same : {mesh : Mesh} {s : ℕ} {targets : List ℕ} {f g : ℕ → List ℕ} → Lists mesh s targets f → ((j : ℕ) → j < length targets → g j ≡ f j) → Lists mesh s targets g
lists_same {mesh} {s} {targets} {f} {g} q same = record {
  chain = λ j h. rw (same j h) (q.chain j h);
  short = λ j h. rw (same j h) (q.short j h);
  fresh = λ j h. rw (same j h) (q.fresh j h);
  apart = λ i j h l ne x a b. q.apart i j h l ne x (rw (same i h) at a) (rw (same j l) at b);
}
