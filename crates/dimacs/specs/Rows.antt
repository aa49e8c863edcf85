-- The lines of a relay come in the order of its links: link by link, those that lead higher are the row of the mesh (`by_links`). That holds of links that rise (`Rising`): of two that lead higher, the later leads
-- higher still. So it is in every mesh that is planned (`planned_rising`). Assumes nothing.
use Rattle.std.specs.Prelude.{ℕ, zero, suc, ◌+◌, ◌-◌, ◌/◌, ◌^◌, ◌≤◌, ◌<◌, ◌≡◌, Bool, true, false, ◌&&◌, ◌⊎◌, List, [], ◌∷◌, ◌++◌, ltb}
use Rattle.std.proofs.Math.Path.{refl, sym}
use Rattle.std.proofs.Common.{ap, ap₂, ◌∙◌, inl, inr, ⊎_elim, append-nil, arith, le-div_iff_mul-le, mul_comm, add-zero, add-suc, pow_pos, lt-ltb, le-ltb, ltb-true}
use Rattle.std.proofs.Math.Nat.{mul-div-le}
use Rattle.bits.specs.Bit.{flip}
use Rattle.bits.specs.Laws.{flip-moves, lt-or-le}
use Rattle.bits.specs.Parts.{flip-low-div, flip_high_div}
use Rattle.scan.specs.Scan.{pick}
use Rattle.scan.specs.Laws.{true-or, both_true}
use Rattle.paths.specs.Mesh.{Mesh}
use Rattle.paths.specs.Links.{Links}
use Rattle.cube.specs.Cube.{cube}
use Rattle.cube.specs.Links as plain
use Rattle.two_parts.specs.Two as two
use Rattle.two_parts.specs.Near as parts
use Rattle.two_parts.proofs.NearLaws as partLinks
use Rattle.mesh.specs.Kinds.{Kind, kind_of, mesh_of, planned}
use Rattle.mesh.specs.Laws.{planned_case}
use Rattle.dimacs.specs.Text.{Edge, edge, each, upward, row}

-- ---- one after another

module _ {A : Type 0} (f : ℕ → List A) where
  pub each_none : each f 0 ≡ []
  unfolding each
  each_none = refl

  pub each_more : (n : ℕ) → each f (suc n) ≡ each f n ++ f n
  unfolding each
  each_more n = refl

  -- what stands for nothing adds nothing
  pub each_idle : (a k : ℕ) → ((i : ℕ) → a ≤ i → i < a + k → f i ≡ []) → each f (a + k) ≡ each f a
  each_idle a zero h = ap (each f) (add-zero a)
  each_idle a (suc k) h =
      ap (each f) (add-suc a k) ∙ each_more (a + k) ∙ ap (λ (l : List A). each f (a + k) ++ l) (h (a + k) (omega arith) (omega arith)) ∙ append-nil (each f (a + k))
      ∙ each_idle a k (λ i p q. h i p (omega arith))

  pub each-up-to : (a b : ℕ) → a ≤ b → ((i : ℕ) → a ≤ i → i < b → f i ≡ []) → each f b ≡ each f a
  each-up-to a b l h =
      let e : a + (b - a) ≡ b = omega arith in
      ap (each f) (sym e) ∙ each_idle a (b - a) (λ i p q. h i p (omega arith))

-- ---- links that rise

pub record Rising (m : Mesh) (near : ℕ → ℕ → ℕ) : Type 0 where
  pub links : Links m near
  pub rise : (u i j : ℕ) → u < m.relays → i < j → j < m.links → u < near u j → near u i < near u j

-- the line of u and v, where u is the lower
abbrev pub onward : ℕ → ℕ → List Edge
onward u v = pick (ltb u v) (edge (u + 1) (v + 1) ∷ []) []

pub onward-up : (u v : ℕ) → u < v → onward u v ≡ edge (u + 1) (v + 1) ∷ []
onward-up u v h = ap (λ (b : Bool). pick b (edge (u + 1) (v + 1) ∷ []) []) (lt-ltb u v h)

pub onward_down : (u v : ℕ) → v ≤ u → onward u v ≡ []
onward_down u v h = ap (λ (b : Bool). pick b (edge (u + 1) (v + 1) ∷ []) []) (le-ltb u v h)

module _ (m : Mesh) (u v : ℕ) where
  upward-on : u < v → m.linked u v ≡ true → upward m u v ≡ edge (u + 1) (v + 1) ∷ []
  upward-on h e = ap₂ (λ (a b : Bool). pick (a && b) (edge (u + 1) (v + 1) ∷ []) []) (lt-ltb u v h) e

  upward_down : v ≤ u → upward m u v ≡ []
  upward_down h = ap (λ (a : Bool). pick (a && m.linked u v) (edge (u + 1) (v + 1) ∷ []) []) (le-ltb u v h)

  upward-none : ((u < v) × (m.linked u v ≡ true) → ⊥) → upward m u v ≡ []
  upward-none ne = go (true-or (ltb u v && m.linked u v))
    where
      go : (ltb u v && m.linked u v ≡ true) ⊎ (ltb u v && m.linked u v ≡ false) → upward m u v ≡ []
      go (inl t) = let (a, b) = both_true (ltb u v) (m.linked u v) t in absurd (ne (ltb-true u v a, b))
      go (inr f) = ap (λ (a : Bool). pick a (edge (u + 1) (v + 1) ∷ []) []) f

module _ (m : Mesh) (near : ℕ → ℕ → ℕ) (r : Rising m near) (u : ℕ) (h : u < m.relays) where
  -- the links below i are gone through, and with them the relays below b
  record Walked (i : ℕ) : Type 0 where
    pub b : ℕ
    pub above : u < b
    pub top : b ≤ m.relays
    pub same : each (upward m u) b ≡ each (λ j. onward u (near u j)) i
    pub behind : (j : ℕ) → j < i → near u j < b
    pub ahead : (j : ℕ) → i ≤ j → j < m.links → u < near u j → b ≤ near u j

  walk_start : Walked 0
  walk_start = record {
    b = u + 1;
    above = omega arith;
    top = omega arith;
    same = each-up-to (upward m u) 0 (u + 1) (omega arith) (λ v p q. upward_down m u v (omega arith)) ∙ each_none (upward m u) ∙ sym (each_none (λ j. onward u (near u j)));
    behind = λ j l. absurd (omega arith);
    ahead = λ j p q g. omega arith;
  }

  -- a relay at b or above that is linked is at the end of a link that is ahead
  module _ {i : ℕ} (w : Walked i) where
    idle : (v : ℕ) → w.b ≤ v → v < m.relays → ((j : ℕ) → i ≤ j → j < m.links → near u j ≡ v → ⊥) → upward m u v ≡ []
    idle v p q ne = upward-none m u v (λ (a, e). let (j, l, z) = r.links.all u v h q e in ⊎_elim (λ (y : j < i). let g = w.behind j y in omega arith) (λ y. ne j y l z) (lt-or-le j i))

    walk_more : i < m.links → Walked (suc i)
    walk_more l = go (lt-or-le u (near u i))
      where
        go : (u < near u i) ⊎ (near u i ≤ u) → Walked (suc i)
        go (inl g) = record {
          b = suc (near u i);
          above = omega arith;
          top = r.links.below u i h l;
          same =
              each_more (upward m u) (near u i)
              ∙ ap₂ (λ (x y : List Edge). x ++ y)
              (each-up-to (upward m u) w.b (near u i) (w.ahead i (omega arith) l g) (λ x p q.
              idle x p (omega (arith, r.links.below u i h l)) (λ j y k z.
              ⊎_elim (λ (s : i < j). let rises = r.rise u i j h s k (omega (arith, w.above)) in omega arith) (λ (s : j ≤ i). let e : j ≡ i = omega arith in let f : near u j ≡ near u i = ap (near u) e in omega arith) (lt-or-le i j)))
              ∙ w.same)
              (upward-on m u (near u i) g (r.links.linked u i h l) ∙ sym (onward-up u (near u i) g))
              ∙ sym (each_more (λ j. onward u (near u j)) i);
          behind = λ j y. ⊎_elim (λ (s : j < i). omega (arith, w.behind j s, w.ahead i (omega arith) l g)) (λ (s : i ≤ j). let e : j ≡ i = omega arith in let f : near u j ≡ near u i = ap (near u) e in omega arith) (lt-or-le j i);
          ahead = λ j y k z. r.rise u i j h (omega arith) k z;
        }
        go (inr g) = record {
          b = w.b;
          above = w.above;
          top = w.top;
          same =
              w.same ∙ sym (append-nil (each (λ j. onward u (near u j)) i))
              ∙ ap (λ (x : List Edge). each (λ j. onward u (near u j)) i ++ x) (sym (onward_down u (near u i) g))
              ∙ sym (each_more (λ j. onward u (near u j)) i);
          behind = λ j y. ⊎_elim (λ (s : j < i). w.behind j s) (λ (s : i ≤ j). let e : j ≡ i = omega arith in let f : near u j ≡ near u i = ap (near u) e in omega (arith, w.above)) (lt-or-le j i);
          ahead = λ j y k z. w.ahead j (omega arith) k z;
        }

  walks : (i : ℕ) → i ≤ m.links → Walked i
  walks zero l = walk_start
  walks (suc i) l = walk_more (walks i (omega arith)) (omega arith)

  pub by_links : each (λ j. onward u (near u j)) m.links ≡ row m u
  unfolding row
  by_links =
      let w = walks m.links (omega arith) in
      sym w.same ∙ sym (each-up-to (upward m u) w.b m.relays w.top (λ v p q. idle w v p q (λ j y k z. omega arith)))

-- ---- the kinds

div_mono : (k a b : ℕ) → 0 < k → a ≤ b → a / k ≤ b / k
div_mono k a b p h = (le-div_iff_mul-le {k = k} {y = b} p).1 (omega (arith, mul-div-le a k, mul_comm k (a / k)))

-- of two bits that are changed the higher decides
flip_rise : (u d e : ℕ) → d < e → u < flip u e → flip u d < flip u e
flip_rise u d e l h = go (lt-or-le (flip u d) (flip u e))
  where
    high : flip u e / 2 ^ e ≡ flip (u / 2 ^ e) 0
    high = ap (λ (x : ℕ). flip u x / 2 ^ e) (sym (add-zero e)) ∙ flip_high_div e u 0

    go : (flip u d < flip u e) ⊎ (flip u e ≤ flip u d) → flip u d < flip u e
    go (inl g) = g
    go (inr g) =
        let a : flip u e / 2 ^ e ≤ flip u d / 2 ^ e = div_mono (2 ^ e) (flip u e) (flip u d) (pow_pos e) g in
        let b : u / 2 ^ e ≤ flip u e / 2 ^ e = div_mono (2 ^ e) u (flip u e) (pow_pos e) (omega arith) in
        absurd (flip-moves (u / 2 ^ e) 0 (omega (arith, high, flip-low-div e u d l)))

cube_rising : (n : ℕ) → Rising (cube n) flip
cube_rising n = record { links = plain.links n; rise = λ u i j h l k g. flip_rise u i j l g }

-- the slot's bits in their order, then one of the block's, which stand above them
door_rise : (m u i j : ℕ) → i < j → j < m + 1 → parts.door m u i < parts.door m u j
unfolding parts.door
door_rise m u i j l h = go (lt-or-le j m)
  where
    low : pick (ltb i m) i (m + two.slot_of m u) ≡ i
    low = ap (λ (x : Bool). pick x i (m + two.slot_of m u)) (lt-ltb i m (omega arith))

    go : (j < m) ⊎ (m ≤ j) → pick (ltb i m) i (m + two.slot_of m u) < pick (ltb j m) j (m + two.slot_of m u)
    go (inl g) = omega (arith, low, ap (λ (x : Bool). pick x j (m + two.slot_of m u)) (lt-ltb j m g))
    go (inr g) = omega (arith, low, ap (λ (x : Bool). pick x j (m + two.slot_of m u)) (le-ltb j m g))

two_rising : (m : ℕ) → Rising (two.two m) (parts.near m)
two_rising m = record {
  links = partLinks.links m;
  rise = λ u i j h l k g.
      let a = (partLinks.doors m).flips u i h (omega arith) in
      let b = (partLinks.doors m).flips u j h k in
      let r = flip_rise u (parts.door m u i) (parts.door m u j) (door_rise m u i j l k) (omega arith) in
      omega arith;
}

pub planned_rising : (k n : ℕ) → planned k n ≡ true → Rising (mesh_of k n) ((kind_of k).near n)
planned_rising k n h = planned_case k n h (λ j (K : Kind). Rising (K.mesh n) (K.near n)) (λ c. cube_rising n) (λ t. two_rising n)
