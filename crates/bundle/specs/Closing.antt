-- The rows of a fan moved down to those of a bundle, and each path closed with the target: one row (`Row`, `row_bare`, `row-closed`), then all of them (`Closed`). What stands in
-- a row is said of any list that stood in the row it came from. Assumes nothing.
use Rattle.std.specs.Prelude.{ℕ, zero, suc, ◌+◌, ◌*◌, ◌≤◌, ◌<◌, ◌≡◌, refl, Bool, ◌⊎◌, ◌≢◌, List, [], ◌∷◌, ◌++◌, eqb, length, get_or, set}
use Rattle.std.proofs.Common.{sym, ap, ◌∙◌, subst, inl, inr, ⊎_elim, arith, mul-le-mul_right, length-set, length-append, get_or-set_same, get_or-set_other, eq-eqb, ne_eqb}
use Rattle.std.proofs.Math.Decide.{ℕ_discrete, dec_lt}
use Rattle.std.proofs.Math.ListN.{get_or-eq_default}
use Rattle.std.proofs.lemmas.List.{get_or_at}
use Rattle.scan.specs.Scan.{pick}
use Rattle.scan.specs.Runs.{Shifted}
use Rattle.paths.specs.Fan.{filler}
use Rattle.paths.specs.Bundle.{closed}

-- ---- lists with one more at the end

append-before : (l : List ℕ) (t p d : ℕ) → p < length l → get_or (l ++ (t ∷ [])) p d ≡ get_or l p d
append-before [] t p d h = absurd (omega arith)
append-before (x ∷ l) t zero d h = refl
append-before (x ∷ l) t (suc p) d h = append-before l t p d (omega arith)

-- ---- one row

-- a row may move down, and has room for a place more
pub record Closable (w to from h places : ℕ) : Type 0 where
  pub down : to ≤ from
  pub room : from + w ≤ places
  pub more : to + w < places
  pub short : h < w

pub closable_kept : {w to from h n m : ℕ} → m ≡ n → Closable w to from h n → Closable w to from h m
closable_kept {w} {to} {from} {h} e c = subst (λ (x : ℕ). Closable w to from h x) (sym e) c

-- the list l stands in a row: from s over l, filler after it
abbrev pub Stands : (w at s : ℕ) (l places : List ℕ) → Type 0
Stands w at s l places = (p : ℕ) → p < w → get_or places (at + p) 0 ≡ get_or (s ∷ l) p filler

-- the hops of a path, closed
abbrev pub hops_to : (t e h : ℕ) → ℕ
hops_to t e h = pick (eqb e t) h (h + 1)

pub record Row (w to from h e t : ℕ) (before after : List ℕ) (r : ℕ) : Type 0 where
  pub hops : r ≡ hops_to t e h
  pub is : (s : ℕ) (l : List ℕ) → length l ≡ h → Stands w from s l before → Stands (w + 1) to s (closed t e l) after
  pub rest : (i : ℕ) → (i < to) ⊎ (to + w + 1 ≤ i) → get_or after i 0 ≡ get_or before i 0

module _ (w to from h e t : ℕ) (l₀ l₁ : List ℕ) (c : Closable w to from h (length l₁)) (a : Shifted to from w l₀ l₁) where
  -- moved, with a place more that is not used
  abbrev pub widened : List ℕ
  widened = set l₁ (to + w) filler

  widened-rest : (i : ℕ) → (i < to) ⊎ (to + w + 1 ≤ i) → get_or widened i 0 ≡ get_or l₀ i 0
  widened-rest i g =
      get_or-set_other l₁ (to + w) i filler 0 (λ z. ⊎_elim (λ (y : i < to). omega arith) (λ y. omega arith) g)
      ∙ a.rest i (⊎_elim (λ (y : i < to). inl y) (λ y. inr (omega arith)) g)

  widened_is : (s : ℕ) (l : List ℕ) → length l ≡ h → Stands w from s l l₀ → Stands (w + 1) to s l widened
  widened_is s l len b p g = go (ℕ_discrete p w)
    where
      go : Dec (p ≡ w) → get_or widened (to + p) 0 ≡ get_or (s ∷ l) p filler
      go (yes z) = ap (λ (y : ℕ). get_or widened (to + y) 0) z ∙ get_or-set_same l₁ (to + w) filler 0 c.more
          ∙ sym (get_or-eq_default (s ∷ l) filler {n = p} (omega (arith, c.short)))
      go (no ne) = get_or-set_other l₁ (to + w) (to + p) filler 0 (λ z. ne (omega arith)) ∙ a.is p (omega arith) ∙ b p (omega arith)

  -- a path that ends in the target
  pub row_bare : e ≡ t → Row w to from h e t l₀ widened h
  row_bare z = record {
    hops = sym (ap (λ (b : Bool). pick b h (h + 1)) (eq-eqb e t z));
    is = λ s l len b. subst (λ (k : List ℕ). Stands (w + 1) to s k widened) (sym (ap (λ (b : Bool). pick b l (l ++ (t ∷ []))) (eq-eqb e t z))) (widened_is s l len b);
    rest = widened-rest;
  }

  -- a path that ends elsewhere
  pub row-closed : e ≢ t → Row w to from h e t l₀ (set widened (to + h + 1) t) (h + 1)
  row-closed ne = record {
    hops = sym (ap (λ (b : Bool). pick b h (h + 1)) (ne_eqb e t ne));
    is = λ s l len b. subst (λ (k : List ℕ). Stands (w + 1) to s k new) (sym (ap (λ (b : Bool). pick b l (l ++ (t ∷ []))) (ne_eqb e t ne)))
        (λ p g. place s l len b p g (ℕ_discrete p (h + 1)));
    rest = λ i g. get_or-set_other widened (to + h + 1) i t 0 (λ z. ⊎_elim (λ (y : i < to). omega arith) (λ y. omega (arith, c.short)) g) ∙ widened-rest i g;
  }
    where
      new : List ℕ
      new = set widened (to + h + 1) t

      place : (s : ℕ) (l : List ℕ) → length l ≡ h → Stands w from s l l₀ → (p : ℕ) → p < w + 1 → Dec (p ≡ h + 1) → get_or new (to + p) 0 ≡ get_or (s ∷ (l ++ (t ∷ []))) p filler
      place s l len b p g (yes z) =
          let here : to + p ≡ to + h + 1 = omega arith in
          ap (λ (i : ℕ). get_or new i 0) here
          ∙ get_or-set_same widened (to + h + 1) t 0 (omega (arith, c.short, c.more, length-set l₁ (to + w) filler))
          ∙ sym (get_or_at (s ∷ l) t [] filler p (omega arith))
      place s l len b p g (no other) =
          get_or-set_other widened (to + h + 1) (to + p) t 0 (λ z. other (omega arith)) ∙ widened_is s l len b p g ∙ sym (same (dec_lt p (h + 1)))
        where
          same : Dec (p < h + 1) → get_or (s ∷ (l ++ (t ∷ []))) p filler ≡ get_or (s ∷ l) p filler
          same (yes y) = append-before (s ∷ l) t p filler (omega arith)
          same (no y) = get_or-eq_default (s ∷ (l ++ (t ∷ []))) filler {n = p} (omega (arith, length-append l (t ∷ [])))
              ∙ sym (get_or-eq_default (s ∷ l) filler {n = p} (omega arith))

-- ---- all rows

-- k paths of a fan from place k on, each in w places, and room for the bundle
pub record Rows (w k ends places : ℕ) (counts : List ℕ) : Type 0 where
  pub ended : k ≤ ends
  pub room : k * (w + 1) ≤ places
  pub counted : k ≤ length counts
  pub short : (j : ℕ) → j < k → get_or counts j 0 < w

-- the first r of k rows are closed; those that are not stand where they stood
pub record Closed (w k : ℕ) (ends : List ℕ) (t r : ℕ) (before after counted counts : List ℕ) : Type 0 where
  pub is : (j : ℕ) → j < r → (s : ℕ) (l : List ℕ) → length l ≡ get_or counted j 0 → Stands w (k + j * w) s l before
      → Stands (w + 1) (j * (w + 1)) s (closed t (get_or ends j 0) l) after
  pub count : (j : ℕ) → j < r → get_or counts j 0 ≡ hops_to t (get_or ends j 0) (get_or counted j 0)
  pub ahead : (i : ℕ) → k + r * w ≤ i → get_or after i 0 ≡ get_or before i 0
  pub kept : (i : ℕ) → r ≤ i → get_or counts i 0 ≡ get_or counted i 0

pub closed_none : (w k : ℕ) (ends : List ℕ) (t r : ℕ) (l c : List ℕ) → r ≡ 0 → Closed w k ends t r l l c c
closed_none w k ends t r l c e = record { is = λ j h. absurd (omega arith); count = λ j h. absurd (omega arith); ahead = λ i h. refl; kept = λ i h. refl }

-- a row before another ends before it begins
row_ends : (j r w : ℕ) → j < r → j * w + w ≤ r * w
row_ends j r w h = let z : (j + 1) * w ≤ r * w = mul-le-mul_right w (omega arith) in omega arith

-- row r, where the rows before it are closed, can be
pub row_closable : {w k ends places r h : ℕ} {counts : List ℕ} → Rows w k ends places counts → r < k → h < w → Closable w (r * (w + 1)) (k + r * w) h places
row_closable {w} {k} {ends} {places} {r} {h} {counts} a g short =
    let below : r * (w + 1) + (w + 1) ≤ k * (w + 1) = row_ends r k (w + 1) g in
    let last : r * w + w ≤ k * w = row_ends r k w g in
    record {
      down = omega arith;
      room = omega (arith, a.room);
      more = omega (arith, a.room);
      short = short;
    }

pub closed-more : {w k : ℕ} {ends : List ℕ} {t r h : ℕ} {l m o c d : List ℕ} → Closed w k ends t r l m c d → r < k → r < length d
    → Row w (r * (w + 1)) (k + r * w) (get_or d r 0) (get_or ends r 0) t m o h → Closed w k ends t (r + 1) l o c (set d r h)
closed-more {w} {k} {ends} {t} {r} {h} {l} {m} {o} {c} {d} a g lt b = record {
  is = λ j q. row j q (ℕ_discrete j r);
  count = λ j q. counted j q (ℕ_discrete j r);
  ahead = λ i q. b.rest i (inr (omega arith)) ∙ a.ahead i (omega arith);
  kept = λ i q. get_or-set_other d r i h 0 (λ z. omega arith) ∙ a.kept i (omega arith);
}
  where
    same : get_or d r 0 ≡ get_or c r 0
    same = a.kept r (omega arith)

    row : (j : ℕ) → j < r + 1 → Dec (j ≡ r) → (s : ℕ) (x : List ℕ) → length x ≡ get_or c j 0 → Stands w (k + j * w) s x l
        → Stands (w + 1) (j * (w + 1)) s (closed t (get_or ends j 0) x) o
    row j q (yes z) s x len y =
        subst (λ (i : ℕ). Stands (w + 1) (i * (w + 1)) s (closed t (get_or ends i 0) x) o) (sym z)
        (b.is s x (len ∙ ap (λ (i : ℕ). get_or c i 0) z ∙ sym same)
        (λ p u. a.ahead (k + r * w + p) (omega arith) ∙ ap (λ (i : ℕ). get_or l (k + i * w + p) 0) (sym z) ∙ y p u))
    row j q (no ne) s x len y = λ p u.
        let below : j * (w + 1) + (w + 1) ≤ r * (w + 1) = row_ends j r (w + 1) (omega arith) in
        b.rest (j * (w + 1) + p) (inl (omega arith)) ∙ a.is j (omega arith) s x len y p u

    counted : (j : ℕ) → j < r + 1 → Dec (j ≡ r) → get_or (set d r h) j 0 ≡ hops_to t (get_or ends j 0) (get_or c j 0)
    counted j q (yes z) =
        ap (λ (i : ℕ). get_or (set d r h) i 0) z ∙ get_or-set_same d r h 0 lt ∙ b.hops ∙ ap (hops_to t (get_or ends r 0)) same
        ∙ ap (λ (i : ℕ). hops_to t (get_or ends i 0) (get_or c i 0)) (sym z)
    counted j q (no ne) = get_or-set_other d r j h 0 ne ∙ a.count j (omega arith)

pub closed_all : {w k : ℕ} {ends : List ℕ} {t r n : ℕ} {l m c d : List ℕ} → r ≡ n → Closed w k ends t r l m c d → Closed w k ends t n l m c d
closed_all {w} {k} {ends} {t} {r} {n} {l} {m} {c} {d} e a = subst (λ (y : ℕ). Closed w k ends t y l m c d) e a
