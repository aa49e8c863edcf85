-- The laws of the marks of what has failed: kept as the list is gone through (`Passing`), and all of it at the end (`struck-all`); what the definitions of failures say is listed
-- (`has_listed`, `cut-listed`). Assumes nothing.
use Rattle.std.specs.Prelude.{ℕ, suc, ◌+◌, ◌≤◌, ◌<◌, ◌≡◌, refl, true, false, ◌⊎◌, List, [], ◌∷◌, length, get_or}
use Rattle.std.proofs.Common.{sym, ap, ap₂, ◌∙◌, subst, inl, inr, arith}
use Rattle.std.proofs.Math.Decide.{ℕ_discrete}
use Rattle.std.proofs.lemmas.Nat.{or_comm}
use Rattle.marks.specs.Marks.{words, marked, put}
use Rattle.marks.specs.Laws.{put-length, put-own, put_keeps}
use Rattle.marks.specs.Noted.{Noted}
use Rattle.scan.specs.Scan.{has}
use Rattle.scan.specs.Laws.{true-false, either_true, has-true}
use Rattle.paths.specs.Fan.{relay, hops}
use Rattle.paths.specs.Whole.{pair, cut}
use Rattle.paths.specs.Cuts.{Two, pair-two}
use Rattle.struck.specs.Struck.{key, thing, things, Listed, Kept, Hits, Struck}

-- ---- one number for two relays

turned : (x y : ℕ) → key x y ≡ key y x
unfolding key
turned x y = or_comm x y

key-two : (a b u v : ℕ) → Two a b u v → key a b ≡ key u v
key-two a b u v (inl z) = ap₂ key z.0 z.1
key-two a b u v (inr z) = ap₂ key z.0 z.1 ∙ turned v u

-- ---- all paths noted

pub noted_all : (at : ℕ → ℕ → ℕ) (size : ℕ → ℕ) {marks : List ℕ} {i k : ℕ} → i ≡ k → Noted at size marks i 0 → Noted at size marks k 0
noted_all at size {marks} e n = subst (λ (r : ℕ). Noted at size marks r 0) e n

-- ---- one pass over the list

module _ {paths before after : List ℕ} {x : ℕ} where
  pub kept_put : length before ≡ words → after ≡ put before x → Kept paths x before after
  kept_put e f = rw f (record { long = put-length before x ∙ e; own = λ t. put-own before x e; rest = λ y t. put_keeps before x y e t })

  pub kept_same : length before ≡ words → after ≡ before → marked paths x ≡ false → Kept paths x before after
  kept_same e f m = rw f (record { long = e; own = λ t. absurd (true-false t m); rest = λ y t. t })

-- the numbers of the list before place j are kept
pub record Passing (list : List ℕ) (d : ℕ) (paths hit : List ℕ) (j : ℕ) : Type 0 where
  pub within : j ≤ length list
  pub long : length hit ≡ words
  pub done : (f : ℕ) → f < j → marked paths (key (get_or list f 0) (get_or list (f + d) 0)) ≡ true → marked hit (key (get_or list f 0) (get_or list (f + d) 0)) ≡ true

pub passing_none : (list : List ℕ) (d : ℕ) (paths hit : List ℕ) → length hit ≡ words → Passing list d paths hit 0
passing_none list d paths hit e = record { within = omega arith; long = e; done = λ f h. absurd (omega arith) }

pub passing_more : {list : List ℕ} {d : ℕ} {paths hit after : List ℕ} {j x : ℕ} → Passing list d paths hit j → j < length list → x ≡ key (get_or list j 0) (get_or list (j + d) 0)
    → Kept paths x hit after → Passing list d paths after (j + 1)
passing_more {list} {d} {paths} {hit} {after} {j} {x} v h e k = record { within = omega arith; long = k.long; done = λ f l. go f l (ℕ_discrete f j) }
  where
    at : ℕ → ℕ
    at f = key (get_or list f 0) (get_or list (f + d) 0)

    go : (f : ℕ) → f < j + 1 → Dec (f ≡ j) → marked paths (at f) ≡ true → marked after (at f) ≡ true
    go f l (yes z) t =
        let same : at f ≡ x = ap at z ∙ sym e in
        ap (marked after) same ∙ k.own (ap (marked paths) (sym same) ∙ t)
    go f l (no ne) t = k.rest (at f) (v.done f (omega arith) t)

pub passing_all : {list : List ℕ} {d : ℕ} {paths hit : List ℕ} {j : ℕ} → Passing list d paths hit j → length list ≤ j + d → Hits list d paths hit
passing_all {list} {d} {paths} {hit} {j} v h = record { long = v.long; all = λ u w l. go u w l }
  where
    go : (u w : ℕ) → Listed list d u w → marked paths (key u w) ≡ true → marked hit (key u w) ≡ true
    go u w l t =
        let same : key (get_or list l.place 0) (get_or list (l.place + d) 0) ≡ key u w = key-two _ _ u w l.two in
        ap (marked hit) (sym same) ∙ v.done l.place (omega (arith, l.within)) (ap (marked paths) same ∙ t)

-- ---- what is struck

module _ (w : ℕ) (places counts list : List ℕ) (d : ℕ) {hit : List ℕ} where
  pub struck-none : (i : ℕ) → length hit ≡ words → length list ≤ d → Struck hit w places counts list d i
  struck-none i e h = record { long = e; all = λ p g y. absurd (omega (arith, y.within)) }

  pub struck-all : {paths : List ℕ} {k : ℕ} (i : ℕ) → i < k → Noted (thing w places d) (things counts d) paths k 0 → Hits list d paths hit → Struck hit w places counts list d i
  struck-all i l n y = record {
    long = y.long;
    all = λ p g z. y.all (relay w places i p) (relay w places i (p + d)) z (n.earlier i p l (omega arith));
  }

-- ---- what the definitions of failures say

has_listed : (list : List ℕ) (x : ℕ) → has list x ≡ true → Listed list 0 x x
has_listed list x e =
    let r = has-true list x e in
    let same : r.0 + 0 ≡ r.0 = omega arith in
    record { place = r.0; within = omega (arith, r.1); two = inl (r.2, ap (λ (j : ℕ). get_or list j 0) same ∙ r.2) }

cut-listed : (list : List ℕ) (u v : ℕ) → cut list u v ≡ true → Listed list 1 u v
unfolding cut
cut-listed [] u v e = absurd (true-false e refl)
cut-listed (a ∷ []) u v e = absurd (true-false e refl)
cut-listed (a ∷ b ∷ list) u v e = go (either_true (pair a b u v) (cut list u v) e) (λ t. cut-listed list u v t)
  where
    later : (f : ℕ) → Two (get_or list f 0) (get_or list (f + 1) 0) u v → Two (get_or (a ∷ b ∷ list) (suc (suc f)) 0) (get_or (a ∷ b ∷ list) (suc (suc f) + 1) 0) u v
    later f t = let e : suc (suc f) + 1 ≡ suc (suc (f + 1)) = omega arith in rw e t

    go : (pair a b u v ≡ true) ⊎ (cut list u v ≡ true) → (cut list u v ≡ true → Listed list 1 u v) → Listed (a ∷ b ∷ list) 1 u v
    go (inl t) rest = record { place = 0; within = omega arith; two = pair-two a b u v t }
    go (inr t) rest =
        let l = rest t in
        record { place = suc (suc l.place); within = omega (arith, l.within); two = later l.place l.two }

module _ (w : ℕ) (places counts list : List ℕ) (i p : ℕ) {hit : List ℕ} where
  -- a relay of path i that has stopped, and a link of it that is cut, as code has them
  pub stop_struck : {x : ℕ} → Struck hit w places counts list 0 i → p ≤ hops counts i → x ≡ relay w places i p → has list x ≡ true → marked hit (key x x) ≡ true
  stop_struck {x} s h e t =
      let same : p + 0 ≡ p = omega arith in
      let two : (key x x ≡ thing w places 0 i p) = ap₂ key e (e ∙ ap (relay w places i) (sym same)) in
      ap (marked hit) two ∙ s.all p (omega arith) (subst (λ (y : ℕ). Listed list 0 (relay w places i p) y) (ap (relay w places i) (sym same)) (subst (λ (y : ℕ). Listed list 0 y y) e (has_listed list x t)))

  pub cut-struck : {u v : ℕ} → Struck hit w places counts list 1 i → p < hops counts i → u ≡ relay w places i p → v ≡ relay w places i (p + 1) → cut list u v ≡ true
      → marked hit (key u v) ≡ true
  cut-struck {u} {v} s h e f t =
      ap (marked hit) (ap₂ key e f) ∙ s.all p (omega arith) (cut-listed list (relay w places i p) (relay w places i (p + 1)) (sym (ap₂ (cut list) e f) ∙ t))
