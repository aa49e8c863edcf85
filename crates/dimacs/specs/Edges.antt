-- Laws of `e` lines: which two numbers one has matters, and not their order (`times-turn`, `times_turned`, `link-turn`). Assumes nothing.
use Rattle.std.specs.Prelude.{ℕ, suc, ◌-◌, ◌≤◌, ◌<◌, ◌≡◌, refl, Bool, true, false, ◌&&◌, ◌⊎◌, ◌≢◌, List, [], ◌∷◌, eqb, leb, ltb}
use Rattle.std.proofs.Common.{sym, ap₂, ◌∙◌, inl, inr, ⊎_elim, arith, eqb-true, eq-eqb, ltb-true, leb-true, lt-ltb, le-leb}
use Rattle.std.proofs.Math.Path.{ap}
use Rattle.scan.specs.Scan.{pick}
use Rattle.scan.specs.Laws.{true-false, not-true, tests_same, both_true, either_true, first-true, second-true}
use Rattle.paths.specs.Mesh.{Mesh}
use Rattle.paths.specs.Links.{Links}
use Rattle.dimacs.specs.Text.{Edge, edge}
use Rattle.dimacs.specs.Says.{is_link, same, times}

-- ---- tests

pub all_true : {a b : Bool} → a ≡ true → b ≡ true → (a && b) ≡ true
all_true p q = ap₂ (λ (x y : Bool). x && y) p q

pub and-false : (a : Bool) → (a && false) ≡ false
and-false true = refl
and-false false = refl

-- ---- the same two numbers

pub same_cases : (a b c d : ℕ) → same a b c d ≡ true → ((a ≡ c) × (b ≡ d)) ⊎ ((a ≡ d) × (b ≡ c))
same_cases a b c d e = ⊎_elim
    (λ t. let (p, q) = both_true (eqb a c) (eqb b d) t in inl (eqb-true a c p, eqb-true b d q))
    (λ t. let (p, q) = both_true (eqb a d) (eqb b c) t in inr (eqb-true a d p, eqb-true b c q))
    (either_true (eqb a c && eqb b d) (eqb a d && eqb b c) e)

pub same_straight : (a b c d : ℕ) → a ≡ c → b ≡ d → same a b c d ≡ true
same_straight a b c d p q = first-true (eqb a c && eqb b d) (eqb a d && eqb b c) (all_true (eq-eqb a c p) (eq-eqb b d q))

pub same-crossed : (a b c d : ℕ) → a ≡ d → b ≡ c → same a b c d ≡ true
same-crossed a b c d p q = second-true (eqb a c && eqb b d) (eqb a d && eqb b c) (all_true (eq-eqb a d p) (eq-eqb b c q))

same_turn : (a b c d : ℕ) → same a b c d ≡ true → same b a c d ≡ true
same_turn a b c d e = ⊎_elim (λ (p, q). same-crossed b a c d q p) (λ (p, q). same_straight b a c d q p) (same_cases a b c d e)

same_turned : (a b c d : ℕ) → same a b c d ≡ true → same a b d c ≡ true
same_turned a b c d e = ⊎_elim (λ (p, q). same-crossed a b d c p q) (λ (p, q). same_straight a b d c p q) (same_cases a b c d e)

-- ---- how often they stand

module _ (a b c d : ℕ) (es : List Edge) where
  pub times-on : same a b c d ≡ true → times a b (edge c d ∷ es) ≡ suc (times a b es)
  unfolding times
  times-on e = ap (λ (x : Bool). pick x (suc (times a b es)) (times a b es)) e

  pub times_off : same a b c d ≡ false → times a b (edge c d ∷ es) ≡ times a b es
  unfolding times
  times_off e = ap (λ (x : Bool). pick x (suc (times a b es)) (times a b es)) e

pub times_none : (a b : ℕ) → times a b [] ≡ 0
unfolding times
times_none a b = refl

-- in either order
pub times-turn : (a b : ℕ) (es : List Edge) → times a b es ≡ times b a es
times-turn a b [] = times_none a b ∙ sym (times_none b a)
times-turn a b (edge c d ∷ es) = go (same a b c d) refl (times-turn a b es)
  where
    go : (x : Bool) → same a b c d ≡ x → times a b es ≡ times b a es → times a b (edge c d ∷ es) ≡ times b a (edge c d ∷ es)
    go true e r = times-on a b c d es e ∙ ap suc r ∙ sym (times-on b a c d es (same_turn a b c d e))
    go false e r = times_off a b c d es e ∙ r ∙ sym (times_off b a c d es (not-true (λ t. true-false (same_turn b a c d t) e)))

-- a line that is turned
pub times_turned : (a b c d : ℕ) (es : List Edge) → times a b (edge c d ∷ es) ≡ times a b (edge d c ∷ es)
times_turned a b c d es = go (same a b c d) refl
  where
    go : (x : Bool) → same a b c d ≡ x → times a b (edge c d ∷ es) ≡ times a b (edge d c ∷ es)
    go true e = times-on a b c d es e ∙ sym (times-on a b d c es (same_turned a b c d e))
    go false e = times_off a b c d es e ∙ sym (times_off a b d c es (not-true (λ t. true-false (same_turned a b d c t) e)))

-- ---- links

-- two relays, one above their numbers here, that are linked
pub record IsLink (m : Mesh) (a b : ℕ) : Type 0 where
  pub first : 0 < a
  pub first_in : a ≤ m.relays
  pub second : 0 < b
  pub second_in : b ≤ m.relays
  pub linked : m.linked (a - 1) (b - 1) ≡ true

pub link_sound : (m : Mesh) (a b : ℕ) → is_link m a b ≡ true → IsLink m a b
link_sound m a b e =
    let (p, q) = both_true (ltb 0 a && leb a m.relays) ((ltb 0 b && leb b m.relays) && m.linked (a - 1) (b - 1)) e in
    let (r, s) = both_true (ltb 0 b && leb b m.relays) (m.linked (a - 1) (b - 1)) q in
    let (t, u) = both_true (ltb 0 a) (leb a m.relays) p in
    let (v, w) = both_true (ltb 0 b) (leb b m.relays) r in
    record { first = ltb-true 0 a t; first_in = leb-true a m.relays u; second = ltb-true 0 b v; second_in = leb-true b m.relays w; linked = s }

pub link_complete : (m : Mesh) (a b : ℕ) → IsLink m a b → is_link m a b ≡ true
link_complete m a b l =
    all_true (all_true (lt-ltb 0 a l.first) (le-leb a m.relays l.first_in))
    (all_true (all_true (lt-ltb 0 b l.second) (le-leb b m.relays l.second_in)) l.linked)

module _ (m : Mesh) (near : ℕ → ℕ → ℕ) (k : Links m near) where
  turns : (a b : ℕ) → IsLink m a b → IsLink m b a
  turns a b l = record {
    first = l.second;
    first_in = l.second_in;
    second = l.first;
    second_in = l.first_in;
    linked = k.both (b - 1) (a - 1) (omega (arith, l.second, l.second_in)) (omega (arith, l.first, l.first_in)) ∙ l.linked;
  }

  pub link-turn : (a b : ℕ) → is_link m a b ≡ is_link m b a
  link-turn a b = tests_same (is_link m a b) (is_link m b a) (λ e. link_complete m b a (turns a b (link_sound m a b e))) (λ e. link_complete m a b (turns b a (link_sound m b a e)))

  pub link-other : (a b : ℕ) → is_link m a b ≡ true → a ≢ b
  link-other a b e z =
      let l = link_sound m a b e in
      true-false (ap (λ (x : ℕ). m.linked x (b - 1)) (ap (λ (x : ℕ). x - 1) (sym z)) ∙ l.linked) (k.away (b - 1) (omega (arith, l.second, l.second_in)))
