-- Sets of targets as masks, made by tests: what the functions that make them promise, and how they are put together. Assumes nothing.
use Rattle.std.specs.Prelude.{ℕ, ◌+◌, ◌-◌, ◌^◌, ◌<◌, ◌≡◌, refl, ◌≢◌, List, Bool, true, false, eqb}
use Rattle.std.proofs.Common.{sym, ap, ◌∙◌, subst, ⊎_elim, arith}
use Rattle.std.specs.Int.Count.{ones}
use Rattle.std.specs.Int.Bits.{bit_and, bit_or, bit_xor}
use Rattle.bits.specs.Bit.{bit, flip, Lowest, OneBit}
use Rattle.bits.specs.Laws.{bit-and, bit-lt, bit-cases, bit-none, bit-on, bit_off, clash, flip-other, bit-pow-same, pow-bit, ones_clear, flip-eq}
use Rattle.scan.specs.Laws.{true-false}
use Rattle.cube_math.specs.Masks.{at, less, some-bit}
use Rattle.cube_math.specs.Choose.{Chosen, cleared, less-on, less-or}
use Rattle.cube_math.specs.Plain.{bit-full, full-below}
use Rattle.cube_math.specs.Loops.{plus_or}
use Rattle.bits.specs.Parts.{xor-flip, flip_is_xor}
use Rattle.two_math.specs.Sort.{Behind, Shared}
use Rattle.two_gate.specs.Says.{Tells}
use Rattle.two_math.specs.Loops.{chosen_yes, chosen_no, Using, using_more, Classing, classing_new, classing_old}

-- the indices below k whose value is v
abbrev pub Equals : List ℕ → ℕ → ℕ → ℕ → Type 0
Equals vals v k r = Chosen (λ j. at vals j ≡ v) (λ j. at vals j ≢ v) (2 ^ k - 1) r

-- set, with j if `yes`
unfoldable pub added : ℕ → ℕ → Bool → ℕ
added set j true = bit_or set (2 ^ j)
added set j false = set

pub chosen_added : {A B : ℕ → Type 0} {r : ℕ} (n : ℕ) (b : Bool) → Chosen A B (2 ^ n - 1) r → (b ≡ true → A n) → (b ≡ false → B n) → Chosen A B (2 ^ (n + 1) - 1) (added r n b)
unfolding added
chosen_added n true c h g = chosen_yes n c (h refl)
chosen_added n false c h g = chosen_no n c (g refl)

-- the same set by other words
pub chosen_to : {A B C D : ℕ → Type 0} {s r : ℕ} → ((j : ℕ) → bit j s ≡ 1 → A j → C j) → ((j : ℕ) → bit j s ≡ 1 → B j → D j) → Chosen A B s r → Chosen C D s r
chosen_to f g c = record { sub = c.sub; holds = λ j o. f j (c.sub j o) (c.holds j o); fails = λ j o z. g j o (c.fails j o z) }

-- every member is an index of the arrays
abbrev pub Few : ℕ → Type 0
Few s = (j : ℕ) → bit j s ≡ 1 → j < 8

-- ---- members of both sets

-- by what is left of one without the other
abbrev pub common : ℕ → ℕ → ℕ
common a b = less a (less a b)

pub common-on : (j a b : ℕ) → bit j (common a b) ≡ 1 → (bit j a ≡ 1) × (bit j b ≡ 1)
common-on j a b o =
    let p = less-on j a (less a b) o in
    (p.0, ⊎_elim (λ z. z) (λ z. absurd (clash p.1 z)) (less-or j a b p.0))

pub on-common : (j a b : ℕ) → bit j a ≡ 1 → bit j b ≡ 1 → bit j (common a b) ≡ 1
on-common j a b p q = ⊎_elim (λ z. absurd (clash (less-on j a b z).1 q)) (λ z. z) (less-or j a (less a b) p)

-- a test of all, for the members of a set: those that pass, and those that fail
pub chosen_common : {A B : ℕ → Type 0} {all r : ℕ} (s : ℕ) → ((j : ℕ) → bit j s ≡ 1 → bit j all ≡ 1) → Chosen A B all r → Chosen A B s (common s r)
chosen_common {A} {B} {all} {r} s sub c = record {
  sub = λ j o. (common-on j s r o).0;
  holds = λ j o. c.holds j (common-on j s r o).1;
  fails = λ j o z. c.fails j (sub j o) (⊎_elim (λ y. y) (λ y. absurd (clash z (on-common j s r o y))) (bit-cases j r));
}

pub both-on : (j a b : ℕ) → bit j (bit_and a b) ≡ 1 → (bit j a ≡ 1) × (bit j b ≡ 1)
both-on j a b o = (omega (arith, bit-and j a b, bit-lt j a), omega (arith, bit-and j a b, bit-lt j b))

pub on-both : (j a b : ℕ) → bit j a ≡ 1 → bit j b ≡ 1 → bit j (bit_and a b) ≡ 1
on-both j a b p q = omega (arith, bit-and j a b)

-- a test of all, for the members of a set: those that pass, and those that fail
pub chosen_both : {A B : ℕ → Type 0} {all r : ℕ} (s : ℕ) → ((j : ℕ) → bit j s ≡ 1 → bit j all ≡ 1) → Chosen A B all r → Chosen A B s (bit_and s r)
chosen_both {A} {B} {all} {r} s sub c = record {
  sub = λ j o. (both-on j s r o).0;
  holds = λ j o. c.holds j (both-on j s r o).1;
  fails = λ j o z. c.fails j (sub j o) (⊎_elim (λ y. y) (λ y. absurd (clash z (on-both j s r o y))) (bit-cases j r));
}

pub chosen_less : {A B : ℕ → Type 0} {all r : ℕ} (s : ℕ) → ((j : ℕ) → bit j s ≡ 1 → bit j all ≡ 1) → Chosen A B all r → Chosen B A s (less s r)
chosen_less {A} {B} {all} {r} s sub c = record {
  sub = λ j o. (less-on j s r o).0;
  holds = λ j o. let p = less-on j s r o in c.fails j (sub j p.0) p.1;
  fails = λ j o z. c.holds j (⊎_elim (λ y. y) (λ y. absurd (clash z y)) (less-or j s r o));
}

-- ---- behind a door

pub behind_bit : (s0 doors b l i : ℕ) → bit_xor s0 b ≡ 2 ^ i → Lowest 64 (bit_xor s0 b) l → Tells (Behind s0 doors b) (eqb (bit l doors) 1)
behind_bit s0 doors b l i e low =
    let same : l ≡ i = pow-bit l i (ap (bit l) (sym e) ∙ low.set) in
    let is : b ≡ flip s0 l = xor-flip s0 b i e ∙ ap (flip s0) (sym same) in
    record {
      so = λ t. (l, bit-on l doors t, is);
      not = λ f (a, o, z). clash (bit_off l doors f) (ap (λ (y : ℕ). bit y doors) (flip-eq s0 l a (sym is ∙ z)) ∙ o);
    }

pub behind_none : (s0 doors b : ℕ) {r : Bool} → OneBit 64 (bit_xor s0 b) r → r ≡ false → Behind s0 doors b → ⊥
behind_none s0 doors b t f (a, o, e) = true-false (t.all a (flip_is_xor s0 b a e)) f

pub pow-some : {x : ℕ} (i : ℕ) → x ≡ 2 ^ i → x ≢ 0
pow-some {x} i e z = clash (bit-none i) (ap (bit i) (sym z ∙ e) ∙ bit-pow-same i)

-- ---- another target in the block

module _ (blocks : List ℕ) (k j same : ℕ) (lt : j < k) (c : Equals blocks (at blocks j) k same) where
  pub shared_no : flip same j ≡ 0 → Shared k (at blocks) j → ⊥
  shared_no z (i, h, ne, e) =
      ⊎_elim (λ y. c.fails i (bit-full k i h) y e) (λ y. clash (ap (bit i) z ∙ bit-none i) (flip-other same j i ne ∙ y)) (bit-cases i same)

  pub shared_yes : flip same j ≢ 0 → Shared k (at blocks) j
  shared_yes ne =
      let mine : bit j same ≡ 1 = ⊎_elim (λ z. absurd (c.fails j (bit-full k j lt) z refl)) (λ z. z) (bit-cases j same) in
      let x = some-bit (flip same j) ne in
      let p = cleared same j mine x.0 x.1 in
      (x.0, full-below k x.0 (c.sub x.0 p.0), p.1, c.holds x.0 p.0)

-- ---- a class with no member in r

module _ (blocks : List ℕ) (j r same : ℕ) (few : Few r) (c : Equals blocks (at blocks j) 8 same) where
  pub class_new : bit_and r same ≡ 0 → (x : ℕ) → bit x r ≡ 1 → at blocks x ≢ at blocks j
  class_new z x o e =
      ⊎_elim (λ y. c.fails x (bit-full 8 x (few x o)) y e) (λ y. clash (ap (bit x) z ∙ bit-none x) (on-both x r same o y)) (bit-cases x same)

  pub class_old : bit_and r same ≢ 0 → (x : ℕ) × (bit x r ≡ 1) × (at blocks x ≡ at blocks j)
  class_old ne =
      let x = some-bit (bit_and r same) ne in
      let p = both-on x.0 r same x.1 in
      (x.0, p.0, c.holds x.0 p.1)

-- the set of representatives with j, if its class is new
pub classing_added : {f : ℕ → ℕ} {m todo r : ℕ} (j : ℕ) (b : Bool) → Classing f m todo r → bit j todo ≡ 1
    → (b ≡ true → (x : ℕ) → bit x r ≡ 1 → f x ≢ f j) → (b ≡ false → (x : ℕ) × (bit x r ≡ 1) × (f x ≡ f j)) → Classing f m (flip todo j) (added r j b)
unfolding added
classing_added {f} {m} {todo} {r} j true k o new old = classing_new j (bit_or r (2 ^ j)) k o (new refl) (plus_or r j)
classing_added {f} {m} {todo} {r} j false k o new old = let x = old refl in classing_old j x.0 k o x.1 x.2

-- the loops over a set, in the code's words

pub using_or : {R : ℕ → ℕ → Type 0} {m todo r : ℕ} (j a pw next : ℕ) → Using R m todo r → bit j todo ≡ 1 → R j a → pw ≡ 2 ^ a → next ≡ flip todo j → Using R m next (bit_or r pw)
using_or {R} {m} {todo} {r} j a pw next k o x ep en =
    subst (λ (y : ℕ). Using R m y (bit_or r pw)) (sym en) (subst (λ (y : ℕ). Using R m (flip todo j) (bit_or r y)) (sym ep) (using_more j a (bit_or r (2 ^ a)) k o x (plus_or r a)))

pub fewer : (todo j next : ℕ) → bit j todo ≡ 1 → next ≡ flip todo j → ones next < ones todo
fewer todo j next o e = omega (arith, ones_clear j todo o, ap ones e)

pub classing_next : {f : ℕ → ℕ} {m todo r : ℕ} {b : Bool} (j new next : ℕ) → Classing f m todo r → bit j todo ≡ 1 → new ≡ added r j b → next ≡ flip todo j
    → (b ≡ true → (x : ℕ) → bit x r ≡ 1 → f x ≢ f j) → (b ≡ false → (x : ℕ) × (bit x r ≡ 1) × (f x ≡ f j)) → Classing f m next new
classing_next {f} {m} {todo} {r} {b} j new next k o en et fresh old =
    subst (λ (y : ℕ). Classing f m y new) (sym et) (subst (λ (y : ℕ). Classing f m (flip todo j) y) (sym en) (classing_added j b k o fresh old))
