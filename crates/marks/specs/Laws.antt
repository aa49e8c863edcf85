-- The laws of marks: a relay that is put has its mark (`put-own`), and every other keeps its own (`put_keeps`). So a relay without its mark was not put.
-- Assumes nothing.
use Rattle.std.specs.Prelude.{ℕ, ◌/◌, ◌^◌, ◌<◌, ◌≡◌, Bool, false, ◌&&◌, List, length}
use Rattle.std.proofs.Common.{sym, ◌∙◌, mod-lt, zero-lt-suc, arith, get_or-set_same, get_or-set_other, eq-eqb, eqb-true}
use Rattle.std.proofs.Math.Path.{ap, ap₂}
use Rattle.std.proofs.Math.Bool.{true}
use Rattle.std.proofs.Math.Decide.{ℕ_discrete}
use Rattle.std.specs.Int.Bits.{bit_or}
use Rattle.std.proofs.Math.Dec.{eqb}
use Rattle.std.proofs.Math.ListN.{get_or, set, length-set}
use Rattle.scan.specs.Laws.{both_true}
use Rattle.bits.specs.Bit.{bit}
use Rattle.bits.specs.Laws.{bit-lt, bit-or, bit-pow-same}
use Rattle.marks.specs.Marks.{words, scatter, word_at, first_at, second_at, both, with, marked, put}

-- ---- a mark in a word

-- a bit that is set stays, and one that is put is set
kept-bit : (i w v : ℕ) → bit i w ≡ 1 → bit i (bit_or w v) ≡ 1
kept-bit i w v e = omega (arith, bit-or i w v, bit-lt i v)

own-bit : (i w : ℕ) → bit i (bit_or w (2 ^ i)) ≡ 1
own-bit i w = omega (arith, bit-or i w (2 ^ i), bit-pow-same i, bit-lt i w)

-- both bits, as facts
two-bits : (s w : ℕ) → bit (first_at s) w ≡ 1 → bit (second_at s) w ≡ 1 → both s w ≡ true
unfolding both
two-bits s w e f = ap₂ ◌&&◌ (eq-eqb (bit (first_at s) w) 1 e) (eq-eqb (bit (second_at s) w) 1 f)

both_bits : (s w : ℕ) → both s w ≡ true → (bit (first_at s) w ≡ 1) × (bit (second_at s) w ≡ 1)
unfolding both
both_bits s w e =
    let r = both_true (eqb (bit (first_at s) w) 1) (eqb (bit (second_at s) w) 1) e in
    (eqb-true (bit (first_at s) w) 1 r.0, eqb-true (bit (second_at s) w) 1 r.1)

own : (s w : ℕ) → both s (with s w) ≡ true
unfolding with
own s w =
    two-bits s (bit_or (bit_or w (2 ^ first_at s)) (2 ^ second_at s))
    (kept-bit (first_at s) (bit_or w (2 ^ first_at s)) (2 ^ second_at s) (own-bit (first_at s) w)) (own-bit (second_at s) (bit_or w (2 ^ first_at s)))

kept : (t s w : ℕ) → both t w ≡ true → both t (with s w) ≡ true
unfolding with
kept t s w e =
    let r = both_bits t w e in
    two-bits t (bit_or (bit_or w (2 ^ first_at s)) (2 ^ second_at s)) (on (first_at t) r.0) (on (second_at t) r.1)
  where
    on : (i : ℕ) → bit i w ≡ 1 → bit i (bit_or (bit_or w (2 ^ first_at s)) (2 ^ second_at s)) ≡ 1
    on i f = kept-bit i (bit_or w (2 ^ first_at s)) (2 ^ second_at s) (kept-bit i w (2 ^ first_at s) f)

-- ---- marks

word_lt : (s : ℕ) → word_at s < words
unfolding word_at
word_lt s = mod-lt (s / 16777216) (zero-lt-suc 255)

module _ (marks : List ℕ) (x : ℕ) where
  pub put-length : length (put marks x) ≡ length marks
  unfolding put
  put-length = simp length-set

  pub put-own : length marks ≡ words → marked (put marks x) x ≡ true
  unfolding marked put
  put-own e =
      let s = scatter x in
      let w = get_or marks (word_at s) 0 in
      ap (both s) (get_or-set_same marks (word_at s) (with s w) 0 (omega (arith, word_lt s))) ∙ own s w

  pub put_keeps : (y : ℕ) → length marks ≡ words → marked marks y ≡ true → marked (put marks x) y ≡ true
  unfolding marked put
  put_keeps y e h = go (scatter x) (scatter y) (ℕ_discrete (word_at (scatter y)) (word_at (scatter x))) h
    where
      go : (s t : ℕ) → Dec (word_at t ≡ word_at s) → both t (get_or marks (word_at t) 0) ≡ true → both t (get_or (set marks (word_at s) (with s (get_or marks (word_at s) 0))) (word_at t) 0) ≡ true
      go s t (yes d) h =
          let w = get_or marks (word_at s) 0 in
          ap (λ (i : ℕ). both t (get_or (set marks (word_at s) (with s w)) i 0)) d
          ∙ ap (both t) (get_or-set_same marks (word_at s) (with s w) 0 (omega (arith, word_lt s)))
          ∙ kept t s w (ap (λ (i : ℕ). both t (get_or marks i 0)) (sym d) ∙ h)
      go s t (no ne) h = ap (both t) (get_or-set_other marks (word_at s) (word_at t) (with s (get_or marks (word_at s) 0)) 0 ne) ∙ h

-- ---- what code has of a relay

module _ (marks : List ℕ) (x : ℕ) {s i j : ℕ} (e : s ≡ scatter x) (f : i ≡ word_at s) (g : j ≡ first_at s) where
  -- whether its word has the bit
  abbrev has : ℕ → Bool
  has n = eqb (bit n (get_or marks i 0)) 1

  told : (has (first_at s) && has (second_at s)) ≡ marked marks x
  unfolding marked both
  told = ap₂ (λ (s i : ℕ). eqb (bit (first_at s) (get_or marks i 0)) 1 && eqb (bit (second_at s) (get_or marks i 0)) 1) e (f ∙ ap word_at e)

  pub first-told : {b : Bool} → b ≡ has j → b ≡ false → false ≡ marked marks x
  first-told h t = ap (λ (b : Bool). b && has (second_at s)) (sym t ∙ h ∙ ap has g) ∙ told

  module _ {k : ℕ} (y : k ≡ second_at s) where
    pub second-told : {b c : Bool} → b ≡ has j → b ≡ true → c ≡ has k → c ≡ marked marks x
    second-told h t z = z ∙ ap₂ (λ (b : Bool) (k : ℕ). b && has k) (sym t ∙ h ∙ ap has g) y ∙ told

    pub put-told : {a b : ℕ} → a ≡ 2 ^ j → b ≡ 2 ^ k → set marks i (bit_or (bit_or (get_or marks i 0) a) b) ≡ put marks x
    unfolding put with
    put-told {a} {b} h z =
        ap₂ (λ (a b : ℕ). set marks i (bit_or (bit_or (get_or marks i 0) a) b)) (h ∙ ap (λ (j : ℕ). 2 ^ j) g) (z ∙ ap (λ (k : ℕ). 2 ^ k) y)
        ∙ ap₂ (λ (s i : ℕ). set marks i (bit_or (bit_or (get_or marks i 0) (2 ^ first_at s)) (2 ^ second_at s))) e (f ∙ ap word_at e)
