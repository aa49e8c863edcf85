-- The links of the two-level mesh. `joined-link`, `link-joined`: what the test of a link says of blocks and slots; `linked-link`,
-- `link-linked`: the same of relays. `link_within`: a link leads to a block and a slot of the mesh. What follows of its links is told of
-- any mesh, from proofs/NearLaws.antt. Assumes nothing.
use Rattle.std.specs.Prelude.{ℕ, ◌^◌, ◌<◌, ◌≡◌, Bool, true, false, ◌&&◌, ◌||◌, ◌⊎◌, ◌≢◌, eqb}
use Rattle.std.proofs.Common.{sym, ap, ap₂, ◌∙◌, subst, inl, inr, ⊎_elim, arith, pow_pos, eqb-true, eq-eqb, ne_eqb}
use Rattle.std.proofs.Math.Bool.{and-false, or-false}
use Rattle.std.specs.Int.Bits.{bit_xor, xor_self}
use Rattle.std.proofs.lemmas.Nat.{xor_lt}
use Rattle.std.specs.Int.Count.{ones}
use Rattle.bits.specs.Bit.{flip}
use Rattle.bits.specs.Laws.{flip-lt, ones-one, ones-pow}
use Rattle.bits.specs.Parts.{xor-flip, flip_is_xor}
use Rattle.scan.specs.Laws.{both_true, either_true, second-true}
use Rattle.two_parts.specs.Two.{slots, blocks, block_of, slot_of, relay, joined, linked}
use Rattle.two_parts.specs.Parts.{block-relay, slot-relay, slot-below}

-- ---- what a link is

-- within a block along bit i of the slot, or across at the slot's bit of the block
abbrev pub Link : (m b p c q : ℕ) → Type 0
Link m b p c q = ((b ≡ c) × ((i : ℕ) × (i < m) × (q ≡ flip p i))) ⊎ ((p ≡ q) × (c ≡ flip b p))

pub joined-link : (m b p c q : ℕ) → p < slots m → q < slots m → joined b p c q ≡ true → Link m b p c q
unfolding joined
joined-link m b p c q hp hq e =
    ⊎_elim
    (λ t. let (x, y) = both_true (eqb b c) (eqb (ones (bit_xor p q)) 1) t in
    let (i, l, z) = ones-one m (bit_xor p q) (xor_lt m p q hp hq) (eqb-true (ones (bit_xor p q)) 1 y) in
    inl (eqb-true b c x, (i, l, xor-flip p q i z)))
    (λ t. let (x, y) = both_true (eqb p q) (eqb (bit_xor b c) (2 ^ p)) t in
    inr (eqb-true p q x, xor-flip b c p (eqb-true (bit_xor b c) (2 ^ p) y)))
    (either_true (eqb b c && eqb (ones (bit_xor p q)) 1) (eqb p q && eqb (bit_xor b c) (2 ^ p)) e)

pub link-joined : (m b p c q : ℕ) → Link m b p c q → joined b p c q ≡ true
unfolding joined
link-joined m b p c q (inl (e, (i, l, z))) =
    ap₂ (λ (x y : Bool). (x && y) || (eqb p q && eqb (bit_xor b c) (2 ^ p)))
    (eq-eqb b c e) (eq-eqb (ones (bit_xor p q)) 1 (ap ones (flip_is_xor p q i z) ∙ ones-pow i))
link-joined m b p c q (inr (e, z)) =
    second-true (eqb b c && eqb (ones (bit_xor p q)) 1) (eqb p q && eqb (bit_xor b c) (2 ^ p))
    (ap₂ (λ (x y : Bool). x && y) (eq-eqb p q e) (eq-eqb (bit_xor b c) (2 ^ p) (flip_is_xor b c p z)))

abbrev pub Linked : (m u v : ℕ) → Type 0
Linked m u v = Link m (block_of m u) (slot_of m u) (block_of m v) (slot_of m v)

pub linked-link : (m u v : ℕ) → linked m u v ≡ true → Linked m u v
unfolding linked
linked-link m u v e = joined-link m (block_of m u) (slot_of m u) (block_of m v) (slot_of m v) (slot-below m u) (slot-below m v) e

pub link-linked : (m u v : ℕ) → Linked m u v → linked m u v ≡ true
unfolding linked
link-linked m u v e = link-joined m (block_of m u) (slot_of m u) (block_of m v) (slot_of m v) e

-- of relays by their parts
pub linked_parts : (m b p c q : ℕ) → p < slots m → q < slots m → linked m (relay m b p) (relay m c q) ≡ joined b p c q
unfolding linked
linked_parts m b p c q hp hq =
    ap₂ (λ (x y : ℕ). joined x y (block_of m (relay m c q)) (slot_of m (relay m c q))) (block-relay m b p hp) (slot-relay m b p hp)
    ∙ ap₂ (joined b p) (block-relay m c q hq) (slot-relay m c q hq)

-- ---- the test, case by case

same_none : (b c p : ℕ) → b ≡ c → eqb (bit_xor b c) (2 ^ p) ≡ false
same_none b c p e =
    ne_eqb (bit_xor b c) (2 ^ p) (λ z. let n : 0 ≡ 2 ^ p = sym (ap (λ (y : ℕ). bit_xor y c) e ∙ xor_self c) ∙ z in omega (arith, pow_pos p))

pub joined_same : (b p c q : ℕ) → b ≡ c → joined b p c q ≡ eqb (ones (bit_xor p q)) 1
unfolding joined
joined_same b p c q e =
    ap₂ (λ (x y : Bool). (x && eqb (ones (bit_xor p q)) 1) || (eqb p q && y)) (eq-eqb b c e) (same_none b c p e)
    ∙ ap (λ (x : Bool). eqb (ones (bit_xor p q)) 1 || x) (and-false (eqb p q)) ∙ or-false (eqb (ones (bit_xor p q)) 1)

pub joined-across : (b p c q : ℕ) → b ≢ c → p ≡ q → joined b p c q ≡ eqb (bit_xor b c) (2 ^ p)
unfolding joined
joined-across b p c q ne e =
    ap₂ (λ (x y : Bool). (x && eqb (ones (bit_xor p q)) 1) || (y && eqb (bit_xor b c) (2 ^ p))) (ne_eqb b c ne) (eq-eqb p q e)

pub joined-not : (b p c q : ℕ) → b ≢ c → p ≢ q → joined b p c q ≡ false
unfolding joined
joined-not b p c q nb np =
    ap₂ (λ (x y : Bool). (x && eqb (ones (bit_xor p q)) 1) || (y && eqb (bit_xor b c) (2 ^ p))) (ne_eqb b c nb) (ne_eqb p q np)

-- ---- a link stays in the mesh

pub link_within : (m b p c q : ℕ) → Link m b p c q → b < blocks m → p < slots m → (c < blocks m) × (q < slots m)
link_within m b p c q (inl (e, (i, l, z))) hb hp =
    (subst (λ (y : ℕ). y < blocks m) e hb, subst (λ (y : ℕ). y < slots m) (sym z) (flip-lt m p i hp l))
link_within m b p c q (inr (e, z)) hb hp =
    (subst (λ (y : ℕ). y < blocks m) (sym z) (flip-lt (2 ^ m) b p hb hp), subst (λ (y : ℕ). y < slots m) e hp)
