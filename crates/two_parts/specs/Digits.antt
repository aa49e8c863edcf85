-- Laws of bits that the two-level mesh needs beside those of the crate `bits`. Assumes nothing.
--
-- `gather-bit`, `gather-lt`: a number made of its bits. `shuffled-xor`, `shuffled-pow`, `shuffled-same`: moving each bit from p to
-- p xor b keeps the xor of two numbers, takes 2 ^ p to 2 ^ (p xor b), and leaves different numbers different.
use Rattle.std.specs.Prelude.{ℕ, zero, suc, ◌+◌, ◌*◌, ◌%◌, ◌^◌, ◌<◌, ◌≡◌, refl, ◌⊎◌}
use Rattle.std.proofs.Common.{sym, ap, ap₂, ◌∙◌, inl, inr, ⊎_elim, pow-suc, zero-mul, one-mul, arith, pow_pos}
use Rattle.std.proofs.Math.Decide.{ℕ_discrete}
use Rattle.std.proofs.Math.Arith.{digits_div}
use Rattle.std.proofs.Math.Pow.{pow-lt}
use Rattle.std.specs.Int.Bits.{bit_xor, differ}
use Rattle.std.proofs.lemmas.Nat.{xor_comm, xor_lt}
use Rattle.bits.specs.Bit.{bit}
use Rattle.bits.specs.Laws.{bit-lt, bit-none, bit-xor, bit-pow-same, bit-pow-other, same_bits, xor_assoc, xor_back}
use Rattle.bits.specs.Parts.{xor_forth, bit_under}
use Rattle.two_parts.specs.Seen.{gather, shuffled}

-- ---- xor

-- two numbers changed alike
pub xor_alike : (x y a : ℕ) → bit_xor (bit_xor x a) (bit_xor y a) ≡ bit_xor x y
xor_alike x y a =
    ap (bit_xor (bit_xor x a)) (xor_comm y a) ∙ xor_assoc x a (bit_xor a y) ∙ ap (bit_xor x) (xor_forth a y)

pub xor_same : (x y a : ℕ) → bit_xor x a ≡ bit_xor y a → x ≡ y
xor_same x y a e = sym (xor_back x a) ∙ ap (λ (z : ℕ). bit_xor z a) e ∙ xor_back y a

-- ---- a number made of its bits

gather-more : (f : ℕ → ℕ) (n : ℕ) → gather f (suc n) ≡ f n * 2 ^ n + gather f n
unfolding gather
gather-more f n = omega arith

gather_none : (f : ℕ → ℕ) → gather f 0 ≡ 0
unfolding gather
gather_none f = refl

digit : (x n : ℕ) → x < 2 → (x * 2 ^ n ≡ 0) ⊎ (x * 2 ^ n ≡ 2 ^ n)
digit zero n h = inl (zero-mul (2 ^ n))
digit (suc zero) n h = inr (one-mul (2 ^ n))
digit (suc (suc x)) n h = absurd (omega arith)

pub gather-lt : (f : ℕ → ℕ) (n : ℕ) → ((i : ℕ) → f i < 2) → gather f n < 2 ^ n
gather-lt f zero h = omega (arith, gather_none f)
gather-lt f (suc n) h =
    ⊎_elim (λ e. omega (arith, gather-more f n, gather-lt f n h, pow-suc 2 n))
    (λ e. omega (arith, gather-more f n, gather-lt f n h, pow-suc 2 n)) (digit (f n) n (h n))

-- the bits of two digits
bit-top : (n q r : ℕ) → q < 2 → r < 2 ^ n → bit n (q * 2 ^ n + r) ≡ q
unfolding bit
bit-top n q r h g = ap (λ (y : ℕ). y % 2) (digits_div q g) ∙ small q h
  where
    small : (x : ℕ) → x < 2 → x % 2 ≡ x
    small x l = omega arith

pub gather-bit : (f : ℕ → ℕ) (n i : ℕ) → ((j : ℕ) → f j < 2) → i < n → bit i (gather f n) ≡ f i
gather-bit f zero i h l = absurd (omega arith)
gather-bit f (suc n) i h l = ap (bit i) (gather-more f n) ∙ go (ℕ_discrete i n) (λ g. gather-bit f n i h g)
  where
    go : Dec (i ≡ n) → (i < n → bit i (gather f n) ≡ f i) → bit i (f n * 2 ^ n + gather f n) ≡ f i
    go (yes e) rest = rw e (bit-top n (f n) (gather f n) (h n) (gather-lt f n h))
    go (no ne) rest = bit_under n i (f n) (gather f n) (omega arith) ∙ rest (omega arith)

-- ---- bits moved from p to p xor b

module _ (m b : ℕ) (hb : b < 2 ^ m) where
  pub shuffled-lt : (x : ℕ) → shuffled (2 ^ m) b x < 2 ^ (2 ^ m)
  unfolding shuffled
  shuffled-lt x = gather-lt _ (2 ^ m) (λ i. bit-lt _ x)

  pub shuffled-bit : (x i : ℕ) → i < 2 ^ m → bit i (shuffled (2 ^ m) b x) ≡ bit (bit_xor i b) x
  unfolding shuffled
  shuffled-bit x i l = gather-bit (λ i. bit (bit_xor i b) x) (2 ^ m) i (λ j. bit-lt (bit_xor j b) x) l

  -- the bit p stands at p xor b
  pub shuffled-moves : (x p : ℕ) → p < 2 ^ m → bit (bit_xor p b) (shuffled (2 ^ m) b x) ≡ bit p x
  shuffled-moves x p l = shuffled-bit x (bit_xor p b) (xor_lt m p b l hb) ∙ ap (λ (y : ℕ). bit y x) (xor_back p b)

  pub shuffled-xor : (x y : ℕ) → bit_xor (shuffled (2 ^ m) b x) (shuffled (2 ^ m) b y) ≡ shuffled (2 ^ m) b (bit_xor x y)
  shuffled-xor x y =
      let s = shuffled (2 ^ m) b in
      same_bits (2 ^ m) (bit_xor (s x) (s y)) (s (bit_xor x y)) (xor_lt (2 ^ m) (s x) (s y) (shuffled-lt x) (shuffled-lt y)) (shuffled-lt (bit_xor x y))
      (λ i l. bit-xor i (s x) (s y) ∙ ap₂ differ (shuffled-bit x i l) (shuffled-bit y i l) ∙ sym (shuffled-bit (bit_xor x y) i l ∙ bit-xor (bit_xor i b) x y))

  pub shuffled-pow : (p : ℕ) → p < 2 ^ m → shuffled (2 ^ m) b (2 ^ p) ≡ 2 ^ bit_xor p b
  shuffled-pow p l =
      let q = xor_lt m p b l hb in
      same_bits (2 ^ m) (shuffled (2 ^ m) b (2 ^ p)) (2 ^ bit_xor p b) (shuffled-lt (2 ^ p)) (pow-lt q)
      (λ i h. go i h (ℕ_discrete i (bit_xor p b)))
    where
      go : (i : ℕ) → i < 2 ^ m → Dec (i ≡ bit_xor p b) → bit i (shuffled (2 ^ m) b (2 ^ p)) ≡ bit i (2 ^ bit_xor p b)
      go i h (yes e) =
          shuffled-bit (2 ^ p) i h ∙ ap (λ (y : ℕ). bit y (2 ^ p)) (ap (λ (y : ℕ). bit_xor y b) e ∙ xor_back p b) ∙ bit-pow-same p
          ∙ sym (ap (λ (y : ℕ). bit y (2 ^ bit_xor p b)) e ∙ bit-pow-same (bit_xor p b))
      go i h (no ne) =
          shuffled-bit (2 ^ p) i h ∙ bit-pow-other (bit_xor i b) p (λ e. ne (sym (xor_back i b) ∙ ap (λ (y : ℕ). bit_xor y b) e))
          ∙ sym (bit-pow-other i (bit_xor p b) ne)

  pub shuffled-same : (x y : ℕ) → x < 2 ^ (2 ^ m) → y < 2 ^ (2 ^ m) → shuffled (2 ^ m) b x ≡ shuffled (2 ^ m) b y → x ≡ y
  shuffled-same x y hx hy e =
      same_bits (2 ^ m) x y hx hy
      (λ i l. sym (shuffled-moves x i l) ∙ ap (bit (bit_xor i b)) e ∙ shuffled-moves y i l)

  pub shuffled-none : shuffled (2 ^ m) b 0 ≡ 0
  shuffled-none =
      same_bits (2 ^ m) (shuffled (2 ^ m) b 0) 0 (shuffled-lt 0) (pow_pos (2 ^ m))
      (λ i l. shuffled-bit 0 i l ∙ bit-none (bit_xor i b) ∙ sym (bit-none i))

  -- twice is as before
  pub shuffled_twice : (x : ℕ) → x < 2 ^ (2 ^ m) → shuffled (2 ^ m) b (shuffled (2 ^ m) b x) ≡ x
  shuffled_twice x h =
      same_bits (2 ^ m) (shuffled (2 ^ m) b (shuffled (2 ^ m) b x)) x (shuffled-lt (shuffled (2 ^ m) b x)) h
      (λ i l. shuffled-bit (shuffled (2 ^ m) b x) i l ∙ shuffled-moves x i l)
