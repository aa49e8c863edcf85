-- The relays of a cube whose bit b is v, for each b and v, are a cube of one dimension less: leaving the bit out (`without`) and putting it in again
-- (`having`) go between the two, each the other's way back, and keep the links (`half`). Assumes nothing.
use Rattle.std.specs.Prelude.{ℕ, zero, suc, ◌+◌, ◌*◌, ◌/◌, ◌%◌, ◌^◌, ◌≤◌, ◌<◌, ◌≡◌, eqb}
use Rattle.std.proofs.Common.{sym, ap, ap₂, ◌∙◌, pow-suc, mod-lt, zero-lt-suc, arith}
use Rattle.std.specs.Int.Bits.{bit_xor, differ, xor_step}
use Rattle.std.proofs.lemmas.Nat.{xor_shr}
use Rattle.std.specs.Int.Count.{ones, ones_step}
use Rattle.bits.specs.Bit.{bit}
use Rattle.bits.specs.Laws.{bit-zero, bit-suc, bit-xor, differ_self}
use Rattle.cube.specs.Cube.{linked}

-- x without its bit b: the bits above it move down by one
unfoldable pub without : (b x : ℕ) → ℕ
without zero x = x / 2
without (suc b) x = without b (x / 2) * 2 + x % 2

-- y with v put in as its bit b: the bits from there on move up by one
unfoldable pub having : (b v y : ℕ) → ℕ
having zero v y = y * 2 + v
having (suc b) v y = having b v (y / 2) * 2 + y % 2

-- ---- there and back

chosen : (b v y : ℕ) → v < 2 → bit b (having b v y) ≡ v
unfolding having
chosen zero v y h = bit-zero (y * 2 + v) ∙ omega arith
chosen (suc b) v y h =
    let half : (having b v (y / 2) * 2 + y % 2) / 2 ≡ having b v (y / 2) = omega arith in
    bit-suc b (having b v (y / 2) * 2 + y % 2) ∙ ap (bit b) half ∙ chosen b v (y / 2) h

forth : (b v y : ℕ) → v < 2 → without b (having b v y) ≡ y
unfolding having without
forth zero v y h = omega arith
forth (suc b) v y h =
    let half : (having b v (y / 2) * 2 + y % 2) / 2 ≡ having b v (y / 2) = omega arith in
    omega (arith, ap (without b) half ∙ forth b v (y / 2) h)

back : (b v x : ℕ) → bit b x ≡ v → having b v (without b x) ≡ x
unfolding having without
back zero v x e = omega (arith, bit-zero x, e)
back (suc b) v x e =
    let half : (without b (x / 2) * 2 + x % 2) / 2 ≡ without b (x / 2) = omega arith in
    omega (arith, ap (having b v) half ∙ back b v (x / 2) (sym (bit-suc b x) ∙ e))

-- ---- within the cubes

inside : (m b v y : ℕ) → b ≤ m → v < 2 → y < 2 ^ m → having b v y < 2 ^ suc m
unfolding having
inside m zero v y h g lt = omega (arith, pow-suc 2 m)
inside zero (suc b) v y h g lt = absurd (omega arith)
inside (suc m) (suc b) v y h g lt = omega (arith, pow-suc 2 (suc m), pow-suc 2 m, inside m b v (y / 2) (omega arith) g (omega (arith, pow-suc 2 m)))

smaller : (m b x : ℕ) → b ≤ m → x < 2 ^ suc m → without b x < 2 ^ m
unfolding without
smaller m zero x h lt = omega (arith, pow-suc 2 m)
smaller zero (suc b) x h lt = absurd (omega arith)
smaller (suc m) (suc b) x h lt = omega (arith, pow-suc 2 m, smaller m b (x / 2) (omega arith) (omega (arith, pow-suc 2 (suc m))))

-- ---- links

-- the set bits are those that stay, and the one left out
ones-without : (b x : ℕ) → ones x ≡ ones (without b x) + bit b x
unfolding without
ones-without zero x = omega (arith, ones_step x, bit-zero x)
ones-without (suc b) x =
    let w = without b (x / 2) in
    let half : (w * 2 + x % 2) / 2 ≡ w = omega arith in
    omega (arith, ones_step x, ones_step (w * 2 + x % 2), ap ones half, ones-without b (x / 2), bit-suc b x)

halved : (w d : ℕ) → d < 2 → (w * 2 + d) / 2 ≡ w
halved w d h = omega arith

rest : (w d : ℕ) → d < 2 → (w * 2 + d) % 2 ≡ d
rest w d h = omega arith

-- leaving a bit out of two numbers leaves it out of what they differ in
xor-without : (b x y : ℕ) → bit_xor (without b x) (without b y) ≡ without b (bit_xor x y)
unfolding without
xor-without zero x y = sym (xor_shr x y 1)
xor-without (suc b) x y =
    let w = without b (x / 2) in
    let u = without b (y / 2) in
    let low : bit_xor x y % 2 ≡ differ (x % 2) (y % 2) = sym (bit-zero (bit_xor x y)) ∙ bit-xor 0 x y ∙ ap₂ differ (bit-zero x) (bit-zero y) in
    let halves : bit_xor ((w * 2 + x % 2) / 2) ((u * 2 + y % 2) / 2) ≡ without b (bit_xor x y / 2) =
    ap₂ bit_xor (halved w (x % 2) (mod-lt x (zero-lt-suc 1))) (halved u (y % 2) (mod-lt y (zero-lt-suc 1))) ∙ xor-without b (x / 2) (y / 2) ∙ ap (without b) (sym (xor_shr x y 1)) in
    let rests : differ ((w * 2 + x % 2) % 2) ((u * 2 + y % 2) % 2) ≡ bit_xor x y % 2 =
    ap₂ differ (rest w (x % 2) (mod-lt x (zero-lt-suc 1))) (rest u (y % 2) (mod-lt y (zero-lt-suc 1))) ∙ sym low in
    xor_step (w * 2 + x % 2) (u * 2 + y % 2) ∙ ap₂ (λ (p q : ℕ). p * 2 + q) halves rests

pub links-kept : (b x y : ℕ) → bit b x ≡ bit b y → linked (without b x) (without b y) ≡ linked x y
unfolding linked
links-kept b x y e =
    let same : bit b (bit_xor x y) ≡ 0 = bit-xor b x y ∙ ap (λ (d : ℕ). differ d (bit b y)) e ∙ differ_self (bit b y) in
    let all : ones (bit_xor (without b x) (without b y)) ≡ ones (bit_xor x y) = omega (arith, ap ones (xor-without b x y), ones-without b (bit_xor x y), same) in
    ap (λ (n : ℕ). eqb n 1) all

-- ---- a half of a cube

-- of the cube of n dimensions, n above 1: the relays with bit b at v, and the cube of n - 1 dimensions, here m
pub record Half (m b v : ℕ) : Type 0 where
  pub smaller : (x : ℕ) → x < 2 ^ suc m → without b x < 2 ^ m
  pub inside : (y : ℕ) → y < 2 ^ m → having b v y < 2 ^ suc m
  pub chosen : (y : ℕ) → bit b (having b v y) ≡ v
  pub forth : (y : ℕ) → without b (having b v y) ≡ y
  pub back : (x : ℕ) → bit b x ≡ v → having b v (without b x) ≡ x
  pub links : (x y : ℕ) → bit b x ≡ v → bit b y ≡ v → linked (without b x) (without b y) ≡ linked x y

pub half : (m b v : ℕ) → b ≤ m → v < 2 → Half m b v
half m b v h g = record {
  smaller = λ x. smaller m b x h;
  inside = λ y. inside m b v y h g;
  chosen = λ y. chosen b v y g;
  forth = λ y. forth b v y g;
  back = λ x. back b v x;
  links = λ x y p q. links-kept b x y (p ∙ sym q);
}
