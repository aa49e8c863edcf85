-- The mesh as a relay sees it: links are kept both ways (`seen-joined`, `seen-linked`), the relay itself becomes relay 0 (`seen-home`), and
-- each relay is seen as one relay and each is one so seen (`seen_below`, `unseen-below`, `seen-unseen`, `unseen-seen`). Assumes nothing.
use Rattle.std.specs.Prelude.{ℕ, ◌+◌, ◌^◌, ◌<◌, ◌≡◌, Bool, ◌&&◌, ◌||◌}
use Rattle.std.proofs.Common.{sym, ◌∙◌, zero-mul, eqb-true, eq-eqb}
use Rattle.std.proofs.Math.Path.{ap, ap₂}
use Rattle.std.specs.Int.Bits.{bit_xor, xor_lt, xor_self}
use Rattle.std.specs.Int.Count.{ones}
use Rattle.std.proofs.Math.Dec.{eqb}
use Rattle.bits.specs.Laws.{xor_back}
use Rattle.two_parts.specs.Two.{slots, blocks, relays, block_of, slot_of, relay, joined, linked}
use Rattle.two_parts.specs.Seen.{shuffled, seen_block, seen_slot, seen}
use Rattle.two_parts.specs.Digits.{xor_alike, xor_same, shuffled-lt, shuffled-xor, shuffled-pow, shuffled-same, shuffled-none, shuffled_twice}
use Rattle.two_parts.specs.Parts.{block-relay, slot-relay, relay_parts, relay-below, block-below, slot-below}
use Rattle.scan.specs.Laws.{tests_same}
use Rattle.two_parts.specs.Links.{linked_parts}

-- two comparisons that follow from each other
eqb_same : (x y v w : ℕ) → (x ≡ y → v ≡ w) → (v ≡ w → x ≡ y) → eqb x y ≡ eqb v w
eqb_same x y v w f g =
    tests_same (eqb x y) (eqb v w) (λ t. eq-eqb v w (f (eqb-true x y t))) (λ t. eq-eqb x y (g (eqb-true v w t)))

module _ (m a s : ℕ) (ha : a < blocks m) (hs : s < slots m) where
  pub seen_block-lt : (x : ℕ) → seen_block m a s x < blocks m
  unfolding seen_block
  seen_block-lt x = shuffled-lt m s hs (bit_xor x a)

  pub seen_slot-lt : (y : ℕ) → y < slots m → seen_slot s y < slots m
  unfolding seen_slot
  seen_slot-lt y h = xor_lt m y s h hs

  block_same : (x c : ℕ) → x < blocks m → c < blocks m → seen_block m a s x ≡ seen_block m a s c → x ≡ c
  unfolding seen_block
  block_same x c hx hc e = xor_same x c a (shuffled-same m s hs (bit_xor x a) (bit_xor c a) (xor_lt (2 ^ m) x a hx ha) (xor_lt (2 ^ m) c a hc ha) e)

  slot_same : (y q : ℕ) → seen_slot s y ≡ seen_slot s q → y ≡ q
  unfolding seen_slot
  slot_same y q e = xor_same y q s e

  -- the xor of two blocks has its bits moved, the xor of two slots stays
  block-xor : (x c : ℕ) → bit_xor (seen_block m a s x) (seen_block m a s c) ≡ shuffled (2 ^ m) s (bit_xor x c)
  unfolding seen_block
  block-xor x c = shuffled-xor m s hs (bit_xor x a) (bit_xor c a) ∙ ap (shuffled (2 ^ m) s) (xor_alike x c a)

  slot-xor : (y q : ℕ) → bit_xor (seen_slot s y) (seen_slot s q) ≡ bit_xor y q
  unfolding seen_slot
  slot-xor y q = xor_alike y q s

  slot-pow : (y : ℕ) → y < slots m → shuffled (2 ^ m) s (2 ^ y) ≡ 2 ^ seen_slot s y
  unfolding seen_slot
  slot-pow y h = shuffled-pow m s hs y h

  pub seen-joined : (x y c q : ℕ) → x < blocks m → y < slots m → c < blocks m → q < slots m
      → joined (seen_block m a s x) (seen_slot s y) (seen_block m a s c) (seen_slot s q) ≡ joined x y c q
  unfolding joined
  seen-joined x y c q hx hy hc hq =
      ap₂ (λ (u v : Bool). u || v)
      (ap₂ (λ (u v : Bool). u && v) (eqb_same (seen_block m a s x) (seen_block m a s c) x c (block_same x c hx hc) (ap (seen_block m a s)))
      (ap (λ (z : ℕ). eqb (ones z) 1) (slot-xor y q)))
      (ap₂ (λ (u v : Bool). u && v) (eqb_same (seen_slot s y) (seen_slot s q) y q (slot_same y q) (ap (seen_slot s)))
      (ap₂ eqb (block-xor x c) (sym (slot-pow y hy))
      ∙ eqb_same (shuffled (2 ^ m) s (bit_xor x c)) (shuffled (2 ^ m) s (2 ^ y)) (bit_xor x c) (2 ^ y)
      (shuffled-same m s hs (bit_xor x c) (2 ^ y) (xor_lt (2 ^ m) x c hx hc) (lib.Pow.pow-lt hy)) (ap (shuffled (2 ^ m) s))))

  pub home-block : seen_block m a s a ≡ 0
  unfolding seen_block
  home-block = ap (shuffled (2 ^ m) s) (xor_self a) ∙ shuffled-none m s hs

  pub home-slot : seen_slot s s ≡ 0
  unfolding seen_slot
  home-slot = xor_self s

-- ---- of relays by number

-- the relay that s sees as relay r
unfoldable pub unseen : (m s r : ℕ) → ℕ
unseen m s r = relay m (bit_xor (shuffled (2 ^ m) (slot_of m s) (block_of m r)) (block_of m s)) (bit_xor (slot_of m r) (slot_of m s))

module _ (m s : ℕ) (h : s < relays m) where
  abbrev a : ℕ
  a = block_of m s

  abbrev b : ℕ
  b = slot_of m s

  pub seen_below : (r : ℕ) → seen m s r < relays m
  unfolding seen
  seen_below r =
      relay-below m (seen_block m a b (block_of m r)) (seen_slot b (slot_of m r)) (seen_block-lt m a b (block-below m s h) (slot-below m s) (block_of m r))
      (seen_slot-lt m a b (block-below m s h) (slot-below m s) (slot_of m r) (slot-below m r))

  pub seen-home : seen m s s ≡ 0
  unfolding seen
  seen-home =
      ap₂ (relay m) (home-block m a b (block-below m s h) (slot-below m s)) (home-slot m a b (block-below m s h) (slot-below m s))
      ∙ ap (λ (z : ℕ). z + 0) (zero-mul (2 ^ m))

  pub seen-linked : (u v : ℕ) → u < relays m → v < relays m → linked m (seen m s u) (seen m s v) ≡ linked m u v
  unfolding seen linked
  seen-linked u v hu hv =
      let ha = block-below m s h in
      let hb = slot-below m s in
      linked_parts m (seen_block m a b (block_of m u)) (seen_slot b (slot_of m u)) (seen_block m a b (block_of m v)) (seen_slot b (slot_of m v))
      (seen_slot-lt m a b ha hb (slot_of m u) (slot-below m u)) (seen_slot-lt m a b ha hb (slot_of m v) (slot-below m v))
      ∙ seen-joined m a b ha hb (block_of m u) (slot_of m u) (block_of m v) (slot_of m v) (block-below m u hu) (slot-below m u) (block-below m v hv) (slot-below m v)

  pub unseen-below : (r : ℕ) → unseen m s r < relays m
  unfolding unseen
  unseen-below r =
      relay-below m (bit_xor (shuffled (2 ^ m) b (block_of m r)) a) (bit_xor (slot_of m r) b)
      (xor_lt (2 ^ m) (shuffled (2 ^ m) b (block_of m r)) a (shuffled-lt m b (slot-below m s) (block_of m r)) (block-below m s h))
      (xor_lt m (slot_of m r) b (slot-below m r) (slot-below m s))

  pub seen-unseen : (r : ℕ) → r < relays m → seen m s (unseen m s r) ≡ r
  unfolding seen unseen seen_block seen_slot
  seen-unseen r hr =
      let x = shuffled (2 ^ m) b (block_of m r) in
      let hq = xor_lt m (slot_of m r) b (slot-below m r) (slot-below m s) in
      ap₂ (relay m)
      (ap (λ (z : ℕ). shuffled (2 ^ m) b (bit_xor z a)) (block-relay m (bit_xor x a) (bit_xor (slot_of m r) b) hq)
      ∙ ap (shuffled (2 ^ m) b) (xor_back x a) ∙ shuffled_twice m b (slot-below m s) (block_of m r) (block-below m r hr))
      (ap (λ (z : ℕ). bit_xor z b) (slot-relay m (bit_xor x a) (bit_xor (slot_of m r) b) hq) ∙ xor_back (slot_of m r) b)
      ∙ relay_parts m r

  pub unseen-seen : (r : ℕ) → r < relays m → unseen m s (seen m s r) ≡ r
  unfolding seen unseen seen_block seen_slot
  unseen-seen r hr =
      let x = bit_xor (block_of m r) a in
      let hq = xor_lt m (slot_of m r) b (slot-below m r) (slot-below m s) in
      ap₂ (relay m)
      (ap (λ (z : ℕ). bit_xor (shuffled (2 ^ m) b z) a) (block-relay m (shuffled (2 ^ m) b x) (bit_xor (slot_of m r) b) hq)
      ∙ ap (λ (z : ℕ). bit_xor z a) (shuffled_twice m b (slot-below m s) x (xor_lt (2 ^ m) (block_of m r) a (block-below m r hr) (block-below m s h)))
      ∙ xor_back (block_of m r) a)
      (ap (λ (z : ℕ). bit_xor z b) (slot-relay m (shuffled (2 ^ m) b x) (bit_xor (slot_of m r) b) hq) ∙ xor_back (slot_of m r) b)
      ∙ relay_parts m r

  pub unseen-linked : (u v : ℕ) → u < relays m → v < relays m → linked m (unseen m s u) (unseen m s v) ≡ linked m u v
  unseen-linked u v hu hv =
      sym (seen-linked (unseen m s u) (unseen m s v) (unseen-below u) (unseen-below v)) ∙ ap₂ (linked m) (seen-unseen u hu) (seen-unseen v hv)
