-- The m + 1 relays that a relay is linked to (`near`): the slot's m bits changed, one at a time, and the block's bit of the slot. Each is the relay's number with one
-- bit of it changed (`door`), and these are its links (`doors`): what follows is told of any mesh (`links`). Assumes nothing.
use Rattle.std.specs.Prelude.{ℕ, ◌+◌, ◌^◌, ◌≤◌, ◌<◌, ◌≡◌, refl, Bool, true, ◌⊎◌}
use Rattle.std.proofs.Common.{sym, ap₂, ◌∙◌, inl, inr, arith, lt-ltb, le-ltb}
use Rattle.std.proofs.Math.Path.{ap}
use Rattle.bits.specs.Bit.{flip}
use Rattle.bits.specs.Laws.{flip-lt, lt-or-le}
use Rattle.bits.specs.Parts.{flip_high_div, flip_high_mod, flip-low-div, flip-low-mod}
use Rattle.scan.specs.Scan.{pick}
use Rattle.paths.specs.Links.{Links}
use Rattle.paths.specs.Doors.{Doors}
use Rattle.paths.proofs.Doors.{door-links}
use Rattle.two_parts.specs.Two.{block_of, slot_of, relay, linked, two}
use Rattle.two_parts.specs.Parts.{block-relay, slot-relay, relay_parts, slot-below, same_parts}
use Rattle.two_parts.specs.Links.{Link, linked-link, link-linked}
use Rattle.two_parts.specs.Near.{near, door}

module _ (m u : ℕ) where
  abbrev b : ℕ
  b = block_of m u

  abbrev p : ℕ
  p = slot_of m u

  pub near-inside : (i : ℕ) → i < m → near m u i ≡ relay m (block_of m u) (flip (slot_of m u) i)
  unfolding near
  near-inside i l = ap (λ (x : Bool). pick x (relay m b (flip p i)) (relay m (flip b p) p)) (lt-ltb i m l)

  pub near-across : (i : ℕ) → m ≤ i → near m u i ≡ relay m (flip (block_of m u) (slot_of m u)) (slot_of m u)
  unfolding near
  near-across i l = ap (λ (x : Bool). pick x (relay m b (flip p i)) (relay m (flip b p) p)) (le-ltb i m l)

  door-inside : (i : ℕ) → i < m → door m u i ≡ i
  unfolding door
  door-inside i l = ap (λ (x : Bool). pick x i (m + p)) (lt-ltb i m l)

  door-across : (i : ℕ) → m ≤ i → door m u i ≡ m + slot_of m u
  unfolding door
  door-across i l = ap (λ (x : Bool). pick x i (m + p)) (le-ltb i m l)

  -- a bit of a part is a bit of the number
  pub flip-slot : (i : ℕ) → i < m → relay m (block_of m u) (flip (slot_of m u) i) ≡ flip u i
  flip-slot i l =
      let h = flip-lt m p i (slot-below m u) l in
      same_parts m (relay m b (flip p i)) (flip u i) (block-relay m b (flip p i) h ∙ sym (flip-low-div m u i l)) (slot-relay m b (flip p i) h ∙ sym (flip-low-mod m u i l))

  pub flip-block : (k : ℕ) → relay m (flip (block_of m u) k) (slot_of m u) ≡ flip u (m + k)
  flip-block k =
      let h = slot-below m u in
      same_parts m (relay m (flip b k) p) (flip u (m + k)) (block-relay m (flip b k) p h ∙ sym (flip_high_div m u k)) (slot-relay m (flip b k) p h ∙ sym (flip_high_mod m u k))

  near_flips : (i : ℕ) → near m u i ≡ flip u (door m u i)
  near_flips i = go (lt-or-le i m)
    where
      go : (i < m) ⊎ (m ≤ i) → near m u i ≡ flip u (door m u i)
      go (inl l) = near-inside i l ∙ flip-slot i l ∙ sym (ap (flip u) (door-inside i l))
      go (inr l) = near-across i l ∙ flip-block p ∙ sym (ap (flip u) (door-across i l))

  door_within : (i : ℕ) → door m u i < 2 ^ m + m
  door_within i = go (lt-or-le i m)
    where
      go : (i < m) ⊎ (m ≤ i) → door m u i < 2 ^ m + m
      go (inl l) = omega (arith, door-inside i l)
      go (inr l) = omega (arith, door-across i l, slot-below m u)

  door_differ : (i j : ℕ) → i < m + 1 → j < m + 1 → door m u i ≡ door m u j → i ≡ j
  door_differ i j h g e = go (lt-or-le i m) (lt-or-le j m)
    where
      go : (i < m) ⊎ (m ≤ i) → (j < m) ⊎ (m ≤ j) → i ≡ j
      go (inl l) (inl k) = sym (door-inside i l) ∙ e ∙ door-inside j k
      go (inl l) (inr k) = absurd (omega (arith, e, door-inside i l, door-across j k))
      go (inr l) (inl k) = absurd (omega (arith, e, door-across i l, door-inside j k))
      go (inr l) (inr k) = omega arith

  near-linked : (i : ℕ) → linked m u (near m u i) ≡ true
  near-linked i = link-linked m u (near m u i) (go (lt-or-le i m))
    where
      go : (i < m) ⊎ (m ≤ i) → Link m b p (block_of m (near m u i)) (slot_of m (near m u i))
      go (inl l) =
          let h = flip-lt m p i (slot-below m u) l in
          inl (sym (ap (block_of m) (near-inside i l) ∙ block-relay m b (flip p i) h), (i, l, ap (slot_of m) (near-inside i l) ∙ slot-relay m b (flip p i) h))
      go (inr l) =
          let h = slot-below m u in
          inr (sym (ap (slot_of m) (near-across i l) ∙ slot-relay m (flip b p) p h), ap (block_of m) (near-across i l) ∙ block-relay m (flip b p) p h)

  linked-near : (v : ℕ) → linked m u v ≡ true → (i : ℕ) × (i < m + 1) × (near m u i ≡ v)
  linked-near v e = go (linked-link m u v e)
    where
      go : Link m b p (block_of m v) (slot_of m v) → (i : ℕ) × (i < m + 1) × (near m u i ≡ v)
      go (inl (x, (i, l, z))) = (i, omega arith, near-inside i l ∙ ap₂ (relay m) x (sym z) ∙ relay_parts m v)
      go (inr (x, z)) = (m, omega arith, near-across m (omega arith) ∙ ap₂ (relay m) (sym z) x ∙ relay_parts m v)

-- the slot's bits stay open whatever the slot; across, the slot stays
door_back : (m u i : ℕ) → i < m + 1 → door m (flip u (door m u i)) i ≡ door m u i
door_back m u i h = go (lt-or-le i m)
  where
    go : (i < m) ⊎ (m ≤ i) → door m (flip u (door m u i)) i ≡ door m u i
    go (inl l) = door-inside m (flip u (door m u i)) i l ∙ sym (door-inside m u i l)
    go (inr l) =
        door-across m (flip u (door m u i)) i l
        ∙ ap (λ (x : ℕ). m + slot_of m (flip u x)) (door-across m u i l)
        ∙ ap (λ (x : ℕ). m + x) (flip_high_mod m u (slot_of m u))
        ∙ sym (door-across m u i l)

-- link i of a relay changes bit i of the slot, or the block's bit of the slot
pub doors : (m : ℕ) → Doors (two m) (2 ^ m + m) (near m) (door m)
doors m = record {
  relays = refl;
  within = λ u i h l. door_within m u i;
  differ = λ u i j h l g e. door_differ m u i j l g e;
  flips = λ u i h l. near_flips m u i;
  back = λ u i h l. (i, l, door_back m u i l);
  linked = λ u i h l. near-linked m u i;
  all = λ u v h g e. linked-near m u v e;
}

pub links : (m : ℕ) → Links (two m) (near m)
links m = door-links (two m) (2 ^ m + m) (near m) (door m) (doors m)
