-- `two_parts::links::near` meets its contract. Assumes nothing.
use Rattle.std.proofs.Common.{ℕ, ◌^◌, ◌≤◌, ◌<◌, ◌≡◌, refl, sym, ap₂, ◌∙◌, subst, arith}
use Rattle.bits.specs.Bit.{flip}
use Rattle.bits.specs.Laws.{flip-lt}
use Rattle.two_parts.specs.Two.{blocks, slots, block_of, slot_of, relay}
use Rattle.two_parts.specs.Parts.{known_bounds, block-below, slot-below, slots-few}
use Rattle.two_parts.proofs.NearLaws.{near-inside, near-across}
use Rattle.two_parts.specs.Needs.{Fine, Placed}
use Rattle.two_parts.proofs.links.near.Goals as goal

-- what is asked, with the parts b and p that were taken off u
module _ {m u b p : ℕ} (fine : Fine m u u) (eb : b ≡ block_of m u) (ep : p ≡ slot_of m u) where
  few : m ≤ 5
  few = (known_bounds m fine.order).1

  block : b < blocks m
  block = subst (λ (x : ℕ). x < blocks m) (sym eb) (block-below m u fine.source)

  slot : p < slots m
  slot = subst (λ (x : ℕ). x < slots m) (sym ep) (slot-below m u)

  narrow : p < 32
  narrow = omega (arith, slot, slots-few m few)

  along : {i q : ℕ} → i < m → q ≡ flip p i → Placed m b q
  along {i} l e = record { order = few; block = block; slot = subst (λ (x : ℕ). x < slots m) (sym e) (flip-lt m p i slot l) }

  across : {c : ℕ} → c ≡ flip b p → Placed m c p
  across e = record { order = few; block = subst (λ (x : ℕ). x < blocks m) (sym e) (flip-lt (2 ^ m) b p block slot); slot = slot }

pub block_of-b-requires : goal.block_of-b-requires
block_of-b-requires c = (known_bounds c.args.order.0 c.requires.fine.order).1

pub slot_of-p-requires : goal.slot_of-p-requires
slot_of-p-requires c = (known_bounds c.args.order.0 c.requires.fine.order).1

pub overflow_cast-i : goal.overflow_cast-i
overflow_cast-i c = omega (arith, c.if-i-order.true, (known_bounds c.args.order.0 c.requires.fine.order).1)

pub flip-requires : goal.flip-requires
flip-requires c = omega (arith, c.if-i-order.true, (known_bounds c.args.order.0 c.requires.fine.order).1)

pub relay_of-requires : goal.relay_of-requires
relay_of-requires c =
    along c.requires.fine c.block_of-b.ensures c.slot_of-p.ensures c.if-i-order.true c.flip.ensures

pub returns-then-i-order : goal.returns-then-i-order
returns-then-i-order c =
    let a = c.args in
    let m = a.order.0 in
    c.relay_of.ensures
    ∙ ap₂ (relay m) c.block_of-b.ensures (c.flip.ensures ∙ ap₂ flip c.slot_of-p.ensures refl)
    ∙ sym (near-inside m a.u a.i c.if-i-order.true)

pub overflow_cast-p : goal.overflow_cast-p
overflow_cast-p c = omega (arith, narrow c.requires.fine c.block_of-b.ensures c.slot_of-p.ensures)

pub flip-requires-2 : goal.flip-requires-2
flip-requires-2 c = omega (arith, narrow c.requires.fine c.block_of-b.ensures c.slot_of-p.ensures)

pub relay_of-requires-2 : goal.relay_of-requires-2
relay_of-requires-2 c =
    across c.requires.fine c.block_of-b.ensures c.slot_of-p.ensures c.flip-2.ensures

pub returns : goal.returns
returns c =
    let a = c.args in
    let m = a.order.0 in
    c.relay_of-2.ensures
    ∙ ap₂ (relay m) (c.flip-2.ensures ∙ ap₂ flip c.block_of-b.ensures c.slot_of-p.ensures) c.slot_of-p.ensures
    ∙ sym (near-across m a.u a.i (omega (arith, c.if-i-order.false)))
