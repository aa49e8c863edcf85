-- `two_general::write_path` meets its contract: the three pieces stand one after another. Assumes nothing.
use Rattle.std.proofs.Common.{refl, arith, length-set}
use Rattle.two_general.specs.Path.{ways, tail-below, tail-room, wrote}
use Rattle.two_general.proofs.write_path.Goals as goal

pub write_slots-r-requires : goal.write_slots-r-requires
write_slots-r-requires c =
    let a = c.requires in
    let first = simp length-set at c.write_slots-p.auto.out in
    let w = ways a _ _ c.write_slots-p.ensures.next first in
    let room = tail-room a c.args.source c.args.out.now c.write_slots-p.ensures (c.write_blocks-q.ensures _ w) in
    (a.order, a.block, tail-below a, omega (arith, room, first, c.write_blocks-q.auto.out))

pub overflow_sub-result : goal.overflow_sub-result
overflow_sub-result c =
    let w = ways c.requires _ _ c.write_slots-p.ensures.next (simp length-set at c.write_slots-p.auto.out) in
    omega (arith, c.write_slots-r.ensures.next, (c.write_blocks-q.ensures _ w).next, c.write_slots-p.ensures.next)

pub overflow_sub-result-2 : goal.overflow_sub-result-2
overflow_sub-result-2 c =
    let w = ways c.requires _ _ c.write_slots-p.ensures.next (simp length-set at c.write_slots-p.auto.out) in
    omega (arith, c.write_slots-r.ensures.next, (c.write_blocks-q.ensures _ w).next, c.write_slots-p.ensures.next)

pub returns : goal.returns
returns c =
    let a = c.requires in
    let w = ways a _ _ c.write_slots-p.ensures.next (simp length-set at c.write_slots-p.auto.out) in
    wrote a c.args.source c.args.out.now c.write_slots-p.ensures (c.write_blocks-q.ensures _ w) _ c.write_slots-r.ensures refl
