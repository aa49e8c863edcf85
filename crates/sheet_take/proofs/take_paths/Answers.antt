use Rattle.std.proofs.Common.{ℕ, ◌+◌, refl, ap, arith}
use Rattle.sheet_take.specs.Taking.{taking_starts, next-fine, next-room, taking_more}
use Rattle.sheet_take.proofs.take_paths.Goals as goal

pub loop-i-init : goal.loop-i-init
loop-i-init c = taking_starts c.args.source c.requires

pub number-h-requires : goal.number-h-requires
number-h-requires c = ((next-fine c.loop-i.invariant c.loop-i-test.true).begun, omega arith)

pub overflow_add-at : goal.overflow_add-at
overflow_add-at c = omega (arith, (next-fine c.loop-i.invariant c.loop-i-test.true).within, c.head_bytes-head.ensures)

pub take_path-requires : goal.take_path-requires
take_path-requires c =
    let fine = next-fine c.loop-i.invariant c.loop-i-test.true in
    (omega (arith, fine.within, c.head_bytes-head.ensures, c.number-h.ensures), omega (arith, fine.short, c.number-h.ensures), (next-room c.loop-i.invariant c.loop-i-test.true).0)

pub overflow_mul-at : goal.overflow_mul-at
overflow_mul-at c = omega (arith, (next-fine c.loop-i.invariant c.loop-i-test.true).short, (next-room c.loop-i.invariant c.loop-i-test.true).3, c.number-h.ensures)

pub overflow_add-at-in-loop-i : goal.overflow_add-at-in-loop-i
overflow_add-at-in-loop-i c = omega (arith, (next-fine c.loop-i.invariant c.loop-i-test.true).within, c.head_bytes-head.ensures, c.number-h.ensures)

pub overflow_add-at-in-loop-i-2 : goal.overflow_add-at-in-loop-i-2
overflow_add-at-in-loop-i-2 c = omega (arith, (next-fine c.loop-i.invariant c.loop-i-test.true).within, c.head_bytes-head.ensures, c.number-h.ensures)

pub overflow_sub-at : goal.overflow_sub-at
overflow_sub-at c = omega (arith, (next-fine c.loop-i.invariant c.loop-i-test.true).some-hops, c.number-h.ensures)

pub number-requires : goal.number-requires
number-requires c =
    let fine = next-fine c.loop-i.invariant c.loop-i-test.true in
    (omega (arith, fine.within, c.head_bytes-head.ensures, fine.some-hops, c.number-h.ensures), omega arith)

pub loop-i-preserved : goal.loop-i-preserved
loop-i-preserved c = taking_more c.loop-i.invariant c.loop-i-test.true c.head_bytes-head.result (ap (λ (x : ℕ). c.loop-i.at + x) c.head_bytes-head.ensures) c.number-h.ensures c.take_path.ensures refl c.number.ensures
