-- `two_general::put_path` meets its contract: its leg is written. Assumes nothing.
use Rattle.std.proofs.Common.{arith}
use Rattle.two_general.specs.Paths.{held_small, head_row, path_ask, put}
use Rattle.two_general.proofs.put_path.Goals as goal

pub head_of-head-requires : goal.head_of-head-requires
head_of-head-requires c = head_row c.requires.1.held _ c.requires.1.lt

pub overflow_cast-leave : goal.overflow_cast-leave
overflow_cast-leave c =
    let i = c.requires.1 in
    omega (arith, (held_small i.held _ i.lt).2, (c.leg_of-leg.ensures _ _ _ i.k _ _ i.lt i.held.state (i.held.leave _ i.lt)).leave_in)

pub write_path-requires : goal.write_path-requires
write_path-requires c =
    let i = c.requires.1 in
    rw c.head_of-head.ensures (path_ask i.held _ i.lt (c.leg_of-leg.ensures _ _ _ i.k _ _ i.lt i.held.state (i.held.leave _ i.lt)) _ _ (omega (arith, c.requires.0)))

pub returns : goal.returns
returns c = λ k lt h. put h _ lt (c.leg_of-leg.ensures _ _ _ k _ _ lt h.state (h.leave _ lt)) _ _ (rw c.head_of-head.ensures at c.write_path.ensures)
