use Rattle.std.proofs.Common.{refl, arith}
use Rattle.around_search.specs.Room.{entered}
use Rattle.around_search.proofs.queue.enter.Goals as goal

pub overflow_mul-room : goal.overflow_mul-room
overflow_mul-room c = omega (arith, c.slice_known-1.given c.args.r)

pub overflow_add-room : goal.overflow_add-room
overflow_add-room c = omega (arith, c.requires.2, c.slice_known-1.given c.args.r)

pub overflow_add-room-2 : goal.overflow_add-room-2
overflow_add-room-2 c = omega (arith, c.requires.1)

pub returns : goal.returns
returns c =
    let a = c.args in
    entered a.r a.label a.i a.room.now _ _ c.requires.2 c.requires.0 c.requires.3 refl refl
