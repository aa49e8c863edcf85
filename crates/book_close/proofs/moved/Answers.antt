-- `book_close::moved` meets its contract. Assumes nothing.
use Rattle.std.proofs.Common.{arith, rules, take, length-take}
use Rattle.book.specs.Closed.{kept_long}
use Rattle.book_close.specs.Slides.{slid_is}
use Rattle.book_close.proofs.moved.Goals as goal

pub live_bytes-requires : goal.live_bytes-requires
live_bytes-requires c = omega (arith, c.min-start.ensures, c.requires)

pub overflow_add-result : goal.overflow_add-result
overflow_add-result c =
    let a = c.args in
    omega (arith, c.live_bytes.ensures, c.min-start.ensures, kept_long (take c.min-start.result a.bytes.now), length-take c.min-start.result a.bytes.now)

pub returns : goal.returns
returns c =
    let a = c.args in
    slid_is a.bytes.now a.end a.x c.min-start.result c.live_bytes.result c.min-start.ensures c.live_bytes.ensures
