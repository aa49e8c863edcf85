-- `book_calls::puts::short` meets its contract. Assumes nothing.
use Rattle.book_calls.specs.Cases.{short_long, short-rest}
use Rattle.book_calls.proofs.puts.short.Goals as goal

pub returns-then-room-n : goal.returns-then-room-n
returns-then-room-n c = let a = c.args in short_long a.book a.bytes.now a.sheet.now c.min-room.ensures c.if-room-n.true

pub returns : goal.returns
returns c = let a = c.args in short-rest a.book a.bytes.now a.sheet.now c.min-room.ensures c.if-room-n.false
