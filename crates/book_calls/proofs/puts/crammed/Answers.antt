-- `book_calls::puts::crammed` meets its contract. Assumes nothing.
use Rattle.book_calls.specs.Puts.{live_fits, crammed_long, crammed-rest}
use Rattle.book_calls.proofs.puts.crammed.Goals as goal

pub live_bytes-live-requires : goal.live_bytes-live-requires
live_bytes-live-requires c = let a = c.args in live_fits a.book a.bytes.now c.min-room.ensures c.min.ensures

pub returns-then-room-n : goal.returns-then-room-n
returns-then-room-n c = let a = c.args in crammed_long a.book a.bytes.now c.min-room.ensures c.min.ensures a.sheet.now c.live_bytes-live.ensures c.if-room-n.true

pub returns : goal.returns
returns c = let a = c.args in crammed-rest a.book a.bytes.now c.min-room.ensures c.min.ensures a.sheet.now c.live_bytes-live.ensures c.if-room-n.false
