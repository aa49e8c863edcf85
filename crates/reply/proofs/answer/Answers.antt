-- `reply::answer` meets its contract, by whether there is room and what the line states. Assumes nothing.
use Rattle.std.proofs.Common.{replicate, length-take-le, refl, sym}
use Rattle.reply.specs.Laws.{refusal-said}
use Rattle.reply.specs.Lines.{line_request, reply_short, reply_refused, reply_request}
use Rattle.reply.proofs.answer.Goals as goal

pub returns-then-out-lt-ROOM : goal.returns-then-out-lt-ROOM
returns-then-out-lt-ROOM c =
    reply_short c.args.text.now c.args.out.now _ c.if-out-lt-ROOM.true refl refl

pub slice_bounds-targets-end : goal.slice_bounds-targets-end
slice_bounds-targets-end c = (line_request c.args.text.now (replicate 64 0) _ refl _ c.read.ensures.told c.read.ensures.left c.in-Ok.is).within

pub slice_bounds-request-end : goal.slice_bounds-request-end
slice_bounds-request-end c = sym (length-take-le c.in-Ok.asked.count c.read.new.targets (line_request c.args.text.now (replicate 64 0) _ refl _ c.read.ensures.told c.read.ensures.left c.in-Ok.is).within)

pub returns-in-Err : goal.returns-in-Err
returns-in-Err c =
    reply_refused c.args.text.now (replicate 64 0) _ refl _ c.read.ensures.told c.read.ensures.left c.args.out.now c.if-out-lt-ROOM.false _ c.in-Err.is (refusal-said c.in-Err.why c.args.out.now c.if-out-lt-ROOM.false c.write_refusal.ensures.told c.write_refusal.ensures.left)

pub returns-in-Ok : goal.returns-in-Ok
returns-in-Ok c =
    reply_request c.args.text.now (replicate 64 0) _ refl _ c.read.ensures.told c.read.ensures.left c.args.out.now c.if-out-lt-ROOM.false _ c.in-Ok.is c.request.ensures
