-- `line_write::write_refusal` meets its contract: where there is room, the word and the two numbers are written. Assumes nothing.
use Rattle.std.proofs.Common.{refl, sym, lt-ltb, le-ltb}
use Rattle.line.specs.Written.{refused_text}
use Rattle.line_write.specs.Rooms.{refusal-room, refusal-put, written-not, written}
use Rattle.line_write.proofs.write_refusal.Goals as goal

pub returns-then-out-lt-REFUSAL_ROOM : goal.returns-then-out-lt-REFUSAL_ROOM
returns-then-out-lt-REFUSAL_ROOM c =
    let all = written-not (refused_text c.args.why) c.args.out.now (sym (lt-ltb _ _ c.if-out-lt-REFUSAL_ROOM.true)) refl in
    record {
      told = all.0;
      left = all.1;
    }

pub put_head-requires : goal.put_head-requires
put_head-requires c =
    refusal-room c.args.why c.args.out.now c.number-number.ensures c.place-place.ensures c.place-place.type_inv c.if-out-lt-REFUSAL_ROOM.false

pub returns : goal.returns
returns c =
    let all = written (refused_text c.args.why) c.args.out.now (sym (le-ltb _ _ c.if-out-lt-REFUSAL_ROOM.false)) refl (refusal-put c.args.why c.args.out.now c.number-number.ensures c.place-place.ensures c.place-place.type_inv c.if-out-lt-REFUSAL_ROOM.false c.put_head.ensures) in
    record {
      told = all.0;
      left = all.1;
    }
