-- `line_write::write_fan` meets its contract, by whether something wants. Assumes nothing.
use Rattle.line.specs.Written.{fan_text}
use Rattle.line_write.specs.Rooms.{roomy, written-not, written}
use Rattle.line_write.proofs.write_fan.Goals as goal

pub returns-then-wanting : goal.returns-then-wanting
returns-then-wanting c =
    let all = written-not (fan_text c.args.k c.args.w c.args.places.now c.args.counts.now) c.args.out.now c.wanting.ensures c.if-wanting.true in
    record {
      told = all.0;
      left = all.1;
    }

pub put_fan-requires : goal.put_fan-requires
put_fan-requires c =
    roomy c.args.k c.args.w c.args.places.now c.args.counts.now _ c.wanting.ensures c.if-wanting.false

pub returns : goal.returns
returns c =
    let all = written (fan_text c.args.k c.args.w c.args.places.now c.args.counts.now) c.args.out.now c.wanting.ensures c.if-wanting.false c.put_fan.ensures in
    record {
      told = all.0;
      left = all.1;
    }
