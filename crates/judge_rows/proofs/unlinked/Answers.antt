-- `judge_rows::unlinked` meets its contract. Assumes nothing.
use Rattle.std.proofs.Common.{◌∙◌, le-leb}
use Rattle.judge_rows.specs.Laws.{out_of_range, in_range}
use Rattle.judge_rows.specs.Rules.{rules_of}
use Rattle.judge_rows.proofs.unlinked.Goals as goal

pub returns-then-relays-v : goal.returns-then-relays-v
returns-then-relays-v c =
    let a = c.args in
    le-leb _ _ c.if-relays-v.true
    ∙ out_of_range (rules_of a.rules) a.places.now a.i a.p c.requires.ruled.wide c.requires.all c.relay-v.ensures c.if-relays-v.true

pub joined-requires : goal.joined-requires
joined-requires c = c.requires.ruled.known

pub returns-else-relays-v : goal.returns-else-relays-v
returns-else-relays-v c =
    let a = c.args in
    in_range (rules_of a.rules) a.places.now a.i a.p c.requires.ruled.wide c.requires.all c.relay-v.ensures
    c.if-relays-v.false c.relay.ensures c.joined.ensures
