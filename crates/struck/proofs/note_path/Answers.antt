use Rattle.std.proofs.Common.{ap₂, ◌∙◌, arith}
use Rattle.marks.specs.Noted.{noted_more, noted_row}
use Rattle.paths.specs.Fan.{hops}
use Rattle.struck.specs.Struck.{key, thing, things}
use Rattle.struck.proofs.note_path.Goals as goal

pub overflow_add-n : goal.overflow_add-n
unfolding hops
overflow_add-n c = omega (arith, c.requires.held.row.short, c.requires.held.row.room, c.well_formed)

pub relay-u-requires : goal.relay-u-requires
unfolding hops
relay-u-requires c = omega (arith, c.requires.held.row.short, c.requires.held.row.room)

pub relay-v-requires : goal.relay-v-requires
unfolding hops
relay-v-requires c = omega (arith, c.requires.held.row.short, c.requires.held.row.room)

pub loop-p-preserved : goal.loop-p-preserved
loop-p-preserved c =
    let a = c.args in
    noted_more (thing a.w a.places.now a.d) (things a.counts.now a.d) c.loop-p.invariant
    (c.key.ensures ∙ ap₂ key c.relay-u.ensures c.relay-v.ensures) c.put.ensures

pub returns : goal.returns
unfolding hops
returns c = let a = c.args in noted_row (thing a.w a.places.now a.d) (things a.counts.now a.d) c.loop-p.invariant (omega arith)
