use Rattle.std.proofs.Common.{arith}
use Rattle.marks.specs.Noted.{noted_none}
use Rattle.struck.specs.Struck.{thing, things}
use Rattle.struck.specs.Laws.{noted_all}
use Rattle.struck.proofs.note.Goals as goal

pub loop-i-init : goal.loop-i-init
loop-i-init c = let a = c.args in noted_none (thing a.w a.places.now a.d) (things a.counts.now a.d) c.requires.marks_len

pub note_path-requires : goal.note_path-requires
note_path-requires c =
    record { held = c.requires.by_index _ c.loop-i-test.true; d_bound = c.requires.d_bound; noted = c.loop-i.invariant }

pub returns : goal.returns
returns c =
    let a = c.args in
    noted_all (thing a.w a.places.now a.d) (things a.counts.now a.d) (omega arith) c.loop-i.invariant
