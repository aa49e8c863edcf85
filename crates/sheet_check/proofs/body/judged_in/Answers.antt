-- `sheet_check::body::judged_in` meets its contract: the judge is lent what was taken, and no more. Assumes nothing.
use Rattle.std.proofs.Common.{ap, ◌∙◌}
use Rattle.std.proofs.Math.Option.{some}
use Rattle.sheet_check.specs.Judged.{fault_ruled, judged-sheet}
use Rattle.sheet_check.specs.Says.{ruled}
use Rattle.sheet_check.proofs.body.judged_in.Goals as goal

pub returns-in-Ok : goal.returns-in-Ok
returns-in-Ok c =
    let a = c.args in let h = a.head in
    ap ruled (judged-sheet a.version a.bytes.now h.mesh.kind h.mesh.size h.source a.longest h.paths c.requires c.take_paths.ensures c.in-Ok.ensures)

pub returns-in-Err : goal.returns-in-Err
returns-in-Err c =
    let a = c.args in let h = a.head in
    ap some c.flaw_in.ensures ∙ fault_ruled c.in-Err.fault
    ∙ ap ruled (judged-sheet a.version a.bytes.now h.mesh.kind h.mesh.size h.source a.longest h.paths c.requires c.take_paths.ensures c.in-Err.ensures)
