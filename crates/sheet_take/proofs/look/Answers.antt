use Rattle.std.proofs.Common.{arith}
use Rattle.std.proofs.lemmas.Result.{err_from_is_err_and}
use Rattle.sheet.specs.Format.{after}
use Rattle.sheet_take.specs.Says.{wrong_at}
use Rattle.sheet_take.specs.Looking.{looking_more, looking_stops, looking_left, looking_ends, strode_next, strode_flawed}
use Rattle.sheet_take.proofs.look.Goals as goal

pub returns-in_err-at : goal.returns-in_err-at
returns-in_err-at c =
    let a = c.args in
    let p = err_from_is_err_and c.from_residual.result c.from_residual.ensures.1 in
    rw (p.1, p.2)
    (looking_stops c.loop-i.invariant c.loop-i-test.true (strode_flawed (wrong_at a.version a.longest a.bytes.now c.loop-i.at c.loop-i.i) (after a.version a.bytes.now c.loop-i.at) c.in_err-at.ensures))

pub loop-i-preserved : goal.loop-i-preserved
loop-i-preserved c =
    let a = c.args in
    let e = strode_next (wrong_at a.version a.longest a.bytes.now c.loop-i.at c.loop-i.i) (after a.version a.bytes.now c.loop-i.at) c.in_ok-at.ensures in
    looking_more c.loop-i.invariant c.loop-i-test.true e.0 e.1

pub returns-then-at-bytes : goal.returns-then-at-bytes
returns-then-at-bytes c = looking_left c.loop-i.invariant (omega arith) c.if-at-bytes.true

pub returns : goal.returns
returns c = looking_ends c.loop-i.invariant (omega arith) (omega arith)
