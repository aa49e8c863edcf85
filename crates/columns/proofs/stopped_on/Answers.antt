use Rattle.std.proofs.Common.{sym, ap, [], arith}
use Rattle.scan.specs.Scan.{found, any}
use Rattle.scan.specs.Laws.{passed_start, passed_more, passed_at, passed_all}
use Rattle.paths.specs.Fan.{hops}
use Rattle.paths.specs.Whole.{failed}
use Rattle.struck.specs.Laws.{stop_struck}
use Rattle.columns.specs.Laws.{stop_told}
use Rattle.columns.proofs.stopped_on.Goals as goal

pub loop-p-init : goal.loop-p-init
loop-p-init c = passed_start _ 0 _

pub relay-x-requires : goal.relay-x-requires
unfolding hops
relay-x-requires c = omega (arith, c.requires.held.row.room, c.requires.held.row.short)

pub stopped_at-requires : goal.stopped_at-requires
unfolding hops
stopped_at-requires c =
    let a = c.args in
    record {
      hit_len = c.requires.struck.long;
      x_value = λ t. stop_struck a.w a.places.now a.counts.now a.stopped.now a.i _ c.requires.struck (omega arith) c.relay-x.ensures t;
    }

pub returns-then-stopped_at : goal.returns-then-stopped_at
unfolding hops any
returns-then-stopped_at c =
    let a = c.args in
    sym (ap found (passed_at c.loop-p.invariant (omega arith) (stop_told a.w a.places.now (failed a.stopped.now []) a.i _ c.relay-x.ensures c.stopped_at.ensures c.if-stopped_at.true)))

pub overflow_add-p-end : goal.overflow_add-p-end
unfolding hops
overflow_add-p-end c = omega (arith, c.requires.held.row.room, c.requires.held.row.short, c.well_formed)

pub loop-p-preserved : goal.loop-p-preserved
loop-p-preserved c =
    let a = c.args in
    passed_more c.loop-p.invariant (omega arith) (stop_told a.w a.places.now (failed a.stopped.now []) a.i _ c.relay-x.ensures c.stopped_at.ensures c.if-stopped_at.false)

pub returns : goal.returns
unfolding hops any
returns c = sym (ap found (passed_all c.loop-p.invariant (omega arith)))
