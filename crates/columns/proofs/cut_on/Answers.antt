use Rattle.std.proofs.Common.{sym, ap, [], arith}
use Rattle.scan.specs.Scan.{found, any}
use Rattle.scan.specs.Laws.{passed_start, passed_more, passed_at, passed_all}
use Rattle.paths.specs.Fan.{hops}
use Rattle.paths.specs.Whole.{failed}
use Rattle.struck.specs.Laws.{cut-struck}
use Rattle.columns.specs.Laws.{cut-told}
use Rattle.columns.proofs.cut_on.Goals as goal

pub loop-p-init : goal.loop-p-init
loop-p-init c = passed_start _ 0 _

pub relay-u-requires : goal.relay-u-requires
unfolding hops
relay-u-requires c = omega (arith, c.requires.held.row.room, c.requires.held.row.short)

pub overflow_add-p : goal.overflow_add-p
unfolding hops
overflow_add-p c = omega (arith, c.requires.held.row.room, c.requires.held.row.short, c.well_formed)

pub relay-v-requires : goal.relay-v-requires
unfolding hops
relay-v-requires c = omega (arith, c.requires.held.row.room, c.requires.held.row.short)

pub cut_at-requires : goal.cut_at-requires
unfolding hops
cut_at-requires c =
    let a = c.args in
    record {
      hit_len = c.requires.struck.long;
      v_value = λ t. cut-struck a.w a.places.now a.counts.now a.cuts.now a.i _ c.requires.struck (omega arith) c.relay-u.ensures c.relay-v.ensures t;
    }

pub returns-then-cut_at : goal.returns-then-cut_at
unfolding hops any
returns-then-cut_at c =
    let a = c.args in
    sym
    (ap found
    (passed_at c.loop-p.invariant (omega arith)
    (cut-told a.w a.places.now (failed [] a.cuts.now) a.i _ c.relay-u.ensures c.relay-v.ensures c.cut_at.ensures c.if-cut_at.true)))

pub loop-p-preserved : goal.loop-p-preserved
loop-p-preserved c =
    let a = c.args in
    passed_more c.loop-p.invariant (omega arith)
    (cut-told a.w a.places.now (failed [] a.cuts.now) a.i _ c.relay-u.ensures c.relay-v.ensures c.cut_at.ensures c.if-cut_at.false)

pub returns : goal.returns
unfolding hops any
returns c = sym (ap found (passed_all c.loop-p.invariant (omega arith)))
