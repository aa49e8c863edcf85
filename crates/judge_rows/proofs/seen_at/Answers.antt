use Rattle.std.proofs.Common.{◌+◌, refl, sym, ◌∙◌, arith}
use Rattle.marks.specs.Noted.{noted_more, noted_row}
use Rattle.scan.specs.Laws.{passed_start, passed_more, passed_at, passed_all, nowhere_at}
use Rattle.paths.specs.Fan.{relay, hops}
use Rattle.judge_rows.proofs.seen_at.Goals as goal

pub loop-p-init : goal.loop-p-init
loop-p-init c = record { passed = passed_start _ 0 _; looked = c.requires.looked }

pub seen_marked-requires : goal.seen_marked-requires
seen_marked-requires c =
    record {
      after = record { ruled = c.requires.after.ruled; held = c.requires.after.held; counted = c.requires.after.counted; row = record { room = c.requires.after.row.room; short = omega (arith, c.requires.after.row.short) } };
      looked = c.loop-p.invariant.looked;
      x_value = c.relay-x.ensures;
    }

pub returns-then-seen_marked : goal.returns-then-seen_marked
returns-then-seen_marked c =
    let at = passed_at c.loop-p.invariant.passed (omega arith) (sym c.seen_marked.ensures ∙ c.if-seen_marked.true) in
    record {
      result_value = sym at;
      looked_2 = λ e. absurd (nowhere_at e refl);
    }

pub loop-p-preserved : goal.loop-p-preserved
loop-p-preserved c =
    let a = c.args in
    record {
      passed = passed_more c.loop-p.invariant.passed (omega arith) (sym c.seen_marked.ensures ∙ c.if-seen_marked.false);
      looked = noted_more (relay a.rules.width a.places.now) (λ j. hops a.counts.now j + 1) c.loop-p.invariant.looked c.relay-x.ensures c.put.ensures;
    }

pub returns : goal.returns
returns c =
    let v = c.loop-p.invariant in
    let a = c.args in
    record {
      result_value = sym (passed_all v.passed (omega arith));
      looked_2 = λ e. noted_row (relay a.rules.width a.places.now) (λ j. hops a.counts.now j + 1) v.looked (omega (arith, c.requires.h_value));
    }
