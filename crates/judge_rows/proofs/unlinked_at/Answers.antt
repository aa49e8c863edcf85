use Rattle.std.proofs.Common.{sym, ◌∙◌, arith}
use Rattle.scan.specs.Laws.{passed_start, passed_more, passed_at, passed_all}
use Rattle.judge_rows.proofs.unlinked_at.Goals as goal

pub relays_in-relays-requires : goal.relays_in-relays-requires
relays_in-relays-requires c = c.requires.ruled.known

pub loop-p-init : goal.loop-p-init
loop-p-init c = passed_start _ _ _

pub unlinked-requires : goal.unlinked-requires
unlinked-requires c =
    record {
      ruled = c.requires.ruled;
      all = c.relays_in-relays.ensures;
      room = omega (arith, c.requires.row.room, c.requires.row.short);
      later = c.loop-p.invariant.from;
    }

pub returns-then-unlinked : goal.returns-then-unlinked
returns-then-unlinked c = sym (passed_at c.loop-p.invariant (omega arith) (sym c.unlinked.ensures ∙ c.if-unlinked.true))

pub loop-p-preserved : goal.loop-p-preserved
loop-p-preserved c = passed_more c.loop-p.invariant (omega arith) (sym c.unlinked.ensures ∙ c.if-unlinked.false)

pub returns : goal.returns
returns c = sym (passed_all c.loop-p.invariant (omega arith))
