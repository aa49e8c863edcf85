use Rattle.std.proofs.Common.{ℕ, ◌+◌, refl, arith}
use Rattle.std.proofs.lemmas.List.{length-replicate}
use Rattle.std.proofs.lemmas.Result.{err_from_is_err_and}
use Rattle.marks.specs.Marks.{words}
use Rattle.marks.specs.Noted.{noted_none}
use Rattle.paths.specs.Fan.{relay, hops}
use Rattle.judge_rows.specs.Rules.{rules_of}
use Rattle.judge.specs.Search.{search_starts, search_room, search_goes_on, search_finds, search_ends}
use Rattle.judge.proofs.found.first_finding.Goals as goal

pub loop-i-init : goal.loop-i-init
loop-i-init c =
    let a = c.args in
    record {
      searched = search_starts (rules_of a.rules) a.source a.targets.now a.places.now a.counts.now c.requires.ruled.wide c.requires.room c.requires.counted;
      looked = noted_none (relay a.rules.width a.places.now) (λ j. hops a.counts.now j + 1) (length-replicate {A = ℕ} words 0);
    }

pub look-requires : goal.look-requires
look-requires c =
    let v = c.loop-i.invariant.searched in record {
      next = record {
        ruled = c.requires.ruled;
        held = v.held;
        counted = omega (arith, v.counted);
        room = search_room (rules_of c.args.rules) c.args.source c.args.targets.now c.args.places.now c.args.counts.now v c.loop-i-test.true;
      };
      looked = c.loop-i.invariant.looked;
    }

pub returns-in_err-look : goal.returns-in_err-look
returns-in_err-look c =
    let a = c.args in
    let p = err_from_is_err_and c.from_residual.result c.from_residual.ensures.1 in
    rw (p.1, p.2)
    (search_finds (rules_of a.rules) a.source a.targets.now a.places.now a.counts.now _ c.loop-i.invariant.searched c.loop-i-test.true
    c.in_err-look.ensures.result_value)

pub loop-i-preserved : goal.loop-i-preserved
loop-i-preserved c =
    let a = c.args in
    record {
      searched =
          search_goes_on (rules_of a.rules) a.source a.targets.now a.places.now a.counts.now c.loop-i.invariant.searched c.loop-i-test.true
          c.in_ok-look.ensures.result_value;
      looked = c.in_ok-look.ensures.looked_2 refl;
    }

pub returns : goal.returns
returns c =
    let a = c.args in
    search_ends (rules_of a.rules) a.source a.targets.now a.places.now a.counts.now c.loop-i.invariant.searched c.loop-i-test.false
