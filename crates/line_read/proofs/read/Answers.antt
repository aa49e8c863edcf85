-- `line_read::read` meets its contract, by what its line states and how many places are lent. Assumes nothing.
use Rattle.std.specs.Option.{ok_or}
use Rattle.std.proofs.Common.{◌≡◌, ◌∙◌, ap}
use Rattle.std.proofs.lemmas.Result.{err_from_is_err_and}
use Rattle.answers.specs.declared.Refusal.TheVariants.{Unreadable}
use Rattle.line_read.specs.Asks.{asks_nothing, asks_short, asks_fine}
use Rattle.line_read.proofs.read.Goals as goal

pub returns-in_err-kind-clause-told : goal.returns-in_err-kind-clause-told
returns-in_err-kind-clause-told c =
    let p = err_from_is_err_and c.from_residual.result c.from_residual.ensures.1 in
    let why : c.in_err-kind.field-0.0 ≡ Unreadable = cc (c.in_err-kind.ensures.value ∙ ap (λ o. ok_or o Unreadable) c.in_err-kind.ensures.ok_part) in
    rw (p.1, p.2, why) (asks_nothing c.args.text.now _ c.args.targets.now c.min-n.ensures c.parse.ensures c.in_err-kind.ensures.ok_part).0

pub returns-in_err-kind-clause-left : goal.returns-in_err-kind-clause-left
returns-in_err-kind-clause-left c = (asks_nothing c.args.text.now _ c.args.targets.now c.min-n.ensures c.parse.ensures c.in_err-kind.ensures.ok_part).1

pub returns-then-targets-count : goal.returns-then-targets-count
returns-then-targets-count c =
    let all = asks_short c.args.text.now _ c.args.targets.now c.min-n.ensures c.parse.ensures c.in_ok-kind.ensures.ok_part c.if-targets-count.true in
    record {
      told = all.0;
      left = all.1;
    }

pub returns : goal.returns
returns c =
    let all = asks_fine c.args.text.now _ c.args.targets.now c.min-n.ensures c.parse.ensures c.in_ok-kind.ensures.ok_part c.if-targets-count.false c.copy.ensures in
    record {
      told = all.0;
      left = all.1;
    }
