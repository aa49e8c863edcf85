-- `requests::targets_checked` meets its contract: the first of the three searches that finds a place is told. Assumes nothing.
use Rattle.std.proofs.Common.{◌∙◌, sym}
use mathlib.Core.Option.{none}
use Rattle.answers.specs.declared.Refusal.TheVariants.{TargetOut, TargetIsSource, TargetAgain}
use Rattle.requests.specs.Request.{told_at, told-after}
use Rattle.requests.proofs.targets_checked.Goals as goal

pub returns-in-Some : goal.returns-in-Some
returns-in-Some c = told_at TargetOut _ (sym c.in-Some.ensures)

pub returns-in-Some-same_at : goal.returns-in-Some-same_at
returns-in-Some-same_at c = told_at TargetIsSource _ (sym c.in-Some-same_at.ensures) ∙ told-after TargetOut _ (sym c.in_default.ensures)

pub returns-in-Some-again_at : goal.returns-in-Some-again_at
returns-in-Some-again_at c =
    told_at TargetAgain _ (sym c.in-Some-again_at.ensures)
    ∙ told-after TargetIsSource _ (sym c.in_default-same_at.ensures)
    ∙ told-after TargetOut _ (sym c.in_default.ensures)

pub returns : goal.returns
returns c =
    told-after TargetAgain none (sym c.in_default-again_at.ensures)
    ∙ told-after TargetIsSource _ (sym c.in_default-same_at.ensures)
    ∙ told-after TargetOut _ (sym c.in_default.ensures)
