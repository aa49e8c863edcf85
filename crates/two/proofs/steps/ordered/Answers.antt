-- `two::steps::ordered` meets its contract. Assumes nothing.
use Rattle.std.proofs.Common.{ap, ◌∙◌}
use Rattle.bits.specs.Swaps.{swapped}
use Rattle.two.specs.Ordered.{mask_1, mask_2, mask_4, ordered}
use Rattle.two.proofs.steps.ordered.Goals as goal

pub returns : goal.returns
unfolding ordered
returns c =
    c.swap.ensures
    ∙ ap (swapped mask_1 1) (c.swap-by_two.ensures ∙ ap (swapped mask_2 2) (c.swap-by_three.ensures ∙ ap (swapped mask_4 4) c.swap-by_four.ensures))
