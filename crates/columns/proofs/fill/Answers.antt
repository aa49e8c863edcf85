-- `columns::fill` meets its contract: each column is filled by its own call. Assumes nothing.
use Rattle.std.proofs.Common.{ℕ, ◌∙◌, ap, List, length}
use lib.Seq.{take-length}
use Rattle.columns.specs.Says.{ahead}
use Rattle.columns.proofs.fill.Goals as goal

pub returns : goal.returns
returns c =
    let a = c.args in
    record {
      counted = c.mark.ensures.value;
      ended = c.copy.ensures ∙ ap (λ (l : List ℕ). ahead (length a.targets.now) l a.ends.now) (take-length a.targets.now);
      hopped = c.copy-2.ensures;
      marked = c.mark.ensures.out_after;
    }
