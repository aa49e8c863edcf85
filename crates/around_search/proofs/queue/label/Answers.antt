use Rattle.std.proofs.Common.{refl}
use Rattle.around_search.specs.Room.{label}
use Rattle.around_search.proofs.queue.label.Goals as goal

pub returns : goal.returns
unfolding label
returns c = refl
