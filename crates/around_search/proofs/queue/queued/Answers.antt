use Rattle.std.proofs.Common.{refl}
use Rattle.around_search.specs.Room.{queued}
use Rattle.around_search.proofs.queue.queued.Goals as goal

pub returns : goal.returns
unfolding queued
returns c = refl
