-- `two_parts::views::seen_slot` meets its contract. Assumes nothing.
use Rattle.std.proofs.Common.{refl}
use Rattle.two_parts.specs.Seen.{seen_slot}
use Rattle.two_parts.proofs.views.seen_slot.Goals as goal

pub returns : goal.returns
unfolding seen_slot
returns c = refl
