-- The cases of the test of a link: within a block, across, neither.
use Rattle.two_parts.specs.Links.{joined_same, joined-across, joined-not}

pub ruleset joined_cases = (joined_same, joined-across, joined-not)
