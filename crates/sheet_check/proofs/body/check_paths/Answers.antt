-- `sheet_check::body::check_paths` meets its contract: the paths one by one, and then the judge. Assumes nothing.
use Rattle.sheet_check.specs.Bodied.{body_long, longest_is, body_small}
use Rattle.sheet_check.specs.Checking.{paths_judgeable}
use Rattle.sheet_check.proofs.body.check_paths.Goals as goal

pub look-requires : goal.look-requires
look-requires c = (body_long c.requires, body_small c.requires c.places_in-longest.ensures)

pub judged-requires : goal.judged-requires
judged-requires c = paths_judgeable c.requires (longest_is c.requires c.places_in-longest.ensures) c.in_ok-look.ensures
