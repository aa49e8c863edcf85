-- `line_write::any_overlong` meets its contract: the library's search of the counts. Assumes nothing.
use Rattle.std.proofs.Common.{◌∙◌, leb, take, rules}
use Rattle.std.proofs.lemmas.Iterator.{YieldsList-from_slice}
use Rattle.std.proofs.lemmas.Iterator.Search.{any_from_yields_List}
use Rattle.line_write.specs.Rooms.{overlong_is}
use Rattle.line_write.proofs.any_overlong.Goals as goal

pub returns : goal.returns
returns c =
    any_from_yields_List (λ h. leb c.args.w h) _ _ _ c.any.ensures.ran (YieldsList-from_slice (take c.args.k c.args.counts.now) cc) (λ x b q h. search rules)
    ∙ overlong_is c.args.k c.args.w c.args.counts.now c.requires
