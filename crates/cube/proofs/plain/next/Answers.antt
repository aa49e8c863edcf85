-- `cube::plain::next` meets its contract. Assumes nothing.
use Rattle.std.proofs.Common.{◌∙◌, le_refl}
use Rattle.bits.specs.Laws.{xor-zero-eq}
use Rattle.cube.specs.Routes.{next-there, next_is}
use Rattle.cube.proofs.plain.next.Goals as goal

pub returns-then-u-t : goal.returns-then-u-t
returns-then-u-t c = next-there _ _ c.if-u-t.true

pub lowest-requires : goal.lowest-requires
lowest-requires c = λ e. c.if-u-t.false (xor-zero-eq _ _ e)

pub returns : goal.returns
returns c =
    c.flip.ensures ∙ next_is 64 c.args.u c.args.t _ (le_refl 64) c.ranges.u.fits c.ranges.t.fits c.if-u-t.false c.lowest.ensures
