-- `cube_moves::open_door` meets its contract. Assumes nothing.
use Rattle.std.proofs.Common.{ℕ, sym, ◌∙◌, subst, bit_and}
use Rattle.bits.specs.Bit.{Lowest}
use Rattle.cube_math.specs.Masks.{less-some}
use Rattle.cube_moves.specs.Lone.{open_less, open_good}
use Rattle.cube_moves.proofs.open_door.Goals as goal

pub lowest-requires : goal.lowest-requires
lowest-requires c = λ e. less-some _ _ c.requires (sym c.less-doors.ensures ∙ e)

pub returns-then-good-eq0 : goal.returns-then-good-eq0
returns-then-good-eq0 c = open_less _ _ _ (subst (λ (y : ℕ). Lowest 64 y c.lowest.result) c.less-doors.ensures c.lowest.ensures)

pub returns : goal.returns
returns c = open_good _ _ c.args.x _ (subst (λ (y : ℕ). Lowest 64 (bit_and c.args.x y) c.lowest-2.result) c.less-doors.ensures c.lowest-2.ensures)
