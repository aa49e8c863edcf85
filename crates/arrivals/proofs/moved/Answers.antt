-- `arrivals::moved` meets its contract: the shift leaves bit 0 free, and from 64 on nothing is left. Assumes nothing.
use Rattle.std.proofs.Common.{ℕ, ap, ◌∙◌, arith, bit_or}
use Rattle.arrivals.specs.Marks.{moved_shift, moved-far}
use Rattle.arrivals.proofs.moved.Goals as goal

pub returns-then-by-lt64 : goal.returns-then-by-lt64
returns-then-by-lt64 c =
    ap (λ (v : ℕ). bit_or v 1) c.shifted.ensures ∙ moved_shift c.args.marks c.args.by c.requires

pub returns-else-by-lt64 : goal.returns-else-by-lt64
returns-else-by-lt64 c = moved-far c.args.marks c.args.by (omega arith)
