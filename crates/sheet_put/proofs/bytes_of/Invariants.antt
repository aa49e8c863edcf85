-- `sheet_put::bytes_of` meets its contract: the invariant is that i counts are summed. Assumes nothing.
use Rattle.sheet_put.specs.Total.{Summed}
use Rattle.sheet_put.proofs.bytes_of.Given as goal

abbrev pub invariant-loop-h : goal.invariant-loop-h
invariant-loop-h l = Summed l.fn.version l.counts l.k l.n l.h-index
