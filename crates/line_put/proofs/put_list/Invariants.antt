-- `line_put::put_list` meets its contract: the invariant is the part of the list that is written (`Putting`). Assumes nothing.
use Rattle.line_put.specs.Writes.{Putting}
use Rattle.line_put.proofs.put_list.Given as goal

abbrev pub invariant-loop-n : goal.invariant-loop-n
invariant-loop-n l = Putting l.initial.out l.at l.list l.n-index l.p l.out
