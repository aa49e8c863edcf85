-- `octets::number` meets its contract: the invariant is that the bytes before the loop's index are read. Assumes nothing.
use Rattle.octets.specs.Turns.{Reading}
use Rattle.octets.proofs.number.Given as goal

abbrev pub invariant-loop-byte : goal.invariant-loop-byte
invariant-loop-byte l = Reading l.bytes l.at l.w l.value l.byte-index
