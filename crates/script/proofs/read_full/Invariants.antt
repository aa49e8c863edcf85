-- No more has come than there is room for, and it is what the reader had; the measure is the room that is left.
use Rattle.std.proofs.Common.{length, take, ◌-◌, ◌≤◌, ◌≡◌}
use Rattle.std.specs.Io.KnownBytes.{Consumes}
use Rattle.script.proofs.read_full.Given as goal

abbrev pub invariant-loop-n : goal.invariant-loop-n
invariant-loop-n g l = record { within : l.n ≤ length l.bytes; kept : length l.bytes ≡ length l.initial.bytes; bytes : Consumes (g.R.Read.remaining l.initial.from) (g.R.Read.remaining l.from) (take l.n l.bytes) }

abbrev pub decreases-loop-n : goal.decreases-loop-n
decreases-loop-n g l = length l.initial.bytes - l.n
