-- Each turn fills more of the buffer, with what the reader had, and no line end has come: the measure is the room that is left.
use Rattle.std.proofs.Common.{◌≡◌, false, length, take, ◌-◌, ◌≤◌}
use Rattle.std.specs.Io.KnownBytes.{Consumes}
use Rattle.scan.specs.Scan.{any}
use Rattle.input.specs.Says.{is_end}
use Rattle.input.proofs.read_line.Given as goal

abbrev pub invariant-loop-n : goal.invariant-loop-n
invariant-loop-n g l = record { within : l.n ≤ length l.buf; kept : length l.buf ≡ length l.initial.buf; bytes : Consumes (g.R.Read.remaining l.initial.from) (g.R.Read.remaining l.from) (take l.n l.buf); no_end : any (is_end l.buf) 0 l.n ≡ false }

abbrev pub decreases-loop-n : goal.decreases-loop-n
decreases-loop-n g l = length l.initial.buf - l.n
