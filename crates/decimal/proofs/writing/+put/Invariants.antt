-- `decimal::writing::put` meets its contract. It calls itself for the digits before the last: the measure is the number. Assumes nothing.
use Rattle.decimal.proofs.writing.+put.Given as goal

abbrev pub decreases-put : goal.decreases-put
decreases-put l = l.n
