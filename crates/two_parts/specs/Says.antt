-- What the facts of an order tell: 1 where it is not known, or the value.
use Rattle.std.specs.Prelude.{ℕ, not, List}
use Rattle.answers.specs.Told.{Told}
use Rattle.answers.specs.Order.{Fault, size_faults}
use Rattle.requests.specs.Facts as facts
use Rattle.two_parts.specs.Two.{known}

-- what may stand against an order: 1
abbrev pub size_faults_in : (m : ℕ) → List Fault
size_faults_in m = size_faults (not (known m))

-- a fact of the order, as `requests` tells it
abbrev pub fact_told : (m value : ℕ) → Told ℕ
fact_told m value = facts.fact_told (known m) value
