-- What the facts of a size tell: 1 where it is not known, or the value.
use Rattle.std.specs.Prelude.{ℕ, not, List}
use Rattle.answers.specs.Told.{Told}
use Rattle.answers.specs.Order.{Fault, size_faults}
use Rattle.requests.specs.Facts as facts
use Rattle.meta_parts.specs.Meta.{known}

-- what may stand against a size: 1
abbrev pub size_faults_in : (n : ℕ) → List Fault
size_faults_in n = size_faults (not (known n))

-- a fact of the size, as `requests` tells it
abbrev pub fact_told : (n value : ℕ) → Told ℕ
fact_told n value = facts.fact_told (known n) value
