-- What a fact of a size tells, and what may stand against a source and a target, where the size may be unknown. Assumes nothing.
use Rattle.std.specs.Prelude.{ℕ, Bool, not, List, ◌++◌}
use Rattle.answers.specs.Order.{Fault, first, size_faults, pair_faults}
use Rattle.answers.specs.Told.{Told, tell}

-- 1, or the fact
abbrev pub fact_told : (known : Bool) (fact : ℕ) → Told ℕ
fact_told known fact = tell (first (size_faults (not known))) 0 fact

-- 1, 2, 5
abbrev pub pair_faults_of : (known : Bool) (relays s t : ℕ) → List Fault
pair_faults_of known relays s t = size_faults (not known) ++ pair_faults relays s t
