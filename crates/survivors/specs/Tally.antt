-- What a tally tells, a count of the paths that are whole or what stands against it: the specification's number, path and place, as a verdict does, and how many paths are
-- whole, which is 0 of a finding or a refusal.
use Rattle.std.specs.Prelude.{ℕ, Result, Ok, Err, ⊤}
use Rattle.judge.specs.Says.{Ruling, verdict_told}
use Rattle.judge.specs.declared.Fault.{Fault}

abbrev pub Tally : Type 0
Tally = Result ℕ Fault

-- number, path and place, and how many paths are whole
pub data Tallied : Type 0 where
  tallied : Ruling → ℕ → Tallied

abbrev pub ruling_of : Tallied → Ruling
ruling_of (tallied r c) = r

abbrev pub whole_of : Tallied → ℕ
whole_of (tallied r c) = c

-- a tally is a verdict with a count
abbrev pub verdict_of : Tally → Result ⊤ Fault
verdict_of (Ok c) = Ok tt
verdict_of (Err f) = Err f

abbrev pub count_of : Tally → ℕ
count_of (Ok c) = c
count_of (Err f) = 0

abbrev pub tally_told : Tally → Tallied
tally_told t = tallied (verdict_told (verdict_of t)) (count_of t)
