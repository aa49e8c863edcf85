-- `octets::put` meets its contract: the invariant is that the bytes of what is left, in the places that are left, finish the number. Assumes nothing.
use Rattle.std.proofs.Common.{◌-◌, ◌≡◌}
use Rattle.std.proofs.lemmas.List.Edits.{sets}
use Rattle.octets.specs.Big.{big}
use Rattle.octets.proofs.put.Given as goal

abbrev pub invariant-loop-i : goal.invariant-loop-i
invariant-loop-i l = sets l.out l.at (big (l.w - l.i) l.rest) ≡ sets l.fn.out l.at (big l.w l.value)
