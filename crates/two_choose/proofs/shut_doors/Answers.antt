use Rattle.std.proofs.Common.{ℕ, ◌-◌, sym, subst, arith}
use Rattle.two_math.specs.Shut.{Opening, opening-none}
use Rattle.two_choose.specs.Doors.{door-left, door-more}
use Rattle.two_choose.proofs.shut_doors.Goals as goal

pub loop-i-init : goal.loop-i-init
loop-i-init c =
    let a = c.args in
    subst (λ (y : ℕ). Opening a.doors a.p0 a.keep 0 (y - 1)) (sym c.power-shut.ensures) (opening-none a.doors a.p0 a.keep c.requires.kept)

pub next_door-requires : goal.next_door-requires
next_door-requires c = (omega (arith, c.requires), door-left c.requires c.loop-i.invariant c.loop-i-test.true)

pub loop-i-preserved : goal.loop-i-preserved
loop-i-preserved c =
    door-more c.requires c.loop-i.invariant c.loop-i-test.true _ _ c.next_door.ensures c.flip-shut.ensures
