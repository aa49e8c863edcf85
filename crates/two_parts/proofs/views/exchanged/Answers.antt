-- `two_parts::views::exchanged` meets its contract. Assumes nothing.
use Rattle.std.proofs.Common.{ℕ, ◌*◌, ◌^◌, ◌<◌, sym, ap, ◌∙◌, subst, Bool, arith}
use Rattle.bits.specs.Swaps.{swapped}
use Rattle.scan.specs.Scan.{pick}
use Rattle.two_parts.specs.Groups.{exchanged, group_few, group_fits}
use Rattle.two_parts.proofs.views.exchanged.Goals as goal

pub power-requires : goal.power-requires
power-requires c = omega (arith, c.requires.j_bound)

pub overflow_cast-power : goal.overflow_cast-power
overflow_cast-power c = omega (arith, c.power.ensures, group_few c.args.j c.requires.j_bound)

pub swap-turned-requires : goal.swap-turned-requires
swap-turned-requires c =
    record {
      up_bound = subst (λ (n : ℕ). c.args.mask * 2 ^ n < 2 ^ 64) (sym c.power.ensures) (group_fits c.args.j c.requires.j_bound c.args.mask c.requires.mask_bound);
      up_bound_2 = omega (arith, c.power.ensures, group_few c.args.j c.requires.j_bound);
    }

pub bit-requires : goal.bit-requires
bit-requires c = omega (arith, c.requires.j_bound)

pub returns-then-bit : goal.returns-then-bit
unfolding exchanged
returns-then-bit c =
    let a = c.args in
    c.swap-turned.ensures
    ∙ ap (λ (n : ℕ). swapped a.mask n a.x) c.power.ensures
    ∙ sym (ap (λ (t : Bool). pick t (swapped a.mask (2 ^ a.j) a.x) a.x) (sym c.bit.ensures ∙ c.if-bit.true))

pub returns : goal.returns
unfolding exchanged
returns c =
    let a = c.args in
    sym (ap (λ (t : Bool). pick t (swapped a.mask (2 ^ a.j) a.x) a.x) (sym c.bit.ensures ∙ c.if-bit.false))
