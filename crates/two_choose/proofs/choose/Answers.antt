-- `two_choose::choose` meets its contract: each call is asked what the calls before it give. Assumes nothing.
use Rattle.std.proofs.Common.{ℕ, refl, bit_and, ◌-◌, ◌^◌, ◌∙◌, ap, one-mul, arith, shl_exact}
use Rattle.cube_math.specs.Masks.{less}
use Rattle.two_choose.specs.Chosen.{small_below, crowd_small, inner_few, gate_ask, straight_few, ajar_few, reps_few, door_ask, chose}
use Rattle.two_choose.proofs.choose.Goals as goal

pub values-kept-requires : goal.values-kept-requires
values-kept-requires c = (inner_few c.requires c.equals-inner.ensures, small_below c.args.targets.now.slots c.requires.high c.requires.slot)

pub gates_of-gates-requires : goal.gates_of-gates-requires
gates_of-gates-requires c = gate_ask c.requires c.equals-inner.ensures c.values-kept.ensures c.gated_of-gated.ensures

pub gate_blocks-behind-requires : goal.gate_blocks-behind-requires
gate_blocks-behind-requires c = small_below c.gates_of-gates.result.slots c.requires.high c.gates_of-gates.ensures.gates.below

pub values-requires : goal.values-requires
values-requires c = (straight_few c.requires c.equals-inner.ensures c.values-kept.ensures c.gated_of-gated.ensures c.gates_of-gates.ensures.gates c.gate_blocks-behind.ensures c.equals.ensures refl, small_below c.gates_of-gates.result.slots c.requires.high c.gates_of-gates.ensures.gates.below)

pub firsts-reps-requires : goal.firsts-reps-requires
firsts-reps-requires c = ajar_few c.requires c.equals-inner.ensures c.values-kept.ensures c.gated_of-gated.ensures c.gates_of-gates.ensures.gates c.gate_blocks-behind.ensures c.equals.ensures refl c.values.ensures c.hidden.ensures c.less.ensures

pub values-crowds-requires : goal.values-crowds-requires
values-crowds-requires c = (reps_few c.requires c.equals-inner.ensures c.values-kept.ensures c.gated_of-gated.ensures c.gates_of-gates.ensures.gates c.gate_blocks-behind.ensures c.equals.ensures refl c.values.ensures c.hidden.ensures c.less.ensures c.firsts-reps.ensures, crowd_small)

pub shut_doors-shut-requires : goal.shut_doors-shut-requires
shut_doors-shut-requires c =
    door_ask c.requires c.equals-inner.ensures c.values-kept.ensures c.gated_of-gated.ensures c.gates_of-gates.ensures.gates c.gate_blocks-behind.ensures c.equals.ensures refl c.values.ensures c.hidden.ensures c.less.ensures c.firsts-reps.ensures c.values-crowds.ensures c.ends_of-ends.ensures (c.less-singles.ensures ∙ ap (λ (y : ℕ). less y (bit_and c.gated_of-gated.result c.equals.result)) (c.less-2.ensures ∙ ap (λ (y : ℕ). less (y - 1) c.equals-inner.result) c.power.ensures)) _ (shl_exact 1 c.args.home.order 32 (omega arith) (omega (arith, c.requires.high)) ∙ one-mul (2 ^ c.args.home.order))

pub returns : goal.returns
returns c =
    rw c.gates_of-gates.ensures.gated (chose c.requires c.equals-inner.ensures c.values-kept.ensures c.gated_of-gated.ensures c.gates_of-gates.ensures.gates c.gate_blocks-behind.ensures c.equals.ensures refl c.values.ensures c.hidden.ensures c.less.ensures c.firsts-reps.ensures c.values-crowds.ensures c.ends_of-ends.ensures (c.less-singles.ensures ∙ ap (λ (y : ℕ). less y (bit_and c.gated_of-gated.result c.equals.result)) (c.less-2.ensures ∙ ap (λ (y : ℕ). less (y - 1) c.equals-inner.result) c.power.ensures)) _ (shl_exact 1 c.args.home.order 32 (omega arith) (omega (arith, c.requires.high)) ∙ one-mul (2 ^ c.args.home.order)) c.shut_doors-shut.ensures)
