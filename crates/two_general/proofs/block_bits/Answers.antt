-- `two_general::block_bits` meets its contract. Assumes nothing.
use Rattle.std.proofs.Common.{ℕ, ◌-◌, ◌^◌, ◌≤◌, ap, ◌∙◌, arith, one-mul, pow_mono, shl_exact}
use Rattle.two_general.proofs.block_bits.Goals as goal

pub dimensions-requires : goal.dimensions-requires
dimensions-requires c =
    let e = shl_exact 1 c.args.m 32 (omega arith) (omega (arith, c.requires)) ∙ one-mul (2 ^ c.args.m) in
    let p : 2 ^ c.args.m ≤ 32 = pow_mono c.requires in
    omega (arith, e)

pub returns : goal.returns
returns c = c.dimensions.ensures ∙ ap (λ (y : ℕ). 2 ^ y - 1) (shl_exact 1 c.args.m 32 (omega arith) (omega (arith, c.requires)) ∙ one-mul (2 ^ c.args.m))
