-- `dimacs_size::link_bytes` meets its contract, by whether the link leads higher. Assumes nothing.
use Rattle.std.proofs.Common.{arith}
use Rattle.dimacs_size.specs.Sizes.{end_small, line_long, line-none, width-short}
use Rattle.dimacs_size.proofs.link_bytes.Goals as goal

pub near-v-requires : goal.near-v-requires
near-v-requires c =
    record {
      size_value = c.requires.exported.known;
      u_bound = c.requires.relay;
      i_bound = c.requires.link;
    }

pub overflow_add-result : goal.overflow_add-result
overflow_add-result c = omega (arith, width-short c.width.ensures (omega (arith, end_small c.requires c.near-v.ensures, c.if-u-v.true)))

pub overflow_add-v : goal.overflow_add-v
overflow_add-v c = omega (arith, end_small c.requires c.near-v.ensures)

pub overflow_add-result-then-u-v : goal.overflow_add-result-then-u-v
overflow_add-result-then-u-v c =
    let small = end_small c.requires c.near-v.ensures in
    omega (arith, width-short c.width.ensures (omega (arith, small, c.if-u-v.true)), width-short c.width-then-u-v.ensures (omega (arith, small)))

pub returns-then-u-v : goal.returns-then-u-v
returns-then-u-v c = line_long c.requires c.near-v.ensures c.if-u-v.true c.width.ensures c.width-then-u-v.ensures

pub returns : goal.returns
returns c = line-none c.requires c.near-v.ensures c.if-u-v.false
