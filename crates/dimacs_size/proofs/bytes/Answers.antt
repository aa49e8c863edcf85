-- `dimacs_size::bytes` meets its contract: the first line, and the lines of all relays. Assumes nothing.
use Rattle.std.proofs.Common.{arith}
use Rattle.dimacs_size.specs.Sizes.{rows_of, relays_small, product_small, width-short, edges_few, whole}
use Rattle.dimacs_size.proofs.bytes.Goals as goal

pub relays_in-relays-requires : goal.relays_in-relays-requires
relays_in-relays-requires c = c.requires.known

pub links_in-links-requires : goal.links_in-links-requires
links_in-links-requires c = c.requires.known

pub overflow_add-result : goal.overflow_add-result
overflow_add-result c =
    let r = rows_of c.requires c.relays_in-relays.ensures c.links_in-links.ensures in
    omega (arith, width-short c.width.ensures (omega (arith, relays_small r)))

pub overflow_mul-relays : goal.overflow_mul-relays
overflow_mul-relays c =
    let r = rows_of c.requires c.relays_in-relays.ensures c.links_in-links.ensures in
    omega (arith, product_small r)

pub overflow_add-result-2 : goal.overflow_add-result-2
overflow_add-result-2 c =
    let r = rows_of c.requires c.relays_in-relays.ensures c.links_in-links.ensures in
    omega (arith, width-short c.width.ensures (omega (arith, relays_small r)), width-short c.width-2.ensures (omega (arith, product_small r)))

pub rows_bytes-requires : goal.rows_bytes-requires
rows_bytes-requires c = rows_of c.requires c.relays_in-relays.ensures c.links_in-links.ensures

pub overflow_add-result-3 : goal.overflow_add-result-3
overflow_add-result-3 c =
    let r = rows_of c.requires c.relays_in-relays.ensures c.links_in-links.ensures in
    omega (arith, width-short c.width.ensures (omega (arith, relays_small r)), width-short c.width-2.ensures (omega (arith, product_small r)), edges_few r c.rows_bytes.ensures)

pub returns : goal.returns
returns c =
    let r = rows_of c.requires c.relays_in-relays.ensures c.links_in-links.ensures in
    whole r c.width.ensures c.width-2.ensures c.rows_bytes.ensures
