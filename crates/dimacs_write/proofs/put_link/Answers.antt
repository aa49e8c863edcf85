-- `dimacs_write::put_link` meets its contract, by whether the link leads higher. Assumes nothing.
use Rattle.std.proofs.Common.{arith, sym}
use Rattle.decimal.specs.Write.{put_as, put-none}
use Rattle.dimacs_write.specs.Writes.{link-text, link_blank, link-end, link-room}
use Rattle.dimacs_write.proofs.put_link.Goals as goal

pub near-v-requires : goal.near-v-requires
near-v-requires c =
    record {
      size_value = c.requires.linking.exported.known;
      u_bound = c.requires.linking.relay;
      i_bound = c.requires.linking.link;
    }

pub overflow_add-v : goal.overflow_add-v
overflow_add-v c = omega (arith, link-end c.requires.linking c.near-v.ensures)

pub put_edge-requires : goal.put_edge-requires
put_edge-requires c = link-room c.requires.linking c.near-v.ensures _ _ c.if-u-v.true c.requires.i_in_bounds

pub returns-then-u-v : goal.returns-then-u-v
returns-then-u-v c = put_as (sym (link-text c.requires.linking c.near-v.ensures c.if-u-v.true)) c.put_edge.ensures

pub returns : goal.returns
returns c = put_as (sym (link_blank c.requires.linking c.near-v.ensures c.if-u-v.false)) (put-none _ _)
