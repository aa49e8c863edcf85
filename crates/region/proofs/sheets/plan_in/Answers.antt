-- `region::sheets::plan_in` meets its contract: the first 33 targets tell all. Assumes nothing.
use Rattle.std.proofs.Common.{arith, length-take}
use Rattle.region.specs.Planning.{few-most, cut-planned}
use Rattle.region.proofs.sheets.plan_in.Goals as goal

pub take_relays-requires : goal.take_relays-requires
take_relays-requires c = let m = few-most c.args.bytes.now c.looked_at-k.ensures in (omega (arith, m.1), omega (arith, m.0, c.requires.listed))

pub slice_bounds-plan_list-end : goal.slice_bounds-plan_list-end
slice_bounds-plan_list-end c = omega (arith, (few-most c.args.bytes.now c.looked_at-k.ensures).0, c.requires.listed)

pub slice_bounds-plan_list-end-2 : goal.slice_bounds-plan_list-end-2
slice_bounds-plan_list-end-2 c = let m = few-most c.args.bytes.now c.looked_at-k.ensures in simp length-take (omega (arith, m.0, c.requires.listed))

pub returns : goal.returns
returns c = let a = c.args in cut-planned a.mesh.kind a.mesh.size a.source a.bytes.now a.list.now c.looked_at-k.ensures c.requires.listed c.requires.whole c.take_relays.ensures c.plan_list.ensures
