-- `two_general::write_paths` meets its contract: one path more in each round. Assumes nothing.
use Rattle.two_write.specs.Rows.{Drawing}
use Rattle.two_general.specs.Paths.{Pathed}
use Rattle.two_general.proofs.write_paths.Given as goal

abbrev pub invariant-loop-j : goal.invariant-loop-j
invariant-loop-j l =
    let d = l.draft in
    Drawing l.w d.source d.targets.count (Pathed d.home.order d.home.block d.home.slot d.targets.count d.targets.blocks d.targets.slots d.choice d.taken l.ways d.leaves l.heads) l.initial.places l.initial.counts l.places l.counts l.j
