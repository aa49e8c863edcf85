-- `mesh::requested::unplanned` meets its contract. Assumes nothing.
use Rattle.mesh.specs.Laws.{unserved_known, unserved_unknown}
use Rattle.mesh.proofs.requested.unplanned.Goals as goal

pub returns-then-known : goal.returns-then-known
returns-then-known c = unserved_known c.args.mesh.kind c.args.mesh.size c.known.ensures c.if-known.true c.requires

pub returns : goal.returns
returns c = unserved_unknown c.args.mesh.kind c.args.mesh.size c.known.ensures c.if-known.false
