-- `region::next_hop` meets its contract: what the next hop tells, else its relay put. Assumes nothing.
use Rattle.std.proofs.Common.{refl}
use Rattle.mesh.specs.Kinds.{kind_of}
use Rattle.region.specs.Stepping.{next_place, next_refused, next-put}
use Rattle.region.proofs.next_hop.Goals as goal

pub code-requires : goal.code-requires
code-requires c = let a = c.args in next_place (kind_of a.mesh.kind) a.mesh.size a.source a.target c.in-Err.is c.next_hop.ensures refl

pub returns-in-Ok : goal.returns-in-Ok
returns-in-Ok c = let a = c.args in next-put (kind_of a.mesh.kind) a.mesh.size a.source a.target a.out.now c.in-Ok.is c.next_hop.ensures c.put_relay.ensures

pub returns-in-Err : goal.returns-in-Err
returns-in-Err c = let a = c.args in next_refused (kind_of a.mesh.kind) a.mesh.size a.source a.target a.out.now c.in-Err.is c.next_hop.ensures c.code.ensures
