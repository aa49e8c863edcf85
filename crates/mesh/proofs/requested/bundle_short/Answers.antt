-- Paths and places of a mesh that there is are few. Assumes nothing.
use Rattle.std.proofs.Common.{sym, arith}
use Rattle.mesh.specs.Limits.{known_bundle}
use Rattle.mesh.proofs.requested.bundle_short.Goals as goal

pub overflow_mul-k : goal.overflow_mul-k
overflow_mul-k c =
    let all = known_bundle c.args.mesh.kind c.args.mesh.size c.requires in
    omega (arith, rw (sym c.bundle_places_in.ensures, sym c.links_in-k.ensures) at all)
