-- Paths and places of a mesh that there is are few. Assumes nothing.
use Rattle.std.proofs.Common.{sym, mul-le-mul_right, arith}
use Rattle.mesh.specs.Limits.{known-places}
use Rattle.mesh.proofs.requested.short.Goals as goal

pub overflow_mul-k : goal.overflow_mul-k
overflow_mul-k c =
    let all = known-places c.args.mesh.kind c.args.mesh.size c.requires.0 in
    let some = mul-le-mul_right c.places_in.result c.requires.1 in
    omega (arith, rw (sym c.places_in.ensures) at all, some)
