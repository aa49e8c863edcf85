use Rattle.std.proofs.Common.{arith}
use Rattle.mesh.specs.Limits.{short-ways}
use Rattle.mesh.proofs.bundle_places_in.Goals as goal

pub overflow_add-result : goal.overflow_add-result
overflow_add-result c = omega (arith, c.longest_in.ensures, short-ways c.args.mesh.kind c.args.mesh.size c.requires)
