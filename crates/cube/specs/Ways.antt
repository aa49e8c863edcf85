-- The plain route between two relays of a known cube arrives, over links (`routed`). Assumes nothing.
use Rattle.std.specs.Prelude.{ℕ, refl}
use Rattle.std.proofs.Common.{arith}
use Rattle.paths.specs.Routed.{Routed}
use Rattle.requests.specs.Ways.{Between}
use Rattle.cube.specs.Cube.{known, cube}
use Rattle.cube.specs.Once.{plain_routed}
use Rattle.cube.specs.Route.{next, hops}
use Rattle.cube.specs.Sizes.{known-most}

pub routed : (n s t : ℕ) → Between (known n) (cube n) s t → Routed (cube n) next s t (hops s t)
routed n s t b = plain_routed n s t (omega (arith, known-most n refl b.there-is)) b.source b.target
