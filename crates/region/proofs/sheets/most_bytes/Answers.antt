-- `region::sheets::most_bytes` meets its contract: the longest path is one less than its places. Assumes nothing.
use Rattle.std.proofs.Common.{arith}
use Rattle.region.specs.Planning.{most-few, most_is}
use Rattle.region.proofs.sheets.most_bytes.Goals as goal

pub overflow_mul-result : goal.overflow_mul-result
overflow_mul-result c = let m = c.args.mesh in omega (arith, (most-few m.kind m.size c.args.k c.places_in.ensures c.requires.0 c.requires.1).0)

pub overflow_add-result : goal.overflow_add-result
overflow_add-result c = let m = c.args.mesh in omega (arith, (most-few m.kind m.size c.args.k c.places_in.ensures c.requires.0 c.requires.1).0)

pub overflow_mul-result-2 : goal.overflow_mul-result-2
overflow_mul-result-2 c = let m = c.args.mesh in omega (arith, (most-few m.kind m.size c.args.k c.places_in.ensures c.requires.0 c.requires.1).1)

pub overflow_add-result-2 : goal.overflow_add-result-2
overflow_add-result-2 c = let m = c.args.mesh in omega (arith, (most-few m.kind m.size c.args.k c.places_in.ensures c.requires.0 c.requires.1).1)

pub returns : goal.returns
returns c = let m = c.args.mesh in most_is m.kind m.size c.args.k c.places_in.ensures
