-- `sheet_read::zoned_body` meets its contract: room for zones, then what the reader without them says, and then they are taken. Assumes nothing.
use Rattle.std.proofs.Common.{refl, arith}
use Rattle.std.proofs.lemmas.Result.{err_from_is_err_and}
use Rattle.sheet_read.specs.Zoned.{zoned-flawed, zoned-asked, zoned-fan}
use Rattle.sheet_read.proofs.zoned_body.Goals as goal

pub returns-in_err-read : goal.returns-in_err-read
returns-in_err-read c =
    let a = c.args in
    let p = err_from_is_err_and c.from_residual.result c.from_residual.ensures.1 in
    rw (p.1, p.2) (zoned-flawed c.requires a.places.now a.counts.now a.targets.now a.zones.now (omega arith) c.in_err-read.ensures refl)

pub take_zones-requires : goal.take_zones-requires
take_zones-requires c = let a = c.args in rw c.number.ensures (zoned-asked c.requires a.places.now a.counts.now a.targets.now a.zones.now (omega arith) c.in_ok-read.ensures refl)

pub returns : goal.returns
returns c = let a = c.args in zoned-fan c.requires a.places.now a.counts.now a.targets.now a.zones.now (omega arith) c.in_ok-read.ensures refl (rw c.number.ensures at c.take_zones.ensures)
