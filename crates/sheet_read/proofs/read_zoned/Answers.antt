-- `sheet_read::read_zoned` meets its contract: the sheet's own version is read, and told. Assumes nothing.
use Rattle.std.proofs.Common.{refl}
use Rattle.sheet.specs.Says.{version_number}
use Rattle.sheet_read.specs.Zoned.{either_read}
use Rattle.sheet_read.proofs.read_zoned.Goals as goal

pub returns : goal.returns
returns c = either_read version_number c.version_of-version.result c.version_of-version.ensures refl c.read_in.ensures c.with_version.ensures
