use Rattle.two_general.specs.Paths.{writes_more}
use Rattle.two_general.proofs.write_paths.Goals as goal

pub loop-j-preserved : goal.loop-j-preserved
loop-j-preserved c = writes_more c.requires c.loop-j.invariant c.loop-j-test.true c.put_path.ensures
