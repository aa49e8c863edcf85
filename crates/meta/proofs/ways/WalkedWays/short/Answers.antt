use Rattle.meta.proofs.Walks.{plain_arrives}
use Rattle.meta.proofs.ways.WalkedWays.short.Goals as goal

pub count-requires-clause-way : goal.count-requires-clause-way
count-requires-clause-way c = plain_arrives _ _ _ c.requires

pub returns-clause-way : goal.returns-clause-way
returns-clause-way c = plain_arrives _ _ _ c.requires
