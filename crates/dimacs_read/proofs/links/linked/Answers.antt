-- `dimacs_read::links::linked` meets its contract, by the first wrong line and what is lacking. Assumes nothing.
use Rattle.dimacs_read.specs.Turns.{links_wrong, links-missing, links_yes}
use Rattle.dimacs_read.proofs.links.linked.Goals as goal

pub returns-in-Some : goal.returns-in-Some
returns-in-Some c = links_wrong _ _ _ c.wrong.new.marks c.wrong.ensures c.in-Some.is

pub returns-then-any_lacking : goal.returns-then-any_lacking
returns-then-any_lacking c = links-missing c.requires _ c.wrong.new.marks c.wrong.ensures c.in_default.is c.any_lacking.ensures c.if-any_lacking.true

pub returns : goal.returns
returns c = links_yes c.requires _ c.wrong.new.marks c.wrong.ensures c.in_default.is c.any_lacking.ensures c.if-any_lacking.false
