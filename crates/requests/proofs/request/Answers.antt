-- `requests::request` meets its contract: each return rewrites with the tests that led there. Assumes nothing.
use Rattle.std.proofs.Common.{le-leb, eq-eqb, ne_eqb, lt-ltb, le-ltb}
use borrow.Author.Tests.{lt-leb}
use Rattle.requests.proofs.request.Goals as goal

pub returns-then-relays-source : goal.returns-then-relays-source
returns-then-relays-source c = simp (le-leb _ _ c.if-relays-source.true)

pub returns-then-k-eq0 : goal.returns-then-k-eq0
returns-then-k-eq0 c = simp (lt-leb _ _ c.if-relays-source.false, eq-eqb _ _ c.if-k-eq0.true)

pub returns-then-links-k : goal.returns-then-links-k
returns-then-links-k c = simp (lt-leb _ _ c.if-relays-source.false, ne_eqb _ _ c.if-k-eq0.false, lt-ltb _ _ c.if-links-k.true)

pub returns : goal.returns
returns c = simp (lt-leb _ _ c.if-relays-source.false, ne_eqb _ _ c.if-k-eq0.false, le-ltb _ _ c.if-links-k.false) c.targets_checked.ensures
