-- No route is longer than the bound. Assumes nothing.
use Rattle.std.proofs.Common.{sym, arith, pow_pos}
use borrow.Author.Tests.{lt-leb}
use Rattle.two.specs.Next.{hops}
use Rattle.two.specs.Steps.{pow-next}
use Rattle.two.proofs.Rank.{hops_bound, plain_routed}
use Rattle.two.proofs.ways.WalkedWays.short.Goals as goal

pub returns-then-most-n-clause-value : goal.returns-then-most-n-clause-value
returns-then-most-n-clause-value c =
    let m = c.args.self.0.0 in
    sym (lt-leb c.args.n (hops m c.args.s c.args.t)
    (omega (arith, c.if-most-n.true, c.slots_in.ensures, pow-next m, pow_pos m, hops_bound m c.args.t c.requires.target c.args.s c.requires.source)))

pub returns-then-most-n-clause-way : goal.returns-then-most-n-clause-way
returns-then-most-n-clause-way c = plain_routed _ _ c.requires.target _ c.requires.source

pub count-requires-clause-way : goal.count-requires-clause-way
count-requires-clause-way c = plain_routed _ _ c.requires.target _ c.requires.source

pub returns-clause-way : goal.returns-clause-way
returns-clause-way c = plain_routed _ _ c.requires.target _ c.requires.source
