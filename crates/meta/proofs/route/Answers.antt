use Rattle.meta.specs.Next.{route}
use Rattle.meta.proofs.route.Goals as goal

pub returns-clause-out_after : goal.returns-clause-out_after
unfolding route
returns-clause-out_after c = c.route.ensures.out_after
