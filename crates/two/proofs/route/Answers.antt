use Rattle.std.proofs.Common.{ℕ, ap₂, ◌∙◌}
use Rattle.two.specs.Next.{route}
use Rattle.two.specs.Says.{route_leaves}
use Rattle.two.proofs.route.Goals as goal

pub returns-clause-out_after : goal.returns-clause-out_after
unfolding route
returns-clause-out_after g c =
    c.route.ensures.out_after ∙ ap₂ (λ (s t : ℕ). route_leaves c.args.order.0 s t c.args.out.now) c.named.ensures c.named-2.ensures
