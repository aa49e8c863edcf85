-- `two_takeover::enter_by` meets its contract. Assumes nothing.
use Rattle.std.proofs.Common.{◌-◌, ◌∙◌, sym, ap, ℕ, List, length, get_or, arith}
use Rattle.two_takeover.specs.Over.{some-hops, enters-first, enters-door, last_differ}
use Rattle.two_takeover.proofs.enter_by.Goals as goal

pub returns-then-n-eq1 : goal.returns-then-n-eq1
returns-then-n-eq1 c = enters-first c.requires (ap length (sym c.row-path.ensures) ∙ c.if-n-eq1.true)

pub lowest-requires : goal.lowest-requires
lowest-requires c =
    let n = length c.row-path.result.now in
    last_differ c.requires n _ _ (ap length c.row-path.ensures) (omega (arith, some-hops c.requires, ap length c.row-path.ensures))
    (ap (λ (l : List ℕ). get_or l (n - 2) 0) c.row-path.ensures) (ap (λ (l : List ℕ). get_or l (n - 1) 0) c.row-path.ensures)

pub returns : goal.returns
returns c =
    let n = length c.row-path.result.now in
    enters-door c.requires n _ _ _ (ap length c.row-path.ensures) (omega (arith, some-hops c.requires, ap length c.row-path.ensures))
    (ap (λ (l : List ℕ). get_or l (n - 2) 0) c.row-path.ensures) (ap (λ (l : List ℕ). get_or l (n - 1) 0) c.row-path.ensures) c.lowest.ensures
