use Rattle.std.proofs.Common.{ℕ, sym, subst}
use Rattle.two_write.specs.Walked.{Next, next_lowest}
use Rattle.two_write.proofs.next.Goals as goal

-- src/lib.rt:12:19
pub returns : goal.returns
returns c =
    let a = c.args in
    subst (λ (y : ℕ). Next a.u a.q y) (sym c.flip.ensures) (next_lowest a.u a.q c.lowest.result c.lowest.ensures)
