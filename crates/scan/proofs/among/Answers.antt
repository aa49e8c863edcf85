use Rattle.std.proofs.Common.{ℕ, ◌∙◌, ap, take, drop, nat_eq, arith}
use Rattle.std.specs.List.{list_any}
use Rattle.scan.specs.Scan.{among}
use Rattle.scan.proofs.Parts.{any_part}
use Rattle.scan.proofs.among.Goals as goal

pub returns : goal.returns
unfolding among
returns c =
    let a = c.args in
    c.contains.ensures.value
    ∙ ap (λ (k : ℕ). list_any (λ y. nat_eq y a.x) (take k (drop a.i a.list.now))) (omega arith)
    ∙ any_part a.list.now a.x a.i a.n c.requires
