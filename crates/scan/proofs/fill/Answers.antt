use Rattle.std.proofs.Common.{ℕ, ◌+◌, ◌-◌, ◌≡◌, ◌∙◌, ap, replicate, arith}
use Rattle.std.proofs.lemmas.List.Edits.{sets}
use Rattle.scan.proofs.Parts.{part-length, put_part}
use Rattle.scan.proofs.fill.Goals as goal

pub returns : goal.returns
returns c =
    let a = c.args in
    let k = a.from + a.n - a.from in
    let part = part-length a.list.now a.from k (omega arith) in
    let n-is : k ≡ a.n = omega arith in
    put_part a.list.now c.fill.new.self a.from k (c.fill.ensures.len ∙ part) (omega arith)
    ∙ ap (sets a.list.now a.from) (c.fill.ensures.after (λ y h. h) ∙ ap (λ (n : ℕ). replicate n a.x) (part ∙ n-is))
