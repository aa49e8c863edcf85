-- `mesh::Mesh::planned` meets its contract: metacubes are not planned, every other mesh is. Assumes nothing.
use Rattle.std.proofs.Common.{sym, ◌∙◌, arith}
use Rattle.mesh.specs.Laws.{planned-none, known-served}
use Rattle.mesh.proofs.Mesh.planned.Goals as goal

pub returns-then-self-eq-META : goal.returns-then-self-eq-META
returns-then-self-eq-META c =
    let a = c.args in
    sym (planned-none a.self.kind a.self.size (λ e. omega (arith, e, c.if-self-eq-META.true)) (λ e. omega (arith, e, c.if-self-eq-META.true)))

pub returns : goal.returns
returns c = let a = c.args in c.known.ensures ∙ known-served a.self.kind a.self.size c.if-self-eq-META.false
