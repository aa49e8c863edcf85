use Rattle.std.proofs.Common.{refl}
use Rattle.mesh.specs.Kinds.{Kind}
use Rattle.mesh.specs.Laws.{as_cube, as_two, as_meta, as_other}
use Rattle.mesh.proofs.Mesh.shape.Goals as goal

pub returns-then-self-eq-CUBE : goal.returns-then-self-eq-CUBE
returns-then-self-eq-CUBE c = (as_cube (λ (K : Kind). K) c.if-self-eq-CUBE.true, refl)

pub returns-then-self-eq-TWO : goal.returns-then-self-eq-TWO
returns-then-self-eq-TWO c = (as_two (λ (K : Kind). K) c.if-self-eq-CUBE.false c.if-self-eq-TWO.true, refl)

pub returns-then-self-eq-META : goal.returns-then-self-eq-META
returns-then-self-eq-META c = (as_meta (λ (K : Kind). K) c.if-self-eq-CUBE.false c.if-self-eq-TWO.false c.if-self-eq-META.true, refl)

pub returns : goal.returns
returns c = as_other (λ (K : Kind). K) c.if-self-eq-CUBE.false c.if-self-eq-TWO.false c.if-self-eq-META.false
