-- What the call for a way round promises: the answer of `around::way_round`, as C is given it. Any two results are the same (`rounded_in_one`). Assumes nothing.
use Rattle.std.specs.Prelude.{ℕ, ◌≡◌, List, Result}
use Rattle.std.proofs.Common.{sym, ap, ◌∙◌}
use Rattle.std.proofs.Math.Option.{Option}
use Rattle.answers.specs.Told.{answer_told}
use Rattle.answers.specs.declared.Refusal.{Refusal}
use Rattle.paths.specs.Mesh.{Mesh}
use Rattle.shapes.specs.Shapes.{answer_in}
use Rattle.shapes.specs.declared.GustAnswer.{GustAnswer}
use Rattle.around.specs.Says.{Rounded}
use Rattle.around.specs.Unique.{rounded_one}

pub record RoundedIn (o : Option Refusal) (m : Mesh) (s t : ℕ) (room out : List ℕ) (r : GustAnswer) (room' out' : List ℕ) : Type 0 where
  pub answer : Result ℕ Refusal
  pub told : r ≡ answer_in (answer_told answer)
  pub rounded : Rounded o m s t room out answer room' out'

pub rounded_in_one : (o : Option Refusal) {m : Mesh} {s t : ℕ} {room out : List ℕ} {r q : GustAnswer} {a b c d : List ℕ} → RoundedIn o m s t room out r a b → RoundedIn o m s t room out q c d → r ≡ q
rounded_in_one o R Q = R.told ∙ ap (λ (x : Result ℕ Refusal). answer_in (answer_told x)) (rounded_one o R.rounded Q.rounded) ∙ sym Q.told
