-- Where something stands against a line, two answers that are promised are the same, in what they tell and in what they leave (`answered_unique`). Where nothing
-- does, they may differ in the fan: the choice among several is free. Assumes nothing.
use Rattle.std.specs.Prelude.{ℕ, ◌≡◌, Bool, true, false, List, ◌++◌, ltb, length, drop, Result}
use Rattle.std.proofs.Common.{sym, ap, ◌∙◌, subst}
use Rattle.std.proofs.Math.Option.{Option, none, some}
use Rattle.answers.specs.Told.{told}
use Rattle.answers.specs.Laws.{answer_unique}
use Rattle.answers.specs.declared.Refusal.{Refusal}
use Rattle.answers.specs.declared.Refusal.TheVariants.{Unreadable}
use Rattle.mesh.specs.Kinds.{mesh_of}
use Rattle.line.specs.Text.{Request}
use Rattle.line.specs.Parse.{asked}
use Rattle.line.specs.Lines.{same_some}
use Rattle.line.specs.Written.{refused_text}
use Rattle.reply.specs.Says.{Ruled, fault_of, Answers, reply_room, Replied, AnsweredIn, Answered}

-- what stands against a line: 10, or what stands against its request
abbrev pub fault_in : Option Request → Option Refusal
fault_in none = some Unreadable
fault_in (some q) = fault_of q.kind q.size q.source q.targets

refused_said : (o : Option Request) (why : Refusal) (said : List ℕ) → fault_in o ≡ some why → Answers o said → said ≡ refused_text why
refused_said none why said e a = a ∙ ap refused_text (same_some e)
refused_said (some q) why said e a = subst (λ (f : Option Refusal). Ruled (mesh_of q.kind q.size) q.source q.targets f said) e a

module _ (text was : List ℕ) {why : Refusal} (e : fault_in (asked text) ≡ some why) (r s : Result ℕ Refusal) (now then : List ℕ) where
  abbrev Same : Type 0
  Same = (r ≡ s) × (now ≡ then)

  replied_same : Replied text was r now → Replied text was s then → Same
  replied_same a b =
      let same : a.said ≡ b.said = refused_said (asked text) why a.said e a.answers ∙ sym (refused_said (asked text) why b.said e b.answers) in (
        answer_unique r s (a.says.told_long ∙ ap (λ (l : List ℕ). told 0 0 (length l)) same ∙ sym b.says.told_long),
        a.says.left ∙ ap (λ (l : List ℕ). l ++ drop (length l) was) same ∙ sym b.says.left,
      )

  by_room : (short : Bool) → AnsweredIn short text was r now → AnsweredIn short text was s then → Same
  by_room true a b = (answer_unique r s (a.0 ∙ sym b.0), a.1 ∙ sym b.1)
  by_room false a b = replied_same a b

pub answered_unique : (text was : List ℕ) {why : Refusal} (r s : Result ℕ Refusal) (now then : List ℕ) → fault_in (asked text) ≡ some why → Answered text was r now → Answered text was s then → (r ≡ s) × (now ≡ then)
answered_unique text was r s now then e = by_room text was e r s now then (ltb (length was) reply_room)
