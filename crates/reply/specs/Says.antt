-- What answers a line (`Answers`): `refused 10 0` what is no line, `refused N P` a request against which something stands, and else the text of a fan to the
-- targets that the line states. `Answered` is what is told and left. Assumes nothing.
use Rattle.std.specs.Prelude.{ℕ, ◌*◌, ◌≤◌, ◌≡◌, Bool, true, false, List, ◌++◌, ltb, length, drop, Result}
use Rattle.std.proofs.Math.Option.{Option, none, some}
use Rattle.answers.specs.Told.{told, tell, answer_told}
use Rattle.answers.specs.declared.Refusal.{Refusal}
use Rattle.answers.specs.declared.Refusal.TheVariants.{Unreadable, NoRoom}
use Rattle.paths.specs.Mesh.{Mesh, width}
use Rattle.paths.specs.Fan.{Fan}
use Rattle.mesh.specs.Kinds.{kind_of, mesh_of}
use Rattle.mesh.specs.Says.{planned_against}
use Rattle.line.specs.Text.{Request}
use Rattle.line.specs.Parse.{asked}
use Rattle.line.specs.Written.{fan_text, refused_text}

-- the text of a fan, whose paths all stand in the places
pub record FanSaid (m : Mesh) (s : ℕ) (targets said : List ℕ) : Type 0 where
  pub places : List ℕ
  pub counts : List ℕ
  pub placed : length targets * width m ≤ length places
  pub counted : length targets ≤ length counts
  pub fan : Fan m s targets places counts
  pub text : said ≡ fan_text (length targets) (width m) places counts

-- what answers a request, by what stands against it
abbrev pub Ruled : (m : Mesh) (s : ℕ) (targets : List ℕ) → Option Refusal → List ℕ → Type 0
Ruled m s targets none said = FanSaid m s targets said
Ruled m s targets (some why) said = said ≡ refused_text why

-- what stands against a request: 1, 52, 2 to 7
abbrev pub fault_of : (kind size source : ℕ) (targets : List ℕ) → Option Refusal
fault_of kind size source targets = planned_against (kind_of kind) size source targets false

abbrev pub AnswersTo : (kind size source : ℕ) (targets said : List ℕ) → Type 0
AnswersTo kind size source targets said = Ruled (mesh_of kind size) source targets (fault_of kind size source targets) said

-- what answers a line, by the request that it states
abbrev pub Answers : Option Request → List ℕ → Type 0
Answers none said = said ≡ refused_text Unreadable
Answers (some q) said = AnswersTo q.kind q.size q.source q.targets said

-- a text is told by its length, and left at the front of what was there
pub record Said (said was : List ℕ) (r : Result ℕ Refusal) (now : List ℕ) : Type 0 where
  pub told_long : answer_told r ≡ told 0 0 (length said)
  pub left : now ≡ said ++ drop (length said) was

-- bytes enough for every answer
abbrev pub reply_room : ℕ
reply_room = 32768

pub record Replied (text was : List ℕ) (r : Result ℕ Refusal) (now : List ℕ) : Type 0 where
  pub said : List ℕ
  pub answers : Answers (asked text) said
  pub says : Said said was r now

-- 8 where there is no room, and nothing is changed then
abbrev pub AnsweredIn : (short : Bool) (text was : List ℕ) (r : Result ℕ Refusal) (now : List ℕ) → Type 0
AnsweredIn true text was r now = (answer_told r ≡ tell (some NoRoom) 0 0) × (now ≡ was)
AnsweredIn false text was r now = Replied text was r now

abbrev pub Answered : (text was : List ℕ) (r : Result ℕ Refusal) (now : List ℕ) → Type 0
Answered text was r now = AnsweredIn (ltb (length was) reply_room) text was r now
