-- What the judge has found where it tells 0 (`Judged`, `judged`, `judged-told`), and that it looks at no more than the paths asked for: slices
-- that are the same so far are judged the same (`judged-same`). Assumes nothing.
use Rattle.std.specs.Prelude.{ℕ, ◌*◌, ◌≤◌, ◌≡◌, Bool, false, List, length}
use Rattle.std.proofs.Common.{ap, ap₂, ◌∙◌, subst}
use Rattle.std.proofs.Math.Option.{Option, none}
use Rattle.answers.specs.declared.Refusal.{Refusal}
use Rattle.paths.specs.Mesh.{Mesh, width}
use Rattle.paths.specs.Rules.{fan_rules}
use Rattle.paths.specs.Fan.{Fan}
use Rattle.paths.specs.Finding.{Finding, finding}
use Rattle.paths.proofs.Judged.{clean_fan, fan_clean}
use Rattle.paths.specs.Alike.{Same}
use Rattle.paths.proofs.Alike.{finding_alike}
use Rattle.mesh.specs.Kinds.{Kind}
use Rattle.mesh.specs.Says.{request_against, short}
use Rattle.mesh.specs.Requests.{Fine, request_fine, request_passed, room_enough}
use Rattle.judge.specs.Says.{number_of, rule, judge_against, judge_told}
use Rattle.judge.specs.Numbers.{finding-numbered, rule-zero}
use Rattle.judge.specs.Alike.{enough}

module _ (K : Kind) (n s : ℕ) (targets : List ℕ) where
  abbrev m : Mesh
  m = K.mesh n

  abbrev w : ℕ
  w = width m

  abbrev k : ℕ
  k = length targets

  pub record Judged (places counts : List ℕ) : Type 0 where
    pub request : request_against K n s targets false ≡ none
    pub room : k * w ≤ length places
    pub counted : k ≤ length counts
    pub fan : Fan m s targets places counts

  pub judged : (places counts : List ℕ) → number_of (judge_told K n s targets places counts false) ≡ 0 → Judged places counts
  judged places counts e =
      let missing = short m k (length places) (length counts) in
      let r = rule-zero (judge_against K n s targets places counts false) (finding m s targets places counts) (finding-numbered m s targets places counts) e in
      let p = request_passed K n s targets missing r.0 in
      let held = room_enough m k (length places) (length counts) p.1 in
      record {
        request = subst (λ (b : Bool). request_against K n s targets b ≡ none) p.1 r.0;
        room = held.0;
        counted = held.1;
        fan = clean_fan m s targets places counts r.1;
      }

  pub judged-told : (places counts : List ℕ) → Judged places counts → number_of (judge_told K n s targets places counts false) ≡ 0
  judged-told places counts j =
      ap₂ (λ (o : Option Refusal) (f : Finding). number_of (rule o f))
      (ap (request_against K n s targets) (enough m k (length places) (length counts) j.room j.counted) ∙ j.request)
      (fan_clean m s targets places counts j.fan)

  pub judged-fine : {places counts : List ℕ} → Judged places counts → Fine K n s targets
  judged-fine j = request_fine K n s targets j.request

  pub judged-same : (places counts other others : List ℕ) → Judged places counts → k * w ≤ length other → k ≤ length others → Same (k * w) other places → Same k others counts
      → Judged other others
  judged-same places counts other others j h g a b = record {
    request = j.request;
    room = h;
    counted = g;
    fan = clean_fan m s targets other others (finding_alike (fan_rules m) s targets other others places counts a b ∙ fan_clean m s targets places counts j.fan);
  }
