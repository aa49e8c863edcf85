-- Main theorems: nothing is found exactly when nothing stands against what is asked and the slices hold a fan (`judged-fan`, `fan-judged`) or, in the
-- other mode, a bundle (`judged_bundle`, `bundle_judged`). Assumes nothing.
use Rattle.std.specs.Prelude.{ℕ, ◌≡◌, Bool, true, List, Result, Ok, ⊤, length}
use Rattle.std.proofs.Common.{sym, ap, ap₂, ◌∙◌}
use Rattle.std.proofs.Math.Option.{Option, none}
use Rattle.scan.specs.Scan.{pick}
use Rattle.answers.specs.declared.Refusal.{Refusal}
use Rattle.paths.specs.Fan.{Fan}
use Rattle.paths.specs.Finding.{clean}
use Rattle.paths.proofs.Judged.{clean_fan, fan_clean}
use Rattle.paths.specs.Bundles.{Bundle}
use Rattle.paths.proofs.Bundles.{clean_bundle, bundle_clean}
use Rattle.mesh.specs.Kinds.{Kind}
use Rattle.mesh.specs.Says.{bundle_against, bundle_short}
use Rattle.judge.specs.Says.{Asked, fan_asked, bundle_asked, asked_against, asked_finding, asked_told, rule, verdict_told, judge_against, judge_told, bundle_told}
use Rattle.judge.specs.Asked.{bundle_against_lem}
use Rattle.judge.specs.Unique.{verdict_unique}
use Rattle.judge.specs.Numbers.{findings_numbered, rule_clean}
use Rattle.judge.specs.declared.Fault.{Fault}

-- of whatever is asked
module _ (q : Asked) (places counts : List ℕ) (lacking : Bool) (v : Result ⊤ Fault) (told : verdict_told v ≡ asked_told q places counts lacking) where
  pub judged_clean : v ≡ Ok tt → (asked_against q places counts lacking ≡ none) × (asked_finding q places counts ≡ clean)
  judged_clean e =
      rule_clean (asked_against q places counts lacking) (asked_finding q places counts) (findings_numbered q.rules q.source q.targets places counts)
      (sym (ap verdict_told e) ∙ told)

  pub clean_judged : asked_against q places counts lacking ≡ none → asked_finding q places counts ≡ clean → v ≡ Ok tt
  clean_judged o f = verdict_unique v (Ok tt) (told ∙ ap₂ rule o f)

module _ (K : Kind) (n s : ℕ) (targets places counts : List ℕ) (lacking : Bool) (v : Result ⊤ Fault) (told : verdict_told v ≡ judge_told K n s targets places counts lacking) where
  abbrev against : Option Refusal
  against = judge_against K n s targets places counts lacking

  pub judged-fan : v ≡ Ok tt → (against ≡ none) × Fan (K.mesh n) s targets places counts
  judged-fan e =
      let r = judged_clean (fan_asked K n s targets) places counts lacking v told e in
      (r.0, clean_fan (K.mesh n) s targets places counts r.1)

  pub fan-judged : against ≡ none → Fan (K.mesh n) s targets places counts → v ≡ Ok tt
  fan-judged o f = clean_judged (fan_asked K n s targets) places counts lacking v told o (fan_clean (K.mesh n) s targets places counts f)

module _ (K : Kind) (n s t : ℕ) (places counts : List ℕ) (lacking : Bool) (v : Result ⊤ Fault) (told : verdict_told v ≡ bundle_told K n s t places counts lacking) where
  -- 1, 2, 5, 6, and 8 where there is no room for a bundle
  abbrev against_bundle : Option Refusal
  against_bundle = bundle_against K n s t (pick lacking true (bundle_short (K.mesh n) (length places) (length counts)))

  pub judged_bundle : v ≡ Ok tt → (against_bundle ≡ none) × Bundle (K.mesh n) s t places counts
  judged_bundle e =
      let r = judged_clean (bundle_asked K n s t) places counts lacking v told e in
      (sym (bundle_against_lem K n s t places counts lacking) ∙ r.0, clean_bundle (K.mesh n) s t places counts r.1)

  pub bundle_judged : against_bundle ≡ none → Bundle (K.mesh n) s t places counts → v ≡ Ok tt
  bundle_judged o b =
      clean_judged (bundle_asked K n s t) places counts lacking v told (bundle_against_lem K n s t places counts lacking ∙ o) (bundle_clean (K.mesh n) s t places counts b)
