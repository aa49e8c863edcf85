-- The numbers of the findings are 20 and more (`findings_numbered`): so what the judge tells is all 0 exactly where nothing stands against the
-- request and nothing is found (`rule_clean`). Assumes nothing.
use Prim.Native.Nat.{ℕ, zero, suc, ◌≤◌}
use Rattle.std.specs.Prelude.{◌≡◌, refl, Bool, true, false, not, ◌≢◌, List, eqb, ltb, length, get_or}
use Rattle.std.proofs.Common.{sym, ap, arith}
use Rattle.std.proofs.Math.Option.{Option, none, some}
use Rattle.std.proofs.lemmas.Bool.{eqb-false}
use Rattle.scan.specs.Scan.{Spot, nowhere, at}
use Rattle.answers.specs.Told.{number}
use Rattle.answers.specs.Laws.{number-some}
use Rattle.answers.specs.declared.Refusal.{Refusal}
use Rattle.paths.specs.Mesh.{Mesh}
use Rattle.paths.specs.Rules.{Rules, span, fan_rules}
use Rattle.paths.specs.Fan.{relay, hops}
use Rattle.paths.specs.Finding.{Finding, clean, found, report, report-at, unlinked_at, seen_at, unfilled_at, finding_of, finding_from, finding_by, finding}
use Rattle.judge.specs.Says.{ruling, number_of, rule, named, fault_told}
use Rattle.judge.specs.declared.Finding as code
use Rattle.judge.specs.declared.Fault.{Fault}
use Rattle.judge.specs.declared.Fault.TheVariants as fault
use Rattle.judge.specs.declared.Finding.TheVariants.{TooLong, NotFromSource, NotLinked, NotToTarget, SeenAgain, NotFilled}

abbrev pub Numbered : Finding → Type 0
Numbered f = (n i p : ℕ) → f ≡ found n i p → 20 ≤ n

numbered-found : (n i p : ℕ) → 20 ≤ n → Numbered (found n i p)
numbered-found n i p h k j q e = let same : n ≡ k = cc in omega arith

numbered_clean : Numbered clean
numbered_clean n i p e = let z : ◌≡◌ {A = ℕ} 0 1 = cc in absurd (omega arith)

numbered-report : (b : Bool) (n i p : ℕ) {rest : Finding} → 20 ≤ n → Numbered rest → Numbered (report b (found n i p) rest)
numbered-report true n i p h r = numbered-found n i p h
numbered-report false n i p h r = r

numbered-at : (sp : Spot) (n i : ℕ) {rest : Finding} → 20 ≤ n → Numbered rest → Numbered (report-at sp (found n i) rest)
numbered-at nowhere n i h r = r
numbered-at (at p) n i h r = numbered-found n i p h

module _ (r : Rules) (s : ℕ) (targets places counts : List ℕ) where
  from-numbered : (i n : ℕ) → Numbered (finding_from r s targets places counts i n)
  unfolding finding_from finding_of
  from-numbered i zero = numbered_clean
  from-numbered i (suc n) =
      let w = span r in
      let h = hops counts i in
      numbered-report (ltb r.limit h) 20 i 0 (omega arith)
      (numbered-report (not (eqb (relay w places i 0) s)) 21 i 0 (omega arith)
      (numbered-at (unlinked_at r places counts i) 22 i (omega arith)
      (numbered-report (not (eqb (relay w places i h) (get_or targets i 0))) 23 i h (omega arith)
      (numbered-at (seen_at r places counts i) 24 i (omega arith)
      (numbered-at (unfilled_at r places counts i) 25 i (omega arith) (from-numbered (suc i) n))))))

  pub findings_numbered : Numbered (finding_by r s targets places counts)
  unfolding finding_by
  findings_numbered = from-numbered 0 (length targets)

pub finding-numbered : (m : Mesh) (s : ℕ) (targets places counts : List ℕ) → Numbered (finding m s targets places counts)
finding-numbered m = findings_numbered (fan_rules m)

-- the numbers of refusals and findings are not 0
pub refused_number : (why : Refusal) → number_of (rule (some why) clean) ≢ 0
refused_number why = eqb-false (number why) 0 (number-some why)

pub found_number : (f : code.Finding) → number_of (rule none (named f)) ≢ 0
found_number f = eqb-false (number_of (rule none (named f))) 0 (go f)
  where
    go : (f : code.Finding) → eqb (number_of (rule none (named f))) 0 ≡ false
    go (TooLong i) = refl
    go (NotFromSource i) = refl
    go (NotLinked i p) = refl
    go (NotToTarget i p) = refl
    go (SeenAgain i p) = refl
    go (NotFilled i p) = refl

-- number 0: nothing stands against the request, and nothing is found
pub rule-zero : (o : Option Refusal) (f : Finding) → Numbered f → number_of (rule o f) ≡ 0 → (o ≡ none) × (f ≡ clean)
rule-zero none clean h e = (refl, refl)
rule-zero none (found n i p) h e = absurd (omega (arith, h n i p refl, e))
rule-zero (some why) f h e = absurd (refused_number why e)

pub rule_clean : (o : Option Refusal) (f : Finding) → Numbered f → ruling 0 0 0 ≡ rule o f → (o ≡ none) × (f ≡ clean)
rule_clean o f h e = rule-zero o f h (sym (ap number_of e))

pub fault_number : (f : Fault) → number_of (fault_told f) ≢ 0
fault_number (fault.Found f) = found_number f
fault_number (fault.Refused why) = refused_number why
