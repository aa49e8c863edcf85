-- Verdicts that tell the same are the same (`verdict_unique`): so the judge's promise, of a fan or a bundle, leaves one verdict (`judge_unique`). Assumes nothing.
use Rattle.std.specs.Prelude.{ℕ, ◌≡◌, refl, Bool, List, Result, Ok, Err, ⊤, eqb}
use Rattle.std.proofs.Common.{sym, ap, ◌∙◌}
use Rattle.std.proofs.Math.Option.{none, some}
use Rattle.scan.specs.Scan.{pick}
use Rattle.answers.specs.Laws.{refusal, refusal_back, number-some, number_apart, is_finding}
use Rattle.answers.specs.declared.Refusal.{Refusal}
use Rattle.paths.specs.Finding.{clean}
use Rattle.judge.specs.Says.{Ruling, ruling, rule, named, verdict_told, Asked, asked_told}
use Rattle.judge.specs.declared.Finding as code
use Rattle.judge.specs.declared.Finding.TheVariants.{TooLong, NotFromSource, NotLinked, NotToTarget, SeenAgain, NotFilled}
use Rattle.judge.specs.declared.Fault.{Fault}
use Rattle.judge.specs.declared.Fault.TheVariants as fault

-- the finding of a number, a path and a place
finding_at : (n i p : ℕ) → code.Finding
finding_at n i p =
    pick (eqb n 20) (TooLong i)
    (pick (eqb n 21) (NotFromSource i)
    (pick (eqb n 22) (NotLinked i p)
    (pick (eqb n 23) (NotToTarget i p)
    (pick (eqb n 24) (SeenAgain i p) (NotFilled i p)))))

verdict_of : Ruling → Result ⊤ Fault
verdict_of (ruling n i p) = pick (eqb n 0) (Ok tt) (pick (is_finding n) (Err (fault.Found (finding_at n i p))) (Err (fault.Refused (refusal n p))))

found_back : (f : code.Finding) → verdict_of (rule none (named f)) ≡ Err (fault.Found f)
unfolding verdict_of finding_at is_finding
found_back (TooLong i) = refl
found_back (NotFromSource i) = refl
found_back (NotLinked i p) = refl
found_back (NotToTarget i p) = refl
found_back (SeenAgain i p) = refl
found_back (NotFilled i p) = refl

refused_back : (why : Refusal) → verdict_of (rule (some why) clean) ≡ Err (fault.Refused why)
unfolding verdict_of
refused_back why = simp (number-some why, (number_apart why).1) (ap (λ (r : Refusal). Err (fault.Refused r)) (refusal_back why))

verdict_back : (v : Result ⊤ Fault) → verdict_of (verdict_told v) ≡ v
unfolding verdict_of
verdict_back (Ok x) = refl
verdict_back (Err (fault.Found f)) = found_back f
verdict_back (Err (fault.Refused why)) = refused_back why

pub verdict_unique : (a b : Result ⊤ Fault) → verdict_told a ≡ verdict_told b → a ≡ b
verdict_unique a b e = sym (verdict_back a) ∙ ap verdict_of e ∙ verdict_back b

pub judge_unique : (q : Asked) (places counts : List ℕ) (lacking : Bool) (a b : Result ⊤ Fault)
    → verdict_told a ≡ asked_told q places counts lacking → verdict_told b ≡ asked_told q places counts lacking → a ≡ b
judge_unique q places counts lacking a b p r = verdict_unique a b (p ∙ sym r)
