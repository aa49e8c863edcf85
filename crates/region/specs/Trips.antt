-- What the planner's call writes is read back as the fan that was planned, to the targets that were asked (`plan_reads`), and the judge accepts it.
-- Assumes nothing.
use Rattle.std.specs.Prelude.{ℕ, ◌%◌, ◌≡◌, refl, Bool, true, false, not, List, [], eqb, length, take, drop}
use Rattle.std.proofs.Common.{ap, ◌∙◌, arith, take_at}
use Rattle.std.proofs.Math.Option.{Option, none, some}
use Rattle.scan.specs.Scan.{pick}
use Rattle.answers.specs.Order.{first, refuse-none}
use Rattle.answers.specs.declared.Refusal.{Refusal}
use Rattle.answers.specs.declared.Refusal.TheVariants.{Unreadable}
use Rattle.mesh.specs.Kinds.{kind_of, planned}
use Rattle.mesh.specs.Says.{request_against, planned_against}
use Rattle.mesh.specs.Requests.{plan_fine, plan_asked}
use Rattle.mesh.specs.Laws.{known-planned}
use Rattle.sheet.specs.Format.{VERSION}
use Rattle.sheet.specs.Judging.{judged-told}
use Rattle.sheet.specs.Says.{lone}
use Rattle.sheet_write.specs.Says.{bytes}
use Rattle.sheet_trips.specs.TripsRead.{ReadsBack, write_read}
use Rattle.region.specs.Planning.{code_some}
use Rattle.region.specs.Says.{coded, LONE, targets_in, plan_faults, sheet_code, plan_code, Answered, Planned}

-- a number that is 0: there was no refusal, and what comes after is 0; it is no lone path
coded_none : (o : Option Refusal) (n : ℕ) → coded o n ≡ 0 → (o ≡ none) × (n ≡ 0)
coded_none none n e = (refl, e)
coded_none (some why) n e = absurd (code_some why e)

not-lone : (b : Bool) (n : ℕ) → pick b LONE n ≡ 0 → b ≡ false
not-lone true n e = absurd (omega (arith, e))
not-lone false n e = refl

module _ (kind size s : ℕ) (l out out₁ : List ℕ) {r : ℕ} (p : Planned (plan_code kind size s l out) kind size s (targets_in l) out r out₁) (o : plan_code kind size s l out ≡ 0) where
  -- the fan, and its sheet
  pub planned-fan : Answered kind size s (targets_in l) out out₁
  planned-fan = p.answered o

  abbrev pub planned-sheet : List ℕ
  planned-sheet = bytes kind size s (length (targets_in l)) planned-fan.places planned-fan.counts

  -- nothing stood against the request, and its path is no lone one
  parts : (first (plan_faults kind size s l) ≡ none) × (sheet_code kind size (length (targets_in l)) out ≡ 0)
  parts = coded_none (first (plan_faults kind size s l)) (sheet_code kind size (length (targets_in l)) out) o

  asked_clear : planned_against (kind_of kind) size s (targets_in l) false ≡ none
  asked_clear = (refuse-none (not (eqb (length l % 8) 0)) Unreadable (planned_against (kind_of kind) size s (targets_in l) false) parts.0).1

  asked-fine : request_against (kind_of kind) size s (targets_in l) false ≡ none
  asked-fine = plan_asked (kind_of kind) size s (targets_in l) asked_clear

  asked-planned : planned kind size ≡ true
  asked-planned = let (f, v) = plan_fine (kind_of kind) size s (targets_in l) asked_clear in known-planned kind size f.known v

  several : lone kind (length (targets_in l)) ≡ false
  several = not-lone (lone kind (length (targets_in l))) _ parts.1

  -- the first bytes are the sheet, and it reads back
  pub plan_reads : (take (length planned-sheet) out₁ ≡ planned-sheet) × ReadsBack VERSION [] kind size s (targets_in l) planned-fan.places planned-fan.counts planned-sheet
  plan_reads = (
    ap (take (length planned-sheet)) planned-fan.held ∙ take_at planned-sheet (drop (length planned-sheet) out) (length planned-sheet) refl,
    write_read VERSION [] (λ i. omega arith) kind size s (targets_in l) planned-fan.places planned-fan.counts asked-planned
        (judged-told (kind_of kind) size s (targets_in l) planned-fan.places planned-fan.counts
        (record { request = asked-fine; room = planned-fan.placed; counted = planned-fan.counted; fan = planned-fan.fan })) several,
  )
