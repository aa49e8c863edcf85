-- Survivors with zones: what carrying zones into their column asks (`Carried`), and why the promise with zones follows from the one without (`zoned_carried`, `zoned_survived`). Assumes nothing.
use Rattle.std.specs.Prelude.{ℕ, ◌≡◌, refl, Bool, true, List, Ok, Err, ltb, length, take}
use Rattle.std.proofs.Common.{sym, ap, ◌∙◌, arith, ltb-false}
use Rattle.std.proofs.Math.Option.{Option, none}
use Rattle.scan.specs.Scan.{pick, count}
use Rattle.answers.specs.Order as order
use Rattle.answers.specs.declared.Refusal.{Refusal}
use Rattle.paths.specs.Rules.{span}
use Rattle.paths.specs.Finding.{Finding}
use Rattle.paths.specs.Whole.{Failed, whole}
use Rattle.mesh.specs.Requests.{neither_wanting}
use Rattle.judge.specs.Says.{number_of, rule, verdict_told, Asked, asked_against, asked_finding}
use Rattle.judge.specs.Asked.{Passed, asked_alike}
use Rattle.judge.specs.Numbers.{fault_number}
use Rattle.columns.specs.Needs.{Copied}
use Rattle.columns.specs.Says.{ahead, marks}
use Rattle.survivors.specs.Tally.{Tally, tallied, ruling_of, verdict_of}
use Rattle.survivors.specs.Says.{few, settled, lacking, Survived, scarce, counted, wanting_of, SurvivedZoned}
use Rattle.survivors.specs.Laws.{settled_is, settled-not, judged_clean, judged_passed}

-- where paths are counted there are as many zones, and places for them
abbrev pub Carried : (t : Tally) (k zones sites : ℕ) → Type 0
Carried t k zones sites = (c : ℕ) → t ≡ Ok c → Copied k zones sites

-- what code has of how many paths there are, and of the want of zones
module _ (q : Asked) (places counts zones : List ℕ) (fails : Failed) (ends hops wholes sites : List ℕ) {flag : Bool} {k : ℕ}
    (many : order.first q.faults ≡ none → k ≡ length q.targets) (is : flag ≡ scarce k (length zones) (length sites)) where
  abbrev wanting : Bool
  wanting = wanting_of q places counts zones fails ends hops wholes sites

  abbrev against : Option Refusal
  against = asked_against q places counts (lacking wanting q.targets ends hops wholes)

  abbrev first : Finding
  first = asked_finding q places counts

  same : asked_against q places counts (lacking flag q.targets ends hops wholes) ≡ against
  same =
      asked_alike q places counts (lacking flag q.targets ends hops wholes) (lacking wanting q.targets ends hops wholes)
      (λ e. ap (λ (b : Bool). pick b true (few (length q.targets) (length ends) (length hops) (length wholes))) (is ∙ ap (λ (j : ℕ). scarce j (length zones) (length sites)) (many e)))

  module _ {r : Tally} {ends₁ hops₁ wholes₁ : List ℕ} (p : Survived flag q places counts fails ends hops wholes r ends₁ hops₁ wholes₁) where
    held : Survived wanting q places counts fails ends hops wholes r ends₁ hops₁ wholes₁
    held = record {
      told = p.told ∙ ap (λ (o : Option Refusal). tallied (rule o first) (settled o first (count (whole (span q.rules) places counts fails) (length q.targets)) 0)) same;
      ended = p.ended ∙ ap (λ (o : Option Refusal). settled o first (ahead (length q.targets) q.targets ends) ends) same;
      hopped = p.hopped ∙ ap (λ (o : Option Refusal). settled o first (ahead (length q.targets) (take (length q.targets) counts) hops) hops) same;
      marked = p.marked ∙ ap (λ (o : Option Refusal). settled o first (ahead (length q.targets) (marks (whole (span q.rules) places counts fails) (length q.targets)) wholes) wholes) same;
    }

    -- what is told
    ruled : {t : Tally} → r ≡ t → verdict_told (verdict_of t) ≡ rule against first
    ruled e = sym (ap (λ (t : Tally). verdict_told (verdict_of t)) e) ∙ ap ruling_of held.told

    passed : {c : ℕ} → r ≡ Ok c → Passed q (length places) (length counts) (lacking wanting q.targets ends hops wholes)
    passed e = judged_passed wanting q places counts fails ends hops wholes (ruled e)

    pub zoned_carried : Carried r k (length zones) (length sites)
    zoned_carried c e =
        let all = many (passed e).faultless in
        let fed = neither_wanting wanting (few (length q.targets) (length ends) (length hops) (length wholes)) refl (passed e).lent in
        let z = neither_wanting (ltb (length zones) (length q.targets)) (ltb (length sites) (length q.targets)) refl fed.0 in
        record {
          there = omega (arith, all, ltb-false (length zones) (length q.targets) z.0);
          room = omega (arith, all, ltb-false (length sites) (length q.targets) z.1);
        }

    pub zoned_survived : {sites₁ : List ℕ} → sites₁ ≡ counted r (ahead k (take k zones) sites) sites
        → SurvivedZoned q places counts zones fails ends hops wholes sites r ends₁ hops₁ wholes₁ sites₁
    zoned_survived {sites₁} z = record { survived = held; zoned = go r refl z }
      where
        go : (t : Tally) → r ≡ t → sites₁ ≡ counted t (ahead k (take k zones) sites) sites
            → sites₁ ≡ settled against first (ahead (length q.targets) (take (length q.targets) zones) sites) sites
        go (Ok c) e f =
            let found = judged_clean wanting q places counts fails ends hops wholes (ruled e) in
            f ∙ ap (λ (j : ℕ). ahead j (take j zones) sites) (many (passed e).faultless) ∙ sym (settled_is _ sites found.0 found.1)
        go (Err x) e f = f ∙ sym (settled-not _ sites against first (λ y. fault_number x (ap number_of (ruled e) ∙ y)))
