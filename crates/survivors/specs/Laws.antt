-- Why survivors keeps its promise: what it is to give where the judge finds nothing (`ready`, `survived`) and where not (`fault_survived`,
-- `found_survived`, `refused_survived`), of a fan or a bundle. Assumes nothing.
use Rattle.std.specs.Prelude.{ℕ, ◌≤◌, ◌≡◌, refl, Bool, true, false, ◌≢◌, List, Result, Ok, Err, ⊤, ltb, length}
use Rattle.std.proofs.Common.{sym, ap, ap₂, ◌∙◌, subst, arith, ltb-false}
use Rattle.std.proofs.Math.Option.{Option, none, some}
use Rattle.std.proofs.lemmas.List.{length-replicate}
use Rattle.scan.specs.Scan.{pick}
use Rattle.answers.specs.Order as order
use Rattle.answers.specs.declared.Refusal.{Refusal}
use Rattle.paths.specs.Rules.{span}
use Rattle.paths.specs.Finding.{Finding, clean, found}
use Rattle.paths.proofs.Keeps.{clean_keeps}
use Rattle.paths.specs.Places.{row_below}
use Rattle.paths.specs.Bundles.{ends_at}
use Rattle.paths.specs.Whole.{Failed}
use Rattle.mesh.specs.Kinds.{Kind}
use Rattle.mesh.specs.Requests.{ends-fine, neither_wanting}
use Rattle.judge.specs.Says.{ruling, number_of, rule, verdict_told, fault_told, Asked, bundle_asked, asked_against, asked_finding, bundle_told}
use Rattle.judge.specs.Asked.{Passed, asked_alike, asked_passed, passed_lent}
use Rattle.judge.specs.Numbers.{findings_numbered, fault_number, rule_clean}
use Rattle.judge.specs.declared.Finding as code
use Rattle.judge.specs.declared.Fault.{Fault}
use Rattle.judge.specs.declared.Fault.TheVariants as fault
use Rattle.columns.specs.Says.{bundle_paths, Columns}
use Rattle.columns.specs.Needs.{Filled}
use Rattle.survivors.specs.Tally.{Tally, tallied, verdict_of, count_of}
use Rattle.survivors.specs.Says.{few, settled, lacking, Survived}

-- ---- settled or not

pub settled_is : {A : Type 0} (a b : A) {o : Option Refusal} {f : Finding} → o ≡ none → f ≡ clean → settled o f a b ≡ a
settled_is a b p q = ap₂ (λ (o : Option Refusal) (f : Finding). settled o f a b) p q

pub settled-not : {A : Type 0} (a b : A) (o : Option Refusal) (f : Finding) → number_of (rule o f) ≢ 0 → settled o f a b ≡ b
settled-not a b none clean ne = absurd (ne refl)
settled-not a b none (found n i p) ne = refl
settled-not a b (some why) f ne = refl

-- ---- columns that are long enough

few_enough : (k a b c : ℕ) → few k a b c ≡ false → (k ≤ a) × (k ≤ b) × (k ≤ c)
few_enough k a b c e =
    let p = neither_wanting (ltb a k) (pick (ltb b k) true (ltb c k)) refl e in
    let q = neither_wanting (ltb b k) (ltb c k) refl p.1 in
    (ltb-false a k p.0, ltb-false b k q.0, ltb-false c k q.1)

module _ (wanting : Bool) (q : Asked) (places counts : List ℕ) (fails : Failed) (ends hops wholes : List ℕ) where
  abbrev against : Option Refusal
  against = asked_against q places counts (lacking wanting q.targets ends hops wholes)

  abbrev first : Finding
  first = asked_finding q places counts

  -- nothing is counted, and the columns stay
  not_survived : (t : Tally) → count_of t ≡ 0 → number_of (verdict_told (verdict_of t)) ≢ 0 → verdict_told (verdict_of t) ≡ rule against first
      → Survived wanting q places counts fails ends hops wholes t ends hops wholes
  not_survived t z ne e = record {
    told = ap₂ tallied e (z ∙ sym (stays _ 0));
    ended = sym (stays _ ends);
    hopped = sym (stays _ hops);
    marked = sym (stays _ wholes);
  }
    where
      stays : {A : Type 0} (a b : A) → settled against first a b ≡ b
      stays a b = settled-not a b against first (λ y. ne (ap number_of e ∙ y))

  pub fault_survived : (f : Fault) → fault_told f ≡ rule against first → Survived wanting q places counts fails ends hops wholes (Err f) ends hops wholes
  fault_survived f e = not_survived (Err f) refl (fault_number f) e

  pub found_survived : {f : code.Finding} {v : Result ⊤ Fault} → v ≡ Err (fault.Found f) → verdict_told v ≡ rule against first
      → Survived wanting q places counts fails ends hops wholes (Err (fault.Found f)) ends hops wholes
  found_survived {f} g e = fault_survived (fault.Found f) (sym (ap verdict_told g) ∙ e)

  pub refused_survived : {why : Refusal} {v : Result ⊤ Fault} → v ≡ Err (fault.Refused why) → verdict_told v ≡ rule against first
      → Survived wanting q places counts fails ends hops wholes (Err (fault.Refused why)) ends hops wholes
  refused_survived {why} g e = fault_survived (fault.Refused why) (sym (ap verdict_told g) ∙ e)

  -- nothing is found
  module _ (e : ruling 0 0 0 ≡ rule against first) where
    pub judged_clean : (against ≡ none) × (first ≡ clean)
    judged_clean = rule_clean against first (findings_numbered q.rules q.source q.targets places counts) e

    pub judged_passed : Passed q (length places) (length counts) (lacking wanting q.targets ends hops wholes)
    judged_passed = asked_passed q places counts (lacking wanting q.targets ends hops wholes) judged_clean.0

    -- what code has of what a path takes, and of the targets
    module _ {w : ℕ} {l : List ℕ} (wide : w ≡ span q.rules) (all : l ≡ q.targets) where
      pub ready : Filled w (length places) counts (length l) (length ends) (length hops) (length wholes)
      ready =
          let k = length l in
          let many : k ≡ length q.targets = ap length all in
          let enough = passed_lent judged_passed all wide in
          let fed = neither_wanting wanting (few (length q.targets) (length ends) (length hops) (length wholes)) refl judged_passed.lent in
          let columns = few_enough (length q.targets) (length ends) (length hops) (length wholes) fed.1 in
          let keeps = clean_keeps q.rules q.source q.targets places counts judged_clean.1 in
          record {
            held = λ j h. record {
              counted = omega (arith, enough.1);
              row = record { room = omega (arith, row_below w h, enough.0); short = omega (arith, (keeps.path j (omega (arith, many))).short, wide) };
            };
            counted = enough.1;
            ends-room = omega (arith, many, columns.0);
            hops-room = omega (arith, many, columns.1);
            wholes_room = omega (arith, many, columns.2);
          }

      module _ {r : ℕ} {ends₁ hops₁ wholes₁ : List ℕ} (columns : Columns w l places counts fails ends hops wholes r ends₁ hops₁ wholes₁) where
        asked_columns : Columns (span q.rules) q.targets places counts fails ends hops wholes r ends₁ hops₁ wholes₁
        asked_columns =
            subst (λ (t : List ℕ). Columns (span q.rules) t places counts fails ends hops wholes r ends₁ hops₁ wholes₁) all
            (subst (λ (v : ℕ). Columns v l places counts fails ends hops wholes r ends₁ hops₁ wholes₁) wide columns)

        pub survived : Survived wanting q places counts fails ends hops wholes (Ok r) ends₁ hops₁ wholes₁
        survived = let c = asked_columns in record {
          told = ap₂ tallied e (c.counted ∙ sym (given _ 0));
          ended = c.ended ∙ sym (given _ ends);
          hopped = c.hopped ∙ sym (given _ hops);
          marked = c.marked ∙ sym (given _ wholes);
        }
          where
            given : {A : Type 0} (a b : A) → settled against first a b ≡ a
            given a b = settled_is a b judged_clean.0 judged_clean.1

-- ---- a bundle: what code has of how many paths it has

module _ (K : Kind) (n s t : ℕ) {k : ℕ} (e : k ≡ bundle_paths K n) where
  pub bundle_many : order.first (bundle_asked K n s t).faults ≡ none → k ≡ (K.mesh n).links
  bundle_many fine = e ∙ ap (λ (b : Bool). pick {A = ℕ} b (K.mesh n).links 0) (ends-fine K n s t fine).known

  -- what is lacking matters only where nothing else stands against it, and then it has as many paths
  pub bundle_lacking : (wanting : Bool) (places counts ends hops wholes : List ℕ) {flag : Bool} → flag ≡ pick wanting true (few k (length ends) (length hops) (length wholes))
      → bundle_told K n s t places counts flag ≡ bundle_told K n s t places counts (lacking wanting (ends_at (K.mesh n) t) ends hops wholes)
  bundle_lacking wanting places counts ends hops wholes {flag} f =
      let q = bundle_asked K n s t in
      ap (λ (o : Option Refusal). rule o (asked_finding q places counts))
      (asked_alike q places counts flag (lacking wanting (ends_at (K.mesh n) t) ends hops wholes)
      (λ fine. f ∙ ap (λ (j : ℕ). pick wanting true (few j (length ends) (length hops) (length wholes))) (bundle_many fine ∙ sym (length-replicate (K.mesh n).links t))))
