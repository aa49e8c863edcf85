-- A search for findings that ends clean: what it has seen of each path (`Clear`), and that it ends clean exactly then
-- (`clean_clear`, `clear_clean`). Assumes nothing.
use Prim.Native.Nat.{ℕ, zero, suc, ◌+◌, ◌-◌, ◌≤◌, ◌<◌}
use Rattle.std.specs.Prelude.{◌≡◌, Bool, true, false, not, List, eqb, length, get_or}
use Rattle.std.proofs.Math.Path.{refl}
use Rattle.std.proofs.Common.{ap, ◌∙◌, arith}
use Rattle.std.proofs.Math.Decide.{ℕ_discrete}
use borrow.Author.Tests.{ltb-false, le-ltb, eqb-true, eq-eqb, not-false}
use Rattle.scan.specs.Scan.{Spot, nowhere, at}
use Rattle.paths.specs.Rules.{Rules, span}
use Rattle.paths.specs.Fan.{relay, hops}
use Rattle.paths.specs.Finding.{Finding, clean, found, report, report-at, unlinked_at, seen_at, unfilled_at, finding_of, finding_from, finding_by}

-- nothing is found on path i, which is to lead from s to t
pub record Clear (r : Rules) (s t : ℕ) (places counts : List ℕ) (i : ℕ) : Type 0 where
  pub short : hops counts i ≤ r.limit
  pub starts : relay (span r) places i 0 ≡ s
  pub links : unlinked_at r places counts i ≡ nowhere
  pub ends : relay (span r) places i (hops counts i) ≡ t
  pub fresh : seen_at r places counts i ≡ nowhere
  pub filled : unfilled_at r places counts i ≡ nowhere

-- ---- one test

found_clean : {n i p : ℕ} → found n i p ≡ clean → ⊥
found_clean e = let z : ◌≡◌ {A = ℕ} 0 1 = cc in omega arith

report_clean : (b : Bool) (n i p : ℕ) (rest : Finding) → report b (found n i p) rest ≡ clean → (b ≡ false) × (rest ≡ clean)
report_clean true n i p rest e = absurd (found_clean e)
report_clean false n i p rest e = (refl, e)

clean_report : {b : Bool} (f : Finding) {rest : Finding} → b ≡ false → rest ≡ clean → report b f rest ≡ clean
clean_report f {rest} e c = ap (λ (b : Bool). report b f rest) e ∙ c

report-at_clean : (sp : Spot) (n i : ℕ) (rest : Finding) → report-at sp (found n i) rest ≡ clean → (sp ≡ nowhere) × (rest ≡ clean)
report-at_clean nowhere n i rest e = (refl, e)
report-at_clean (at p) n i rest e = absurd (found_clean e)

clean_report-at : {sp : Spot} (f : ℕ → Finding) {rest : Finding} → sp ≡ nowhere → rest ≡ clean → report-at sp f rest ≡ clean
clean_report-at f {rest} e c = ap (λ (sp : Spot). report-at sp f rest) e ∙ c

not_eqb : (a b : ℕ) → not (eqb a b) ≡ false → a ≡ b
not_eqb a b e = eqb-true a b (not-false (eqb a b) e)

eqb_not : (a b : ℕ) → a ≡ b → not (eqb a b) ≡ false
eqb_not a b e = ap not (eq-eqb a b e)

-- ---- one path

module _ (r : Rules) (s t : ℕ) (places counts : List ℕ) (i : ℕ) (rest : Finding) where
  pub path_clear : finding_of r s t places counts i rest ≡ clean → Clear r s t places counts i × (rest ≡ clean)
  unfolding finding_of
  path_clear e =
      let a = report_clean _ 20 i 0 _ e in
      let b = report_clean _ 21 i 0 _ a.1 in
      let c = report-at_clean _ 22 i _ b.1 in
      let d = report_clean _ 23 i (hops counts i) _ c.1 in
      let f = report-at_clean _ 24 i _ d.1 in
      let g = report-at_clean _ 25 i rest f.1 in (
        record {
          short = ltb-false r.limit (hops counts i) a.0;
          starts = not_eqb _ s b.0;
          links = c.0;
          ends = not_eqb _ t d.0;
          fresh = f.0;
          filled = g.0;
        },
        g.1,
      )

  pub clear_path : Clear r s t places counts i → rest ≡ clean → finding_of r s t places counts i rest ≡ clean
  unfolding finding_of
  clear_path c e =
      clean_report _ (le-ltb r.limit (hops counts i) c.short)
      (clean_report _ (eqb_not _ s c.starts)
      (clean_report-at _ c.links
      (clean_report _ (eqb_not _ t c.ends)
      (clean_report-at _ c.fresh
      (clean_report-at _ c.filled e)))))

-- ---- all paths

module _ (r : Rules) (s : ℕ) (targets places counts : List ℕ) where
  clear_from : (i n : ℕ) → finding_from r s targets places counts i n ≡ clean → (j : ℕ) → i ≤ j → j < i + n → Clear r s (get_or targets j 0) places counts j
  unfolding finding_from
  clear_from i zero e j l g = absurd (omega arith)
  clear_from i (suc n) e j l g =
      let p = path_clear r s (get_or targets i 0) places counts i (finding_from r s targets places counts (suc i) n) e in
      go p.0 (λ h. clear_from (suc i) n p.1 j h) (ℕ_discrete i j)
    where
      go : Clear r s (get_or targets i 0) places counts i → (suc i ≤ j → j < suc i + n → Clear r s (get_or targets j 0) places counts j) → Dec (i ≡ j) → Clear r s (get_or targets j 0) places counts j
      go c rest (yes e) = rw (← e) c
      go c rest (no ne) = rest (omega arith) (omega arith)

  from_clear : (i n : ℕ) → ((j : ℕ) → i ≤ j → j < i + n → Clear r s (get_or targets j 0) places counts j) → finding_from r s targets places counts i n ≡ clean
  unfolding finding_from
  from_clear i zero h = refl
  from_clear i (suc n) h =
      clear_path r s (get_or targets i 0) places counts i (finding_from r s targets places counts (suc i) n) (h i (omega arith) (omega arith))
      (from_clear (suc i) n (λ j l g. h j (omega arith) (omega arith)))

  pub clean_clear : finding_by r s targets places counts ≡ clean → (j : ℕ) → j < length targets → Clear r s (get_or targets j 0) places counts j
  unfolding finding_by
  clean_clear e j l = clear_from 0 (length targets) e j (omega arith) (omega arith)

  pub clear_clean : ((j : ℕ) → j < length targets → Clear r s (get_or targets j 0) places counts j) → finding_by r s targets places counts ≡ clean
  unfolding finding_by
  clear_clean h = from_clear 0 (length targets) (λ j l g. h j (omega arith))
