-- What a request is that none of 2 to 7 stands against: the record `Sound`; `sound`, and `sound_clear` the other way. Assumes nothing.
use Rattle.std.specs.Prelude.{ℕ, zero, suc, ◌≤◌, ◌<◌, ◌≡◌, refl, ◌⊎◌, ◌≢◌, List, eqb, leb, ltb, length, get_or}
use Rattle.std.proofs.Common.{sym, ap, inl, inr, ⊎_elim, arith, leb-false, ltb-false, le-ltb, ne_eqb}
use Rattle.std.proofs.Math.Option.{none}
use Rattle.std.proofs.lemmas.Bool.{eqb-false, lt-leb}
use Rattle.scan.specs.Laws.{seek-none, none-seek, among-false, false-among}
use Rattle.answers.specs.Order.{first, refuse-none, at_none, first_at, is_out, is_same, is_again, request_faults}
use Rattle.answers.specs.declared.Refusal.TheVariants.{SourceOut, NoTarget, TooMany, TargetOut, TargetIsSource, TargetAgain}

pub record Sound (relays links s : ℕ) (targets : List ℕ) : Type 0 where
  pub source : s < relays
  pub some-target : 0 < length targets
  pub few : length targets ≤ links
  pub below : (j : ℕ) → j < length targets → get_or targets j 0 < relays
  pub other : (j : ℕ) → j < length targets → get_or targets j 0 ≢ s
  pub differ : (i j : ℕ) → i < length targets → j < length targets → i ≢ j → get_or targets i 0 ≢ get_or targets j 0

less-or : (i j : ℕ) → i ≢ j → (i < j) ⊎ (j < i)
less-or zero zero ne = absurd (ne refl)
less-or zero (suc j) ne = inl (omega arith)
less-or (suc i) zero ne = inr (omega arith)
less-or (suc i) (suc j) ne = ⊎_elim (λ l. inl (omega arith)) (λ l. inr (omega arith)) (less-or i j (λ e. ne (ap suc e)))

pub sound : (relays links s : ℕ) (targets : List ℕ) → first (request_faults relays links s targets) ≡ none → Sound relays links s targets
sound relays links s targets e =
    let a = refuse-none (leb relays s) SourceOut _ e in
    let b = refuse-none (eqb (length targets) 0) NoTarget _ a.1 in
    let c = refuse-none (ltb links (length targets)) TooMany _ b.1 in
    let out = at_none (first_at targets (is_out relays targets)) TargetOut _ c.1 in
    let same = at_none (first_at targets (is_same s targets)) TargetIsSource _ out.1 in
    let again = at_none (first_at targets (is_again targets)) TargetAgain _ same.1 in
    let some_IsFirst = eqb-false (length targets) 0 b.0 in
    let earlier : (i j : ℕ) → i < j → j < length targets → get_or targets i 0 ≢ get_or targets j 0 =
    λ i j h g. among-false targets 0 j (get_or targets j 0) (seek-none (is_again targets) 0 (length targets) again.0 j (omega arith) (omega arith)) i (omega arith) (omega arith) in
    record {
      source = omega (arith, leb-false relays s a.0);
      some-target = omega arith;
      few = omega (arith, ltb-false links (length targets) c.0);
      below = λ j h. omega (arith, leb-false relays (get_or targets j 0) (seek-none (is_out relays targets) 0 (length targets) out.0 j (omega arith) (omega arith)));
      other = λ j h. eqb-false (get_or targets j 0) s (seek-none (is_same s targets) 0 (length targets) same.0 j (omega arith) (omega arith));
      differ = λ i j h g ne e. ⊎_elim (λ l. earlier i j l g e) (λ l. earlier j i (omega arith) h (sym e)) (less-or i j ne);
    }

pub sound_clear : (relays links s : ℕ) (targets : List ℕ) → Sound relays links s targets → first (request_faults relays links s targets) ≡ none
sound_clear relays links s targets d =
    simp (
      lt-leb relays s d.source,
      ne_eqb (length targets) 0 (λ e. omega (arith, d.some-target)),
      le-ltb links (length targets) d.few,
      none-seek (is_out relays targets) 0 (length targets) (λ j a b. lt-leb relays (get_or targets j 0) (d.below j (omega arith))),
      none-seek (is_same s targets) 0 (length targets) (λ j a b. ne_eqb (get_or targets j 0) s (d.other j (omega arith))),
      none-seek (is_again targets) 0 (length targets)
          (λ j a b. false-among targets 0 j (get_or targets j 0) (λ i c e. d.differ i j (omega arith) (omega arith) (λ z. omega arith))),
    )
