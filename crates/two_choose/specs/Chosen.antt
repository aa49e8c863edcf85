-- All choices together: from what the parts give to the facts that the plan rests on (`Chose`). Assumes nothing.
use Rattle.std.specs.Prelude.{ℕ, zero, suc, ◌+◌, ◌-◌, ◌^◌, ◌≤◌, ◌<◌, ◌≡◌, refl, ◌≢◌, List, [], ◌∷◌}
use Rattle.std.proofs.Common.{sym, ◌∙◌, subst, ⊎_elim, arith, pow_mono}
use Rattle.std.specs.Int.Bits.{bit_and, bit_or}
use Rattle.std.specs.Int.Count.{ones}
use Rattle.bits.specs.Bit.{bit, flip}
use Rattle.bits.specs.Laws.{bit-cases}
use Rattle.cube_math.specs.Masks.{at, less}
use Rattle.cube_math.specs.Choose.{Chosen, Used}
use Rattle.cube_math.specs.Plain.{full-below}
use Rattle.two_math.specs.Gates.{Gates}
use Rattle.two_math.specs.Sort.{Ask, Sorts, sorts_from, Keeps, keeps_from, Ends, ends-from, Classes, doors_enough}
use Rattle.two_math.specs.Shut.{Opening, Shuts, keep-below, shuts_when}
use Rattle.two_gate.specs.Says.{Small}
use Rattle.two_choose.specs.Masks.{Equals, Few, chosen_both, chosen_less, chosen_to}
use Rattle.two_choose.specs.Choice.{Gated, Hidden, GateAsk, GateAll}
use Rattle.two_choose.specs.Doors.{Blocked, Ended, end_gated, end_plain, DoorAsk}

-- what may be asked
pub record Asks (m s0 p0 k : ℕ) (blocks slots : List ℕ) : Type 0 where
  pub low : 2 ≤ m
  pub high : m ≤ 5
  pub ask : Ask m s0 p0 k (at blocks) (at slots)
  pub slot : (i : ℕ) → at slots i < 2 ^ m

-- what was chosen
pub record Chose (m s0 p0 k : ℕ) (blocks slots : List ℕ) (inner gated straight singles reps rows shut : ℕ) (gates ends : List ℕ) : Type 0 where
  pub kept : ℕ
  pub keep : ℕ
  pub sort : Sorts s0 k (at blocks) (at slots) inner kept gated
  pub gate : Gates m s0 k (at blocks) (at slots) gated (at gates)
  pub below : (i : ℕ) → at gates i < 2 ^ m
  pub keeps : Keeps s0 (at blocks) kept gated (at gates) straight keep
  pub end : Ends s0 k (at blocks) inner gated (at gates) straight keep 8 singles reps rows (at ends)
  pub shuts : Shuts m p0 keep rows shut

used-to : {R S : ℕ → ℕ → Type 0} {s r : ℕ} → ((j i : ℕ) → bit j s ≡ 1 → R j i → S j i) → Used R s r → Used S s r
used-to f u = record {
  uses = λ j o. let x = u.uses j o in (x.0, f j x.0 o x.1, x.2);
  from = λ i o. let x = u.from i o in (x.0, x.1, f x.0 i x.1 x.2);
  few = u.few;
}

-- the rows of crowds
abbrev pub crowd_rows : List ℕ
crowd_rows = 8 ∷ 9 ∷ 10 ∷ 11 ∷ 12 ∷ 13 ∷ 14 ∷ 15 ∷ []

crowd_row : (j : ℕ) → j < 8 → at crowd_rows j ≡ 8 + j
crowd_row zero h = refl
crowd_row (suc zero) h = refl
crowd_row (suc (suc zero)) h = refl
crowd_row (suc (suc (suc zero))) h = refl
crowd_row (suc (suc (suc (suc zero)))) h = refl
crowd_row (suc (suc (suc (suc (suc zero))))) h = refl
crowd_row (suc (suc (suc (suc (suc (suc zero)))))) h = refl
crowd_row (suc (suc (suc (suc (suc (suc (suc zero))))))) h = refl
crowd_row (suc (suc (suc (suc (suc (suc (suc (suc j)))))))) h = absurd (omega arith)

pub crowd_small : Small crowd_rows
crowd_small zero = omega arith
crowd_small (suc zero) = omega arith
crowd_small (suc (suc zero)) = omega arith
crowd_small (suc (suc (suc zero))) = omega arith
crowd_small (suc (suc (suc (suc zero)))) = omega arith
crowd_small (suc (suc (suc (suc (suc zero))))) = omega arith
crowd_small (suc (suc (suc (suc (suc (suc zero)))))) = omega arith
crowd_small (suc (suc (suc (suc (suc (suc (suc zero))))))) = omega arith
crowd_small (suc (suc (suc (suc (suc (suc (suc (suc j)))))))) = omega arith

pub small_below : {m : ℕ} (l : List ℕ) → m ≤ 5 → ((i : ℕ) → at l i < 2 ^ m) → Small l
small_below {m} l h below i = let q : 2 ^ m ≤ 32 = pow_mono h in omega (arith, below i)

module _ {m s0 p0 k : ℕ} {blocks slots : List ℕ} (a : Asks m s0 p0 k blocks slots) where
  pub asks_few : k ≤ 6
  asks_few = omega (arith, a.ask.few, a.high)

  few_in : (s : ℕ) → ((j : ℕ) → bit j s ≡ 1 → j < k) → Few s
  few_in s h j o = omega (arith, h j o, asks_few)

  module _ {inner : ℕ} (e : Equals blocks s0 k inner) where
    pub inner_few : Few inner
    inner_few = few_in inner (λ j o. full-below k j (e.sub j o))

    module _ {kept gated : ℕ} (u : Used (λ j d. at slots j ≡ d) inner kept) (g : Gated s0 k (at blocks) kept k gated) where
      sort : Sorts s0 k (at blocks) (at slots) inner kept gated
      sort = sorts_from inner kept gated e u g

      pub gate_ask : GateAsk m s0 k blocks slots gated
      gate_ask = record {
        order = a.high;
        few = a.ask.few;
        slot = a.slot;
        differ = a.ask.differ;
        member = λ j o. let x = sort.gated_on j o in (x.0, x.1);
      }

      gated_full : (j : ℕ) → bit j gated ≡ 1 → bit j (2 ^ k - 1) ≡ 1
      gated_full j o = g.sub j o

      gated_few : Few gated
      gated_few = few_in gated (λ j o. full-below k j (g.sub j o))

      module _ {gates behind : List ℕ} (ga : GateAll m s0 k blocks slots gated gates) (b : Blocked blocks gates 8 behind) {home straight : ℕ} (h : Equals behind s0 k home)
          (is-straight : straight ≡ bit_and gated home) where
        chosen : Chosen (λ j. flip (at blocks j) (at gates j) ≡ s0) (λ j. flip (at blocks j) (at gates j) ≢ s0) gated straight
        chosen = subst (λ (y : ℕ). Chosen (λ j. flip (at blocks j) (at gates j) ≡ s0) (λ j. flip (at blocks j) (at gates j) ≢ s0) gated y) (sym is-straight)
            (chosen_to (λ j o z. sym (b.is j (gated_few j o)) ∙ z) (λ j o z w. z (b.is j (gated_few j o) ∙ w)) (chosen_both gated gated_full h))

        pub straight_few : Few straight
        straight_few = few_in straight (λ j o. full-below k j (g.sub j (chosen.sub j o)))

        module _ {slots₁ : ℕ} (v : Used (λ j d. at gates j ≡ d) straight slots₁) where
          abbrev keep : ℕ
          keep = bit_or kept slots₁

          keeps : Keeps s0 (at blocks) kept gated (at gates) straight keep
          keeps = keeps_from straight slots₁ chosen v

          module _ {hid ajar : ℕ} (hd : Hidden s0 (at blocks) keep k hid) (is-ajar : ajar ≡ less gated hid) where
            out : Chosen (λ j. (d : ℕ) → bit d keep ≡ 1 → at blocks j ≢ flip s0 d) (λ j. (d : ℕ) × (bit d keep ≡ 1) × (at blocks j ≡ flip s0 d)) gated ajar
            out = subst (λ (y : ℕ). Chosen (λ j. (d : ℕ) → bit d keep ≡ 1 → at blocks j ≢ flip s0 d) (λ j. (d : ℕ) × (bit d keep ≡ 1) × (at blocks j ≡ flip s0 d)) gated y) (sym is-ajar)
                (chosen_less gated gated_full hd)

            pub ajar_few : Few ajar
            ajar_few = few_in ajar (λ j o. full-below k j (g.sub j (out.sub j o)))

            module _ {reps : ℕ} (r : Classes (at blocks) ajar reps) where
              pub reps_few : Few reps
              reps_few j o = ajar_few j (r.sub j o)

              module _ {crowds : ℕ} (w : Used (λ j d. at crowd_rows j ≡ d) reps crowds) {ends : List ℕ} (en : Ended blocks behind gated 8 ends)
                  {singles : ℕ} (is-singles : singles ≡ less (less (2 ^ k - 1) inner) straight) where
                abbrev rows : ℕ
                rows = bit_or singles crowds

                end : Ends s0 k (at blocks) inner gated (at gates) straight keep 8 singles reps rows (at ends)
                end = subst (λ (y : ℕ). Ends s0 k (at blocks) inner gated (at gates) straight keep 8 y reps (bit_or y crowds) (at ends)) (sym is-singles) (ends-from ajar reps crowds (at ends) (omega (arith, asks_few))
                    (λ j o. let x = sort.inner_on j o in (x.0, ⊎_elim (λ z. z) (λ z. absurd ((sort.gated_on j (chosen.sub j z)).1 x.1)) (bit-cases j straight)))
                    (λ j o. (sort.gated_on j (chosen.sub j o)).0) out r (used-to (λ j i o z. sym z ∙ crowd_row j (reps_few j o)) w)
                    (λ j l z. en.single j (omega (arith, asks_few)) ∙ end_plain (at blocks j) (at behind j) j gated z)
                    (λ j l z. en.single j (omega (arith, asks_few)) ∙ end_gated (at blocks j) (at behind j) j gated z ∙ b.is j (omega (arith, asks_few)))
                    (λ j o. en.crowd j (reps_few j o)))

                pub door_ask : (doors : ℕ) → doors ≡ 2 ^ m → DoorAsk doors p0 keep (ones rows)
                door_ask doors e₁ = subst (λ (y : ℕ). DoorAsk y p0 keep (ones rows)) (sym e₁) (record {
                  few = pow_mono a.high;
                  home = a.ask.home-slot;
                  kept = keep-below a.ask sort ga.gate keeps end;
                  room = doors_enough a.ask sort ga.gate keeps end a.low;
                })

                pub chose : {shut : ℕ} (doors : ℕ) → doors ≡ 2 ^ m → Opening doors p0 keep (ones rows) shut → Chose m s0 p0 k blocks slots inner gated straight singles reps rows shut gates ends
                chose {shut} doors e₁ o = record {
                  kept = kept;
                  keep = keep;
                  sort = sort;
                  gate = ga.gate;
                  below = ga.below;
                  keeps = keeps;
                  end = end;
                  shuts = shuts_when a.ask sort ga.gate keeps end (subst (λ (y : ℕ). Opening y p0 keep (ones rows) shut) e₁ o);
                }
