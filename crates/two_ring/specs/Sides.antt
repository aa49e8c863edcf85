-- The ways to one or two targets as they are written: right to the nearer, left to the other. Main results `one-drawn` and
-- `two-drawn`: they are a fan. Assumes nothing.
use Rattle.std.specs.Prelude.{ℕ, zero, suc, ◌+◌, ◌-◌, ◌*◌, ◌≤◌, ◌<◌, ◌≡◌, refl, Bool, true, false, not, ◌≢◌, List, ◌∷◌, ltb, length, get_or, set}
use Rattle.std.proofs.Common.{sym, ap, ◌∙◌, subst, add-zero, add-one, arith, length-set, ltb-true, ltb-false}
use Rattle.std.proofs.lemmas.List.Edits.{sets}
use Rattle.paths.specs.Lists.{Lists}
use Rattle.requests.specs.Sound.{Sound}
use Rattle.two_parts.specs.Two.{two}
use Rattle.two_math.specs.Relays.{Relay}
use Rattle.two_math.specs.Assemble.{TwoFan}
use Rattle.two_math.specs.Sort.{Ask}
use Rattle.two_math.specs.Numbers.{numbers, block, slot, numbers-fan, ask_numbers}
use Rattle.two_math.specs.Ring.{at, ring_laid, reach, fars, at_home}
use Rattle.two_write.specs.Rows.{Ready, Drawn, Drawing, ready_drawing, drawing_more, drawing_drawn, drawn-has, lists_same}
use Rattle.two_ring.specs.Way.{line, relay_at, spot_of, far_of, towards, step_of, hops_of, hops-few, way-line, way-length}

-- ---- the loop that writes a way

-- i relays are written, the next is that of the place `here`: what is left to write
pub record Writing (spot step n at : ℕ) (was now : List ℕ) (here i : ℕ) : Type 0 where
  pub bound : i ≤ n + 1
  pub rest : sets now (at + i) (line here step (n + 1 - i)) ≡ sets was at (line spot step (n + 1))
  pub small : here ≤ spot + i * 7
  pub long : length now ≡ length was

pub writing_none : (spot step n at : ℕ) (was : List ℕ) → Writing spot step n at was was spot 0
writing_none spot step n at was = record { bound = omega arith; rest = ap (λ (y : ℕ). sets was y (line spot step (n + 1 - 0))) (add-zero at) ∙ ap (λ (y : ℕ). sets was at (line spot step y)) whole; small = omega arith; long = refl }
  where
    whole : n + 1 - 0 ≡ n + 1
    whole = omega arith

pub writing_more : {spot step n at : ℕ} {was now : List ℕ} {here i : ℕ} (v : ℕ) → Writing spot step n at was now here i → i ≤ n → step ≤ 7 → v ≡ relay_at here
    → Writing spot step n at was (set now (at + i) v) (here + step) (i + 1)
writing_more {spot} {step} {n} {at} {was} {now} {here} {i} v w h le e =
    let count : n + 1 - i ≡ suc (n - i) = omega arith in
    let left : n + 1 - (i + 1) ≡ n - i = omega arith in
    let next : at + (i + 1) ≡ suc (at + i) = omega arith in
    record {
      bound = omega arith;
      rest = ap (λ (y : ℕ). sets (set now (at + i) v) y (line (here + step) step (n + 1 - (i + 1)))) next
          ∙ ap (λ (y : ℕ). sets (set now (at + i) v) (suc (at + i)) (line (here + step) step y)) left
          ∙ ap (λ (y : ℕ). sets now (at + i) (y ∷ line (here + step) step (n - i))) e
          ∙ ap (λ (y : ℕ). sets now (at + i) (line here step y)) (sym count) ∙ w.rest;
      small = omega (arith, w.small);
      long = length-set now (at + i) v ∙ w.long;
    }

pub writing_done : {spot step n at : ℕ} {was now : List ℕ} {here i : ℕ} → Writing spot step n at was now here i → n < i → now ≡ sets was at (line spot step (n + 1))
writing_done {spot} {step} {n} {at} {was} {now} {here} {i} w h =
    let none : n + 1 - i ≡ 0 = omega (arith, w.bound) in
    sym (ap (λ (y : ℕ). sets now (at + i) (line here step y)) none) ∙ w.rest

-- ---- one path

-- the way to t, right or left, stands in row j
pub record Side (s t : ℕ) (goes : Bool) (j : ℕ) (places counts places₁ counts₁ : List ℕ) : Type 0 where
  pub wrote : places₁ ≡ sets places (j * 11) (s ∷ numbers 1 (towards goes s t))
  pub count : counts₁ ≡ set counts j (length (numbers 1 (towards goes s t)))

pub side : {s t : ℕ} {goes : Bool} {j : ℕ} {places counts places₁ : List ℕ} (n spot step : ℕ) → s < 8 → n ≡ hops_of goes s t → spot ≡ spot_of s → step ≡ step_of goes
    → places₁ ≡ sets places (j * 11) (line spot step (n + 1)) → Side s t goes j places counts places₁ (set counts j n)
side {s} {t} {goes} {j} {places} {counts} {places₁} n spot step h en es et p = record {
  wrote = p ∙ ap (sets places (j * 11)) (ap (λ (y : ℕ). line y step (n + 1)) es ∙ ap (λ (y : ℕ). line (spot_of s) y (n + 1)) et
      ∙ ap (line (spot_of s) (step_of goes)) (add-one n ∙ ap suc en) ∙ way-line goes s t h);
  count = ap (set counts j) (en ∙ sym (way-length goes s t));
}

-- ---- one or two paths

-- where b, right to the first target and left to the second; else the other way round
abbrev pub goes_by : Bool → ℕ → Bool
goes_by b zero = b
goes_by b (suc j) = not b

module _ {s : ℕ} {targets : List ℕ} (q : Sound 8 2 s targets) where
  abbrev target : ℕ → ℕ
  target j = get_or targets j 0

  ask : Ask 1 (block 1 s) (slot 1 s) (length targets) (λ j. block 1 (target j)) (λ j. slot 1 (target j))
  ask = ask_numbers 1 s (length targets) target q.few q.source q.below q.other q.differ

  -- right to the target `near`, left to the other
  sides_fan : (near : ℕ) (goes : ℕ → Bool) → near < 2 → (near < length targets → goes near ≡ true) → ((j : ℕ) → j < length targets → j ≢ near → goes j ≡ false)
      → ((j : ℕ) → j < length targets → near < length targets → j ≢ near → far_of s (target near) < far_of s (target j)) → Lists (two 1) s targets (λ j. numbers 1 (towards (goes j) s (target j)))
  sides_fan near goes hn is_near is-other nearer =
      let home = at_home (block 1 s) (slot 1 s) (length targets) (λ j. block 1 (target j)) (λ j. slot 1 (target j)) ask in
      let paths : ℕ → List Relay = λ j. towards (goes j) s (target j) in
      let laid : TwoFan 1 (at (spot_of s)).0 (at (spot_of s)).1 (length targets) (λ j. block 1 (target j)) (λ j. slot 1 (target j)) paths =
      ring_laid {i = spot_of s} {near = near} {far = λ j. far_of s (target j)} (record {
        few = q.few;
        near_in = hn;
        reach = reach (block 1 s) (slot 1 s) (length targets) (λ j. block 1 (target j)) (λ j. slot 1 (target j)) ask;
        nearer = nearer;
        path-near = λ h. ap (λ (b : Bool). towards b s (target near)) (is_near h);
        path-other = λ j h ne. ap (λ (b : Bool). towards b s (target j)) (is-other j h ne);
      }) in
      numbers-fan 1 s targets paths q.source
      (subst (λ (y : ℕ). TwoFan 1 (block 1 s) y (length targets) (λ j. block 1 (target j)) (λ j. slot 1 (target j)) paths) home.1
      (subst (λ (y : ℕ). TwoFan 1 y (at (spot_of s)).1 (length targets) (λ j. block 1 (target j)) (λ j. slot 1 (target j)) paths) home.0 laid))

  -- one target: right
  one-fan : length targets ≡ 1 → Lists (two 1) s targets (λ j. numbers 1 (towards (goes_by true j) s (target j)))
  one-fan k = sides_fan 0 (goes_by true) (omega arith) (λ h. refl) (λ j h ne. absurd (ne (omega arith))) (λ j h g ne. absurd (ne (omega arith)))

  two-fan : (b : Bool) → b ≡ ltb (far_of s (target 0)) (far_of s (target 1)) → 1 < length targets → Lists (two 1) s targets (λ j. numbers 1 (towards (goes_by b j) s (target j)))
  two-fan true e k =
      let first : far_of s (target 0) < far_of s (target 1) = ltb-true (far_of s (target 0)) (far_of s (target 1)) (sym e) in
      sides_fan 0 (goes_by true) (omega arith) (λ h. refl) (λ j h ne. ap (goes_by true) (one j h ne)) (λ j h g ne. subst (λ (y : ℕ). far_of s (target 0) < far_of s (target y)) (sym (one j h ne)) first)
    where
      one : (j : ℕ) → j < length targets → j ≢ 0 → j ≡ 1
      one j h ne = omega (arith, q.few)
  two-fan false e k =
      let later : far_of s (target 1) ≤ far_of s (target 0) = ltb-false (far_of s (target 0)) (far_of s (target 1)) (sym e) in
      let ne : far_of s (target 0) ≢ far_of s (target 1) =
      fars (block 1 s) (slot 1 s) (length targets) (λ j. block 1 (target j)) (λ j. slot 1 (target j)) ask 0 1 (omega arith) k (λ z. omega arith) in
      let second : far_of s (target 1) < far_of s (target 0) = omega arith in
      sides_fan 1 (goes_by false) (omega arith) (λ h. refl) (λ j h ne. ap (goes_by false) (none j h ne)) (λ j h g ne. subst (λ (y : ℕ). far_of s (target 1) < far_of s (target y)) (sym (none j h ne)) second)
    where
      none : (j : ℕ) → j < length targets → j ≢ 1 → j ≡ 0
      none j h ne = omega (arith, q.few)

-- ---- one or two paths written

-- path j is the way that b gives it
abbrev pub Goes : (s : ℕ) (targets : List ℕ) (b : Bool) → ℕ → List ℕ → Type 0
Goes s targets b j l = l ≡ numbers 1 (towards (goes_by b j) s (get_or targets j 0))

side_more : (targets : List ℕ) (b : Bool) {s k : ℕ} {places₀ counts₀ places counts places₁ counts₁ : List ℕ} {j : ℕ} → Drawing 11 s k (Goes s targets b) places₀ counts₀ places counts j
    → j < k → Side s (get_or targets j 0) (goes_by b j) j places counts places₁ counts₁ → Drawing 11 s k (Goes s targets b) places₀ counts₀ places₁ counts₁ (j + 1)
side_more targets b {s} {k} {places₀} {counts₀} {places} {counts} {places₁} {counts₁} {j} d h w =
    let l : List ℕ = numbers 1 (towards (goes_by b j) s (get_or targets j 0)) in
    rw w.count (drawing_more d h l (length l) places₁ refl (omega (arith, way-length (goes_by b j) s (get_or targets j 0), hops-few (goes_by b j) s (get_or targets j 0))) w.wrote refl)

sides_drawn : (b : Bool) {s : ℕ} {targets places counts places₁ counts₁ : List ℕ} → Drawing 11 s (length targets) (Goes s targets b) places counts places₁ counts₁ (length targets)
    → Lists (two 1) s targets (λ j. numbers 1 (towards (goes_by b j) s (get_or targets j 0))) → Drawn (two 1) s targets places counts places₁ counts₁
sides_drawn b d f = drawing_drawn d (lists_same f (drawn-has d))

module _ {s : ℕ} {targets places counts : List ℕ} (r : Ready (two 1) s targets places counts) where
  -- what may be asked of the way to target j
  pub ready_side : (j : ℕ) → j < length targets → (size few : ℕ) → size ≡ length places → few ≡ length counts → (s < 8) × (get_or targets j 0 < 8) × (j * 11 + 11 ≤ size) × (j < few)
  ready_side j h size few a b = (r.sound.source, r.sound.below j h, omega (arith, r.room), omega (arith, r.room-counts))

  pub one-drawn : {places₁ counts₁ : List ℕ} → length targets ≡ 1 → Side s (get_or targets 0 0) true 0 places counts places₁ counts₁ → Drawn (two 1) s targets places counts places₁ counts₁
  one-drawn {places₁} {counts₁} e w =
      let d = side_more targets true (ready_drawing (Goes s targets true) r) (omega arith) w in
      sides_drawn true (subst (λ (y : ℕ). Drawing 11 s (length targets) (Goes s targets true) places counts places₁ counts₁ y) (sym e) d) (one-fan r.sound e)

  pub two-drawn : {places₁ counts₁ places₂ counts₂ : List ℕ} (b : Bool) → b ≡ ltb (far_of s (get_or targets 0 0)) (far_of s (get_or targets 1 0)) → length targets ≢ 1
      → Side s (get_or targets 0 0) b 0 places counts places₁ counts₁ → Side s (get_or targets 1 0) (not b) 1 places₁ counts₁ places₂ counts₂ → Drawn (two 1) s targets places counts places₂ counts₂
  two-drawn {places₁} {counts₁} {places₂} {counts₂} b e ne v w =
      let k : length targets ≡ 2 = omega (arith, r.sound.few, r.sound.some-target) in
      let d₁ = side_more targets b (ready_drawing (Goes s targets b) r) (omega arith) v in
      let d₂ = side_more targets b d₁ (omega arith) w in
      sides_drawn b (subst (λ (y : ℕ). Drawing 11 s (length targets) (Goes s targets b) places counts places₂ counts₂ y) (sym k) d₂) (two-fan r.sound b e (omega arith))
