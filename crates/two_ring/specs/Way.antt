-- Order 1 as the code has it: the ring as a table, and the relays of a way along it in steps of 1, or of 7, which is one back.
-- Main result `way-line`: such a way is one of `Ring`. Assumes nothing.
use Rattle.std.specs.Prelude.{ℕ, zero, suc, ◌+◌, ◌-◌, ◌*◌, ◌%◌, ◌≤◌, ◌<◌, ◌≡◌, refl, Bool, true, false, List, [], ◌∷◌, length, get_or}
use Rattle.std.proofs.Common.{sym, ap, ◌∙◌, add-one, arith}
use Rattle.two_math.specs.Relays.{Relay}
use Rattle.two_math.specs.Numbers.{number, numbers, block, slot, number_back, length-numbers, block-below, slot-below}
use Rattle.two_math.specs.Ring.{at, at-mod, place, right, left, right-short, away, at_place, place-below}

-- ---- the tables

-- the relay at each place of the ring
unfoldable pub ring : List ℕ
ring = 0 ∷ 1 ∷ 5 ∷ 4 ∷ 6 ∷ 7 ∷ 3 ∷ 2 ∷ []

-- the place of each relay
unfoldable pub spots : List ℕ
spots = 0 ∷ 1 ∷ 7 ∷ 6 ∷ 3 ∷ 2 ∷ 4 ∷ 5 ∷ []

abbrev pub relay_at : ℕ → ℕ
relay_at n = number 1 (at n)

abbrev pub spot_of : ℕ → ℕ
spot_of x = place (block 1 x) (slot 1 x)

-- the list holds f at each place
abbrev Holds : (ℕ → ℕ) → List ℕ → Type 0
Holds f [] = Unit
Holds f (x ∷ l) = (x ≡ f 0) × Holds (λ n. f (suc n)) l

holds_at : (f : ℕ → ℕ) (l : List ℕ) (n : ℕ) → Holds f l → n < length l → get_or l n 0 ≡ f n
holds_at f [] n h lt = absurd (omega arith)
holds_at f (x ∷ l) zero h lt = h.0
holds_at f (x ∷ l) (suc n) h lt = holds_at (λ k. f (suc k)) l n h.1 (omega arith)

pub ring_is : (n : ℕ) → get_or ring (n % 8) 0 ≡ relay_at n
unfolding ring
ring_is n = holds_at relay_at ring (n % 8) (refl, (refl, (refl, (refl, (refl, (refl, (refl, (refl, tt)))))))) (omega arith) ∙ ap (number 1) (at-mod n)

pub spots_is : (x : ℕ) → x < 8 → get_or spots x 0 ≡ spot_of x
unfolding spots
spots_is x h = holds_at spot_of spots x (refl, (refl, (refl, (refl, (refl, (refl, (refl, (refl, tt)))))))) (omega arith)

-- ---- a way along the ring

-- n relays from the place `here` on
abbrev pub line : (here step n : ℕ) → List ℕ
line here step zero = []
line here step (suc n) = relay_at here ∷ line (here + step) step n

line-right : (d i : ℕ) → line i 1 (suc d) ≡ numbers 1 (at i ∷ right i d)
line-right zero i = refl
line-right (suc d) i = ap (λ (l : List ℕ). relay_at i ∷ l) (ap (λ (y : ℕ). line y 1 (suc d)) (add-one i) ∙ line-right d (suc i))

-- the ring begins anew after eight
relay-same : (n i : ℕ) → n % 8 ≡ i % 8 → relay_at n ≡ relay_at i
relay-same n i e = ap (number 1) (sym (at-mod n) ∙ ap at e ∙ at-mod i)

line-left : (d i n : ℕ) → d ≤ i → n % 8 ≡ i % 8 → line n 7 (suc d) ≡ numbers 1 (at i ∷ left i d)
line-left zero i n h e = ap (λ (x : ℕ). x ∷ []) (relay-same n i e)
line-left (suc d) zero n h e = absurd (omega arith)
line-left (suc d) (suc i) n h e =
    ap (λ (x : ℕ). x ∷ line (n + 7) 7 (suc d)) (relay-same n (suc i) e) ∙ ap (λ (l : List ℕ). relay_at (suc i) ∷ l) (line-left d i (n + 7) (omega arith) (omega arith))

left-length : (d i : ℕ) → d ≤ i → length (left i d) ≡ d
left-length zero i h = refl
left-length (suc d) zero h = absurd (omega arith)
left-length (suc d) (suc i) h = ap suc (left-length d i (omega arith))

-- how far right of s the relay t is
abbrev pub far_of : ℕ → ℕ → ℕ
far_of s t = away (spot_of s) (spot_of t)

-- the way from s to t, right or left
abbrev pub towards : Bool → ℕ → ℕ → List Relay
towards true s t = right (spot_of s) (far_of s t)
towards false s t = left (spot_of s + 8) (8 - far_of s t)

pub spot-below : (s : ℕ) → spot_of s < 8
spot-below s = place-below (block 1 s) (slot 1 s)

at-spot : (s : ℕ) → s < 8 → relay_at (spot_of s) ≡ s
at-spot s h =
    let a = at_place (block 1 s) (slot 1 s) (block-below 1 s h) (slot-below 1 s) in
    ap (λ (y : ℕ). y * 2 + (at (spot_of s)).1) a.0 ∙ ap (λ (y : ℕ). block 1 s * 2 + y) a.1 ∙ number_back 1 s

-- steps of the way along the ring, and its hops
abbrev pub step_of : Bool → ℕ
step_of true = 1
step_of false = 7

abbrev pub hops_of : Bool → ℕ → ℕ → ℕ
hops_of true s t = far_of s t
hops_of false s t = 8 - far_of s t

pub hops-few : (goes : Bool) (s t : ℕ) → hops_of goes s t ≤ 8
hops-few true s t = omega arith
hops-few false s t = omega arith

pub step-few : (goes : Bool) → step_of goes ≤ 7
step-few true = omega arith
step-few false = omega arith

pub way-line : (goes : Bool) (s t : ℕ) → s < 8 → line (spot_of s) (step_of goes) (suc (hops_of goes s t)) ≡ s ∷ numbers 1 (towards goes s t)
way-line true s t h = line-right (far_of s t) (spot_of s) ∙ ap (λ (x : ℕ). x ∷ numbers 1 (right (spot_of s) (far_of s t))) (at-spot s h)
way-line false s t h =
    let d : ℕ = 8 - far_of s t in
    let i : ℕ = spot_of s in
    line-left d (i + 8) i (omega arith) (omega arith) ∙ ap (λ (x : ℕ). x ∷ numbers 1 (left (i + 8) d)) (relay-same (i + 8) i (omega arith) ∙ at-spot s h)

pub way-length : (goes : Bool) (s t : ℕ) → length (numbers 1 (towards goes s t)) ≡ hops_of goes s t
way-length true s t = length-numbers 1 (right (spot_of s) (far_of s t)) ∙ right-short (spot_of s) (far_of s t)
way-length false s t =
    let d : ℕ = 8 - far_of s t in
    length-numbers 1 (left (spot_of s + 8) d) ∙ left-length d (spot_of s + 8) (omega arith)
