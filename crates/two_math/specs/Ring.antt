-- Order 1 is a ring of eight relays: right to the nearer target, left to the other is a fan (`ring_laid`). Assumes nothing.
use Rattle.std.specs.Prelude.{ℕ, zero, suc, ◌+◌, ◌-◌, ◌%◌, ◌≤◌, ◌<◌, ◌≡◌, refl, ◌⊎◌, ◌≢◌, List, [], ◌∷◌, length}
use Rattle.std.proofs.Common.{sym, ap, ◌∙◌, subst, inl, inr, arith}
use Rattle.bits.specs.Bit.{flip}
use Rattle.bits.specs.Laws.{flip-flip, same_or}
use Rattle.two_math.specs.Relays.{Relay, On, Once, Link, Chain}
use Rattle.two_math.specs.Assemble.{most, TwoFan}
use Rattle.two_math.specs.Sort.{Ask}

-- the relay at a place of the ring, which begins anew after eight
abbrev pub at : ℕ → Relay
at zero = (0, 0)
at (suc zero) = (0, 1)
at (suc (suc zero)) = (2, 1)
at (suc (suc (suc zero))) = (2, 0)
at (suc (suc (suc (suc zero)))) = (3, 0)
at (suc (suc (suc (suc (suc zero))))) = (3, 1)
at (suc (suc (suc (suc (suc (suc zero)))))) = (1, 1)
at (suc (suc (suc (suc (suc (suc (suc zero))))))) = (1, 0)
at (suc (suc (suc (suc (suc (suc (suc (suc n)))))))) = at n

pub link_at : (n : ℕ) → Link 1 (at n).0 (at n).1 (at (suc n)).0 (at (suc n)).1
unfolding flip
link_at zero = inl (refl, (0, omega arith, refl))
link_at (suc zero) = inr (refl, refl)
link_at (suc (suc zero)) = inl (refl, (0, omega arith, refl))
link_at (suc (suc (suc zero))) = inr (refl, refl)
link_at (suc (suc (suc (suc zero)))) = inl (refl, (0, omega arith, refl))
link_at (suc (suc (suc (suc (suc zero))))) = inr (refl, refl)
link_at (suc (suc (suc (suc (suc (suc zero)))))) = inl (refl, (0, omega arith, refl))
link_at (suc (suc (suc (suc (suc (suc (suc zero))))))) = inr (refl, refl)
link_at (suc (suc (suc (suc (suc (suc (suc (suc n)))))))) = link_at n

pub link_back : (m b p c q : ℕ) → Link m b p c q → Link m c q b p
link_back m b p c q (inl (e, (h, l, f))) = inl (sym e, (h, l, sym (ap (λ (y : ℕ). flip y h) f ∙ flip-flip p h)))
link_back m b p c q (inr (e, f)) = inr (sym e, sym (ap (λ (y : ℕ). flip y q) f ∙ ap (λ (y : ℕ). flip (flip b p) y) (sym e) ∙ flip-flip b p))

-- where a relay stands on the ring
abbrev pub place : ℕ → ℕ → ℕ
place zero zero = 0
place zero (suc p) = 1
place (suc zero) zero = 7
place (suc zero) (suc p) = 6
place (suc (suc zero)) zero = 3
place (suc (suc zero)) (suc p) = 2
place (suc (suc (suc b))) zero = 4
place (suc (suc (suc b))) (suc p) = 5

pub place_at : (n : ℕ) → place (at n).0 (at n).1 ≡ n % 8
place_at zero = refl
place_at (suc zero) = refl
place_at (suc (suc zero)) = refl
place_at (suc (suc (suc zero))) = refl
place_at (suc (suc (suc (suc zero)))) = refl
place_at (suc (suc (suc (suc (suc zero))))) = refl
place_at (suc (suc (suc (suc (suc (suc zero)))))) = refl
place_at (suc (suc (suc (suc (suc (suc (suc zero))))))) = refl
place_at (suc (suc (suc (suc (suc (suc (suc (suc n)))))))) = omega (arith, place_at n)

pub at_place : (b p : ℕ) → b < 4 → p < 2 → ((at (place b p)).0 ≡ b) × ((at (place b p)).1 ≡ p)
at_place zero zero h g = (refl, refl)
at_place zero (suc zero) h g = (refl, refl)
at_place zero (suc (suc p)) h g = absurd (omega arith)
at_place (suc zero) zero h g = (refl, refl)
at_place (suc zero) (suc zero) h g = (refl, refl)
at_place (suc zero) (suc (suc p)) h g = absurd (omega arith)
at_place (suc (suc zero)) zero h g = (refl, refl)
at_place (suc (suc zero)) (suc zero) h g = (refl, refl)
at_place (suc (suc zero)) (suc (suc p)) h g = absurd (omega arith)
at_place (suc (suc (suc zero))) zero h g = (refl, refl)
at_place (suc (suc (suc zero))) (suc zero) h g = (refl, refl)
at_place (suc (suc (suc zero))) (suc (suc p)) h g = absurd (omega arith)
at_place (suc (suc (suc (suc b)))) zero h g = absurd (omega arith)
at_place (suc (suc (suc (suc b)))) (suc p) h g = absurd (omega arith)

-- two places of the same relay
pub same_place : (t u x y : ℕ) → x ≡ (at t).0 → y ≡ (at t).1 → x ≡ (at u).0 → y ≡ (at u).1 → t % 8 ≡ u % 8
same_place t u x y a b c d =
    sym (place_at t) ∙ ap (λ (z : ℕ). place z (at t).1) (sym a ∙ c) ∙ ap (place (at u).0) (sym b ∙ d) ∙ place_at u

pub at-mod : (n : ℕ) → at (n % 8) ≡ at n
at-mod zero = refl
at-mod (suc zero) = refl
at-mod (suc (suc zero)) = refl
at-mod (suc (suc (suc zero))) = refl
at-mod (suc (suc (suc (suc zero)))) = refl
at-mod (suc (suc (suc (suc (suc zero))))) = refl
at-mod (suc (suc (suc (suc (suc (suc zero)))))) = refl
at-mod (suc (suc (suc (suc (suc (suc (suc zero))))))) = refl
at-mod (suc (suc (suc (suc (suc (suc (suc (suc n)))))))) =
    let e : suc (suc (suc (suc (suc (suc (suc (suc n))))))) % 8 ≡ n % 8 = omega arith in ap at e ∙ at-mod n

-- d hops to the right, or to the left
abbrev pub right : ℕ → ℕ → List Relay
right i zero = []
right i (suc d) = at (suc i) ∷ right (suc i) d

abbrev pub left : ℕ → ℕ → List Relay
left i zero = []
left zero (suc d) = []
left (suc i) (suc d) = at i ∷ left i d

pub right_chain : (i d t : ℕ) → t ≡ i + d → Chain 1 (at i).0 (at i).1 (at t).0 (at t).1 (right i d)
right_chain i zero t e = let z : i ≡ t = omega arith in (ap (λ (y : ℕ). (at y).0) z, ap (λ (y : ℕ). (at y).1) z)
right_chain i (suc d) t e = (link_at i, right_chain (suc i) d t (omega arith))

pub left_chain : (i d t : ℕ) → i ≡ t + d → Chain 1 (at i).0 (at i).1 (at t).0 (at t).1 (left i d)
left_chain i zero t e = let z : i ≡ t = omega arith in (ap (λ (y : ℕ). (at y).0) z, ap (λ (y : ℕ). (at y).1) z)
left_chain zero (suc d) t e = absurd (omega arith)
left_chain (suc i) (suc d) t e = (link_back 1 (at i).0 (at i).1 (at (suc i)).0 (at (suc i)).1 (link_at i), left_chain i d t (omega arith))

right-on : (i d x y : ℕ) → On x y (right i d) → (t : ℕ) × (i < t) × (t ≤ i + d) × (x ≡ (at t).0) × (y ≡ (at t).1)
right-on i zero x y h = absurd h
right-on i (suc d) x y (inl e) = (suc i, omega arith, omega arith, e.0, e.1)
right-on i (suc d) x y (inr h) = let r = right-on (suc i) d x y h in (r.0, omega (arith, r.1), omega (arith, r.2), r.3, r.4)

left-on : (i d x y : ℕ) → On x y (left i d) → (t : ℕ) × (t < i) × (i ≤ t + d) × (x ≡ (at t).0) × (y ≡ (at t).1)
left-on i zero x y h = absurd h
left-on zero (suc d) x y h = absurd h
left-on (suc i) (suc d) x y (inl e) = (i, omega arith, omega arith, e.0, e.1)
left-on (suc i) (suc d) x y (inr h) = let r = left-on i d x y h in (r.0, omega (arith, r.1), omega (arith, r.2), r.3, r.4)

pub right_once : (i d : ℕ) → d < 8 → Once (at i ∷ right i d)
right_once i zero h = ((λ z. z), tt)
right_once i (suc d) h =
    (λ o. let r = right-on i (suc d) (at i).0 (at i).1 o in omega (arith, r.1, r.2, same_place i r.0 (at i).0 (at i).1 refl refl r.3 r.4), right_once (suc i) d (omega arith))

pub left_once : (i d : ℕ) → d < 8 → Once (at i ∷ left i d)
left_once i zero h = ((λ z. z), tt)
left_once zero (suc d) h = ((λ z. z), tt)
left_once (suc i) (suc d) h = (
  λ o. let r = left-on (suc i) (suc d) (at (suc i)).0 (at (suc i)).1 o in
      omega (arith, r.1, r.2, same_place (suc i) r.0 (at (suc i)).0 (at (suc i)).1 refl refl r.3 r.4),
  left_once i d (omega arith),
)

pub right-short : (i d : ℕ) → length (right i d) ≡ d
right-short i zero = refl
right-short i (suc d) = ap suc (right-short (suc i) d)

left-short : (i d : ℕ) → length (left i d) ≤ d
left-short i zero = omega arith
left-short zero (suc d) = omega arith
left-short (suc i) (suc d) = omega (arith, left-short i d)

-- the target `near` is the nearer one to the right of place i; its path goes right, the other's left. `far j` is how far right of i the target j is
pub record Ringed (i k near : ℕ) (tb tp far : ℕ → ℕ) (paths : ℕ → List Relay) : Type 0 where
  pub few : k ≤ 2
  pub near_in : near < 2
  pub reach : (j : ℕ) → j < k → (1 ≤ far j) × (far j < 8) × ((at (i + far j)).0 ≡ tb j) × ((at (i + far j)).1 ≡ tp j)
  pub nearer : (j : ℕ) → j < k → near < k → j ≢ near → far near < far j
  pub path-near : near < k → paths near ≡ right i (far near)
  pub path-other : (j : ℕ) → j < k → j ≢ near → paths j ≡ left (i + 8) (8 - far j)

pub ring_laid : {i k near : ℕ} {tb tp far : ℕ → ℕ} {paths : ℕ → List Relay} → Ringed i k near tb tp far paths → TwoFan 1 (at i).0 (at i).1 k tb tp paths
ring_laid {i} {k} {near} {tb} {tp} {far} {paths} q = record {
  chain = λ j h. let r = q.reach j h in
      subst (λ (y : ℕ). Chain 1 (at i).0 (at i).1 (tb j) y (paths j)) r.3 (subst (λ (y : ℕ). Chain 1 (at i).0 (at i).1 y (at (i + far j)).1 (paths j)) r.2 (chain j h (same_or j near)));
  once = λ j h. once j h (same_or j near);
  short = λ j h. short j h (same_or j near);
  apart = λ a b h g ne x y o p. apart a b h g ne x y (same_or a near) (same_or b near) o p;
}
  where
    start : at (i + 8) ≡ at i
    start = let e : (i + 8) % 8 ≡ i % 8 = omega arith in sym (at-mod (i + 8)) ∙ ap at e ∙ at-mod i

    is_near : (j : ℕ) → j < k → j ≡ near → paths j ≡ right i (far j)
    is_near j h e = ap paths e ∙ q.path-near (subst (λ (y : ℕ). y < k) e h) ∙ ap (λ (y : ℕ). right i (far y)) (sym e)

    chain : (j : ℕ) → j < k → (j ≡ near) ⊎ (j ≢ near) → Chain 1 (at i).0 (at i).1 (at (i + far j)).0 (at (i + far j)).1 (paths j)
    chain j h (inl e) = rw (is_near j h e) (right_chain i (far j) (i + far j) refl)
    chain j h (inr ne) = rw (q.path-other j h ne) (subst (λ (r : Relay). Chain 1 r.0 r.1 (at (i + far j)).0 (at (i + far j)).1 (left (i + 8) (8 - far j))) start
        (left_chain (i + 8) (8 - far j) (i + far j) (omega (arith, (q.reach j h).1))))

    once : (j : ℕ) → j < k → (j ≡ near) ⊎ (j ≢ near) → Once (at i ∷ paths j)
    once j h (inl e) = rw (is_near j h e) (right_once i (far j) (q.reach j h).1)
    once j h (inr ne) = rw (q.path-other j h ne) (subst (λ (r : Relay). Once (r ∷ left (i + 8) (8 - far j))) start (left_once (i + 8) (8 - far j) (omega (arith, (q.reach j h).0))))

    short : (j : ℕ) → j < k → (j ≡ near) ⊎ (j ≢ near) → length (paths j) ≤ most 1
    short j h (inl e) = omega (arith, ap length (is_near j h e), right-short i (far j), (q.reach j h).1)
    short j h (inr ne) = omega (arith, ap length (q.path-other j h ne), left-short (i + 8) (8 - far j))

    meet : (a b : ℕ) → a < k → b < k → a ≡ near → b ≢ near → (x y : ℕ) → On x y (paths a) → On x y (paths b) → ⊥
    meet a b h g e ne x y o p =
        let r = right-on i (far a) x y (subst (λ (l : List Relay). On x y l) (is_near a h e) o) in
        let s = left-on (i + 8) (8 - far b) x y (subst (λ (l : List Relay). On x y l) (q.path-other b g ne) p) in
        let n : far a < far b = subst (λ (z : ℕ). far z < far b) (sym e) (q.nearer b g (subst (λ (z : ℕ). z < k) e h) ne) in
        omega (arith, r.1, r.2, s.1, s.2, (q.reach b g).1, same_place r.0 s.0 x y r.3 r.4 s.3 s.4)

    apart : (a b : ℕ) → a < k → b < k → a ≢ b → (x y : ℕ) → (a ≡ near) ⊎ (a ≢ near) → (b ≡ near) ⊎ (b ≢ near) → On x y (paths a) → On x y (paths b) → ⊥
    apart a b h g ne x y (inl d) (inl e) o p = ne (d ∙ sym e)
    apart a b h g ne x y (inl d) (inr e) o p = meet a b h g d e x y o p
    apart a b h g ne x y (inr d) (inl e) o p = meet b a g h e d x y p o
    apart a b h g ne x y (inr d) (inr e) o p = omega (arith, q.few, q.near_in)

-- ---- there is such a plan

pub place-below : (b p : ℕ) → place b p < 8
place-below zero zero = omega arith
place-below zero (suc p) = omega arith
place-below (suc zero) zero = omega arith
place-below (suc zero) (suc p) = omega arith
place-below (suc (suc zero)) zero = omega arith
place-below (suc (suc zero)) (suc p) = omega arith
place-below (suc (suc (suc b))) zero = omega arith
place-below (suc (suc (suc b))) (suc p) = omega arith

abbrev pub away : ℕ → ℕ → ℕ
away i t = (t + 8 - i) % 8

module _ (s0 p0 k : ℕ) (tb tp : ℕ → ℕ) (ask : Ask 1 s0 p0 k tb tp) where
  abbrev home : ℕ
  home = place s0 p0

  abbrev spot : ℕ → ℕ
  spot j = place (tb j) (tp j)

  abbrev far : ℕ → ℕ
  far j = away home (spot j)

  at-spot : (j : ℕ) → j < k → ((at (spot j)).0 ≡ tb j) × ((at (spot j)).1 ≡ tp j)
  at-spot j h = at_place (tb j) (tp j) (ask.blocks j h) (ask.slots j h)

  pub at_home : ((at home).0 ≡ s0) × ((at home).1 ≡ p0)
  at_home = at_place s0 p0 ask.home-block ask.home-slot

  spot-home : (j : ℕ) → j < k → spot j ≢ home
  spot-home j h e = ask.other j h (sym (at-spot j h).0 ∙ ap (λ (y : ℕ). (at y).0) e ∙ at_home.0) (sym (at-spot j h).1 ∙ ap (λ (y : ℕ). (at y).1) e ∙ at_home.1)

  spots : (i j : ℕ) → i < k → j < k → i ≢ j → spot i ≢ spot j
  spots i j h g ne e =
      ask.differ i j h g ne (sym (at-spot i h).0 ∙ ap (λ (y : ℕ). (at y).0) e ∙ (at-spot j g).0) (sym (at-spot i h).1 ∙ ap (λ (y : ℕ). (at y).1) e ∙ (at-spot j g).1)

  pub reach : (j : ℕ) → j < k → (1 ≤ far j) × (far j < 8) × ((at (home + far j)).0 ≡ tb j) × ((at (home + far j)).1 ≡ tp j)
  reach j h =
      let a = place-below s0 p0 in
      let b = place-below (tb j) (tp j) in
      let ne = spot-home j h in
      let same : (home + far j) % 8 ≡ spot j % 8 = omega arith in
      let e : at (home + far j) ≡ at (spot j) = sym (at-mod (home + far j)) ∙ ap at same ∙ at-mod (spot j) in
      (omega arith, omega arith, ap (λ (r : Relay). r.0) e ∙ (at-spot j h).0, ap (λ (r : Relay). r.1) e ∙ (at-spot j h).1)

  pub fars : (i j : ℕ) → i < k → j < k → i ≢ j → far i ≢ far j
  fars i j h g ne e =
      let a = place-below s0 p0 in
      let b = place-below (tb i) (tp i) in
      let c = place-below (tb j) (tp j) in
      spots i j h g ne (omega arith)
