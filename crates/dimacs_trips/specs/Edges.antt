-- The `e` lines that are written are the mesh: each is a link, and each link stands in them once (`edges-mesh`). Assumes nothing.
use Rattle.std.specs.Prelude.{ℕ, zero, suc, ◌+◌, ◌-◌, ◌<◌, ◌≡◌, Bool, true, false, ◌&&◌, ◌⊎◌, ◌≢◌, List, [], ◌∷◌, ◌++◌, ltb}
use Rattle.std.proofs.Math.Path.{refl}
use Rattle.std.proofs.Common.{sym, ap, ap₂, ◌∙◌, inl, inr, ⊎_elim, arith, ltb-true, lt-ltb}
use Rattle.std.proofs.Math.Decide.{ℕ_discrete, dec_lt}
use Rattle.bits.specs.Laws.{lt-or}
use Rattle.scan.specs.Scan.{pick}
use Rattle.scan.specs.Laws.{true-or, both_true}
use Rattle.paths.specs.Mesh.{Mesh}
use Rattle.paths.specs.Links.{Links}
use Rattle.dimacs.specs.Text.{Edge, edge, each, upward, row, edges}
use Rattle.dimacs.specs.Says.{is_link, same, times}
use Rattle.dimacs.specs.Rows.{each_none, each_more}
use Rattle.dimacs.specs.Edges.{same_cases, same_straight, times-on, times_off, times_none, times-turn, link_sound, link_complete, link-turn, link-other}
use Rattle.dimacs_trips.specs.Once.{IsMesh, same-link}

none_of : (t : ℕ) → (0 < t → ⊥) → t ≡ 0
none_of zero h = refl
none_of (suc t) h = absurd (h (omega arith))

module _ (a b : ℕ) where
  pub times-append : (xs ys : List Edge) → times a b (xs ++ ys) ≡ times a b xs + times a b ys
  times-append [] ys = omega (arith, times_none a b)
  times-append (edge c d ∷ xs) ys = ⊎_elim
      (λ t. omega (arith, times-on a b c d (xs ++ ys) t, times-on a b c d xs t, times-append xs ys))
      (λ f. omega (arith, times_off a b c d (xs ++ ys) f, times_off a b c d xs f, times-append xs ys))
      (true-or (same a b c d))

  module _ (f : ℕ → List Edge) where
    next : (n : ℕ) → times a b (each f (suc n)) ≡ times a b (each f n) + times a b (f n)
    next n = ap (times a b) (each_more f n) ∙ times-append (each f n) (f n)

    first : times a b (each f 0) ≡ 0
    first = ap (times a b) (each_none f) ∙ times_none a b

    each-zero : (n : ℕ) → ((i : ℕ) → i < n → times a b (f i) ≡ 0) → times a b (each f n) ≡ 0
    each-zero zero h = first
    each-zero (suc n) h = omega (arith, next n, h n (omega arith), each-zero n (λ i l. h i (omega arith)))

    -- all but one stand for nothing
    each-one : (n j : ℕ) → j < n → ((i : ℕ) → i < n → i ≢ j → times a b (f i) ≡ 0) → times a b (each f n) ≡ times a b (f j)
    each-one zero j l h = absurd (omega arith)
    each-one (suc n) j l h = go (ℕ_discrete j n) (λ g. each-one n j g (λ i p. h i (omega arith)))
      where
        go : Dec (j ≡ n) → (j < n → times a b (each f n) ≡ times a b (f j)) → times a b (each f (suc n)) ≡ times a b (f j)
        go (yes e) r = next n ∙ ap (λ (x : ℕ). x + times a b (f n)) (each-zero n (λ i p. h i (omega arith) (λ z. omega arith))) ∙ ap (λ (x : ℕ). 0 + times a b (f x)) (sym e) ∙ omega arith
        go (no ne) r = omega (arith, next n, r (omega arith), h n (omega arith) (λ z. ne (sym z)))

    each-some : (n : ℕ) → 0 < times a b (each f n) → (i : ℕ) × (i < n) × (0 < times a b (f i))
    each-some zero h = absurd (omega (arith, first))
    each-some (suc n) h = go (dec_lt 0 (times a b (f n))) (each-some n)
      where
        go : Dec (0 < times a b (f n)) → (0 < times a b (each f n) → (i : ℕ) × (i < n) × (0 < times a b (f i))) → (i : ℕ) × (i < suc n) × (0 < times a b (f i))
        go (yes l) r = (n, omega arith, l)
        go (no ne) r = let (i, l, p) = r (omega (arith, next n, none_of (times a b (f n)) ne)) in (i, omega arith, p)

  -- the line of two relays
  module _ (m : Mesh) (u v : ℕ) where
    upward-some : 0 < times a b (upward m u v) → (u < v) × (m.linked u v ≡ true) × (same a b (u + 1) (v + 1) ≡ true)
    upward-some h = go (true-or (ltb u v && m.linked u v)) (true-or (same a b (u + 1) (v + 1)))
      where
        blank : (ltb u v && m.linked u v) ≡ false → times a b (upward m u v) ≡ 0
        blank f = ap (λ (x : Bool). times a b (pick x (edge (u + 1) (v + 1) ∷ []) [])) f ∙ times_none a b

        line : (ltb u v && m.linked u v) ≡ true → times a b (upward m u v) ≡ times a b (edge (u + 1) (v + 1) ∷ [])
        line t = ap (λ (x : Bool). times a b (pick x (edge (u + 1) (v + 1) ∷ []) [])) t

        go : ((ltb u v && m.linked u v) ≡ true) ⊎ ((ltb u v && m.linked u v) ≡ false) → (same a b (u + 1) (v + 1) ≡ true) ⊎ (same a b (u + 1) (v + 1) ≡ false)
            → (u < v) × (m.linked u v ≡ true) × (same a b (u + 1) (v + 1) ≡ true)
        go (inl t) (inl s) = let (p, q) = both_true (ltb u v) (m.linked u v) t in (ltb-true u v p, q, s)
        go (inl t) (inr s) = absurd (omega (arith, line t, times_off a b (u + 1) (v + 1) [] s, times_none a b))
        go (inr f) s = absurd (omega (arith, blank f))

    upward-one : u < v → m.linked u v ≡ true → same a b (u + 1) (v + 1) ≡ true → times a b (upward m u v) ≡ 1
    upward-one h l s =
        ap₂ (λ (x y : Bool). times a b (pick (x && y) (edge (u + 1) (v + 1) ∷ []) [])) (lt-ltb u v h) l
        ∙ times-on a b (u + 1) (v + 1) [] s ∙ ap suc (times_none a b)

-- ---- all lines

module _ (m : Mesh) (near : ℕ → ℕ → ℕ) (k : Links m near) where
  as_rows : (a b : ℕ) → times a b (edges m) ≡ times a b (each (row m) m.relays)
  unfolding edges
  as_rows a b = refl

  as_row : (a b u : ℕ) → times a b (row m u) ≡ times a b (each (upward m u) m.relays)
  unfolding row
  as_row a b u = refl

  -- a line of the lower and the higher number is of these two relays
  which : (a b x y : ℕ) → a < b → 0 < times a b (upward m x y) → (x ≡ a - 1) × (y ≡ b - 1)
  which a b x y h p =
      let (up, l, s) = upward-some a b m x y p in
      ⊎_elim (λ (e, f). (omega arith, omega arith)) (λ (e, f). absurd (omega arith)) (same_cases a b (x + 1) (y + 1) s)

  in_row : (a b x : ℕ) → a < b → 0 < times a b (row m x) → x ≡ a - 1
  in_row a b x h p = let (y, l, q) = each-some a b (upward m x) m.relays (omega (arith, as_row a b x)) in (which a b x y h q).0

  -- a link stands once
  one : (a b : ℕ) → a < b → is_link m a b ≡ true → times a b (edges m) ≡ 1
  one a b h l =
      let i = link_sound m a b l in
      let hu : a - 1 < m.relays = omega (arith, i.first, i.first_in) in
      let hv : b - 1 < m.relays = omega (arith, i.second, i.second_in) in
      as_rows a b
      ∙ each-one a b (row m) m.relays (a - 1) hu (λ x p ne. none_of (times a b (row m x)) (λ q. ne (in_row a b x h q)))
      ∙ as_row a b (a - 1)
      ∙ each-one a b (upward m (a - 1)) m.relays (b - 1) hv (λ y p ne. none_of (times a b (upward m (a - 1) y)) (λ q. ne (which a b (a - 1) y h q).1))
      ∙ upward-one a b m (a - 1) (b - 1) (omega (arith, i.first)) i.linked (same_straight a b (a - 1 + 1) (b - 1 + 1) (omega (arith, i.first)) (omega (arith, i.second)))

  pub edges-mesh : IsMesh m (edges m)
  edges-mesh = record { only = only; once = λ a b l. once a b l (lt-or a b) }
    where
      only : (a b : ℕ) → 0 < times a b (edges m) → is_link m a b ≡ true
      only a b h =
          let (u, hu, p) = each-some a b (row m) m.relays (omega (arith, as_rows a b)) in
          let (v, hv, q) = each-some a b (upward m u) m.relays (omega (arith, as_row a b u)) in
          let (up, l, s) = upward-some a b m u v q in
          let low : u + 1 - 1 ≡ u = omega arith in
          let high : v + 1 - 1 ≡ v = omega arith in
          same-link m near k a b (u + 1) (v + 1) s
          ∙ link_complete m (u + 1) (v + 1) (record { first = omega arith; first_in = omega arith; second = omega arith; second_in = omega arith; linked = ap (λ (x : ℕ). m.linked x (v + 1 - 1)) low ∙ ap (m.linked u) high ∙ l })

      once : (a b : ℕ) → is_link m a b ≡ true → (a < b) ⊎ ((a ≡ b) ⊎ (b < a)) → times a b (edges m) ≡ 1
      once a b l (inl h) = one a b h l
      once a b l (inr (inl z)) = absurd (link-other m near k a b l z)
      once a b l (inr (inr h)) = times-turn a b (edges m) ∙ one b a h (link-turn m near k b a ∙ l)
