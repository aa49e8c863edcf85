-- A list of `e` lines is a mesh (`IsMesh`) where each of its lines is a link, and each link stands in it once, in either direction. That is so exactly where the reader finds no wrong line and no link missing
-- (`reads_mesh`, `mesh_reads`); the order of the lines, and the direction of each, do not matter (`shuffled-mesh`). Assumes nothing.
use Rattle.std.specs.Prelude.{ℕ, suc, ◌+◌, ◌-◌, ◌≤◌, ◌<◌, ◌≡◌, Bool, ◌&&◌, ◌⊎◌, ltb}
use Rattle.std.proofs.Math.Path.{refl, ap}
use Rattle.std.proofs.Common.{sym, ◌∙◌, inl, inr}
use Rattle.std.proofs.Math.Bool.{true, false, not}
use Rattle.std.proofs.Math.Logic.{⊎_elim}
use mathlib.Core.List.{List, [], ◌∷◌}
use native.Mathlib.Omega.{arith}
use borrow.Author.Tests.{ltb-true, ltb-false, lt-ltb, le-ltb}
use borrow.Author.Tests as tests
use Rattle.bits.specs.Laws.{lt-or}
use Rattle.scan.specs.Scan.{nowhere, at, pick, any}
use Rattle.scan.specs.Laws.{true-or, true-false, not-true, both_true, any_false, false-any, nowhere_at}
use Rattle.paths.specs.Mesh.{Mesh}
use Rattle.paths.specs.Links.{Links}
use Rattle.dimacs.specs.Text.{Edge, edge}
use Rattle.dimacs.specs.Parse.{Line, comment, counts, link, malformed}
use Rattle.dimacs.specs.Says.{is_link, same, times, stands, wrong_at, edges_from, absent, missing}
use Rattle.dimacs.specs.Edges.{all_true, same_cases, same_straight, times-on, times_off, times_none, times-turn, times_turned, link_sound, link_complete, link-turn, link-other}

pub record IsMesh (m : Mesh) (es : List Edge) : Type 0 where
  pub only : (a b : ℕ) → 0 < times a b es → is_link m a b ≡ true
  pub once : (a b : ℕ) → is_link m a b ≡ true → times a b es ≡ 1

-- ---- the order and the direction of lines do not matter

-- the same lines in another order, some of them turned
pub data Shuffled : List Edge → List Edge → Type 0 where
  none : Shuffled [] []
  keep : {e : Edge} {es fs : List Edge} → Shuffled es fs → Shuffled (e ∷ es) (e ∷ fs)
  turn : {a b : ℕ} {es fs : List Edge} → Shuffled es fs → Shuffled (edge a b ∷ es) (edge b a ∷ fs)
  swap : {e f : Edge} {es fs : List Edge} → Shuffled es fs → Shuffled (e ∷ f ∷ es) (f ∷ e ∷ fs)
  join : {es fs gs : List Edge} → Shuffled es fs → Shuffled fs gs → Shuffled es gs

module _ (a b : ℕ) where
  -- one line more, counted
  plus : Edge → ℕ → ℕ
  plus (edge c d) n = pick (same a b c d) (suc n) n

  times_plus : (e : Edge) (es : List Edge) → times a b (e ∷ es) ≡ plus e (times a b es)
  unfolding times plus
  times_plus (edge c d) es = refl

  plus_swap : (e f : Edge) (n : ℕ) → plus e (plus f n) ≡ plus f (plus e n)
  unfolding plus
  plus_swap (edge c d) (edge x y) n = go (same a b c d) (same a b x y)
    where
      go : (p q : Bool) → pick p (suc (pick q (suc n) n)) (pick q (suc n) n) ≡ pick q (suc (pick p (suc n) n)) (pick p (suc n) n)
      go true true = refl
      go true false = refl
      go false true = refl
      go false false = refl

  pub shuffled-times : {es fs : List Edge} → Shuffled es fs → times a b es ≡ times a b fs
  shuffled-times none = refl
  shuffled-times (keep {e = e} {es = es} {fs = fs} s) = times_plus e es ∙ ap (plus e) (shuffled-times s) ∙ sym (times_plus e fs)
  shuffled-times (turn {a = c} {b = d} {es = es} {fs = fs} s) = times_plus (edge c d) es ∙ ap (plus (edge c d)) (shuffled-times s) ∙ sym (times_plus (edge c d) fs) ∙ times_turned a b c d fs
  shuffled-times (swap {e = e} {f = f} {es = es} {fs = fs} s) =
      times_plus e (f ∷ es) ∙ ap (plus e) (times_plus f es) ∙ plus_swap e f (times a b es)
      ∙ ap (λ (n : ℕ). plus f (plus e n)) (shuffled-times s) ∙ sym (ap (plus f) (times_plus e fs)) ∙ sym (times_plus f (e ∷ fs))
  shuffled-times (join s t) = shuffled-times s ∙ shuffled-times t

-- lines in which each two numbers stand as often are a mesh together
pub same-mesh : (m : Mesh) (es fs : List Edge) → ((a b : ℕ) → times a b es ≡ times a b fs) → IsMesh m es → IsMesh m fs
same-mesh m es fs e i = record { only = λ a b h. i.only a b (omega (arith, e a b)); once = λ a b h. sym (e a b) ∙ i.once a b h }

pub shuffled-mesh : (m : Mesh) {es fs : List Edge} → Shuffled es fs → IsMesh m es → IsMesh m fs
shuffled-mesh m {es} {fs} s i = same-mesh m es fs (λ a b. shuffled-times a b s) i

-- ---- no line is wrong where each is a link and stands once

record Good (m : Mesh) (es : List Edge) : Type 0 where
  pub few : (a b : ℕ) → times a b es ≤ 1
  pub links : (a b : ℕ) → 0 < times a b es → is_link m a b ≡ true

good_none : (m : Mesh) → Good m []
good_none m = record { few = λ a b. omega (arith, times_none a b); links = λ a b h. absurd (omega (arith, times_none a b)) }

same-times : (a b c d : ℕ) (es : List Edge) → same a b c d ≡ true → times a b es ≡ times c d es
same-times a b c d es e = ⊎_elim
    (λ (p, q). ap (λ (x : ℕ). times x b es) p ∙ ap (λ (x : ℕ). times c x es) q)
    (λ (p, q). ap (λ (x : ℕ). times x b es) p ∙ ap (λ (x : ℕ). times d x es) q ∙ times-turn d c es)
    (same_cases a b c d e)

module _ (m : Mesh) (near : ℕ → ℕ → ℕ) (k : Links m near) where
  pub same-link : (a b c d : ℕ) → same a b c d ≡ true → is_link m a b ≡ is_link m c d
  same-link a b c d e = ⊎_elim
      (λ (p, q). ap (λ (x : ℕ). is_link m x b) p ∙ ap (λ (x : ℕ). is_link m c x) q)
      (λ (p, q). ap (λ (x : ℕ). is_link m x b) p ∙ ap (λ (x : ℕ). is_link m d x) q ∙ link-turn m near k d c)
      (same_cases a b c d e)

  good_more : (a b : ℕ) (seen : List Edge) → is_link m a b ≡ true → stands a b seen ≡ false → Good m seen → Good m (edge a b ∷ seen)
  good_more a b seen l f g = record { few = λ x y. few x y (true-or (same x y a b)); links = λ x y. links x y (true-or (same x y a b)) }
    where
      few : (x y : ℕ) → (same x y a b ≡ true) ⊎ (same x y a b ≡ false) → times x y (edge a b ∷ seen) ≤ 1
      few x y (inl t) = omega (arith, times-on x y a b seen t, same-times x y a b seen t, ltb-false 0 (times a b seen) f)
      few x y (inr t) = omega (arith, times_off x y a b seen t, g.few x y)

      links : (x y : ℕ) → (same x y a b ≡ true) ⊎ (same x y a b ≡ false) → 0 < times x y (edge a b ∷ seen) → is_link m x y ≡ true
      links x y (inl t) h = same-link x y a b t ∙ l
      links x y (inr t) h = g.links x y (omega (arith, times_off x y a b seen t))

  fresh_good : (seen : List Edge) (n : ℕ) (ls : List Line) → wrong_at m seen n ls ≡ nowhere → Good m seen → Good m (edges_from seen ls)
  unfolding wrong_at edges_from
  fresh_good seen n [] e g = g
  fresh_good seen n (comment ∷ ls) e g = fresh_good seen (n + 1) ls e g
  fresh_good seen n (counts a b ∷ ls) e g = fresh_good seen (n + 1) ls e g
  fresh_good seen n (malformed ∷ ls) e g = fresh_good seen (n + 1) ls e g
  fresh_good seen n (link (edge a b) ∷ ls) e g = go (true-or (is_link m a b && not (stands a b seen))) (fresh_good (edge a b ∷ seen) (n + 1) ls)
    where
      go : ((is_link m a b && not (stands a b seen)) ≡ true) ⊎ ((is_link m a b && not (stands a b seen)) ≡ false)
          → (wrong_at m (edge a b ∷ seen) (n + 1) ls ≡ nowhere → Good m (edge a b ∷ seen) → Good m (edges_from (edge a b ∷ seen) ls)) → Good m (edges_from (edge a b ∷ seen) ls)
      go (inl t) rest =
          let (l, f) = both_true (is_link m a b) (not (stands a b seen)) t in
          rest (sym (ap (λ (x : Bool). pick x (wrong_at m (edge a b ∷ seen) (n + 1) ls) (at (n + 1))) t) ∙ e) (good_more a b seen l (tests.not-true (stands a b seen) f) g)
      go (inr f) rest = absurd (nowhere_at e (ap (λ (x : Bool). pick x (wrong_at m (edge a b ∷ seen) (n + 1) ls) (at (n + 1))) f))

  -- lines that come later take none away
  grow : (a b : ℕ) (seen : List Edge) (ls : List Line) → times a b seen ≤ times a b (edges_from seen ls)
  unfolding edges_from
  grow a b seen [] = omega arith
  grow a b seen (comment ∷ ls) = grow a b seen ls
  grow a b seen (counts c d ∷ ls) = grow a b seen ls
  grow a b seen (malformed ∷ ls) = grow a b seen ls
  grow a b seen (link (edge c d) ∷ ls) = ⊎_elim
      (λ t. omega (arith, times-on a b c d seen t, grow a b (edge c d ∷ seen) ls))
      (λ f. omega (arith, times_off a b c d seen f, grow a b (edge c d ∷ seen) ls))
      (true-or (same a b c d))

  good_fresh : (seen : List Edge) (n : ℕ) (ls : List Line) → Good m (edges_from seen ls) → wrong_at m seen n ls ≡ nowhere
  unfolding wrong_at edges_from
  good_fresh seen n [] g = refl
  good_fresh seen n (comment ∷ ls) g = good_fresh seen (n + 1) ls g
  good_fresh seen n (counts a b ∷ ls) g = good_fresh seen (n + 1) ls g
  good_fresh seen n (malformed ∷ ls) g = good_fresh seen (n + 1) ls g
  good_fresh seen n (link (edge a b) ∷ ls) g =
      let more = grow a b (edge a b ∷ seen) ls in
      let one = times-on a b a b seen (same_straight a b a b refl refl) in
      let bare : stands a b seen ≡ false = le-ltb 0 (times a b seen) (omega (arith, g.few a b)) in
      let linked = g.links a b (omega arith) in
      ap (λ (x : Bool). pick x (wrong_at m (edge a b ∷ seen) (n + 1) ls) (at (n + 1))) (all_true linked (ap not bare))
      ∙ good_fresh (edge a b ∷ seen) (n + 1) ls g

  -- ---- and none is missing where each link stands

  missing_by : (es : List Edge) → missing m es ≡ any (λ u. any (absent m es u) 0 m.relays) 0 m.relays
  unfolding missing
  missing_by es = refl

  -- of two relays, the lower first
  stood : (es : List Edge) → missing m es ≡ false → (a b : ℕ) → a < b → is_link m a b ≡ true → 0 < times a b es
  stood es e a b h l =
      let i = link_sound m a b l in
      let row = any_false (λ u. any (absent m es u) 0 m.relays) 0 m.relays (sym (missing_by es) ∙ e) (a - 1) (omega arith) (omega (arith, i.first, i.first_in)) in
      let place = any_false (absent m es (a - 1)) 0 m.relays row (b - 1) (omega arith) (omega (arith, i.second, i.second_in)) in
      ⊎_elim
      (λ (t : stands a b es ≡ true). ltb-true 0 (times a b es) t)
      (λ (f : stands a b es ≡ false). absurd (true-false
      (all_true (all_true (lt-ltb (a - 1) (b - 1) (omega (arith, i.first))) i.linked)
      (ap not (ap (λ (x : ℕ). stands x (b - 1 + 1) es) (omega (arith, i.first)) ∙ ap (λ (x : ℕ). stands a x es) (omega (arith, i.second)) ∙ f)))
      place))
      (true-or (stands a b es))

  pub reads_mesh : (ls : List Line) → wrong_at m [] 0 ls ≡ nowhere → missing m (edges_from [] ls) ≡ false → IsMesh m (edges_from [] ls)
  reads_mesh ls w e =
      let g = fresh_good [] 0 ls w (good_none m) in
      record { only = g.links; once = λ a b l. one g a b l (lt-or a b) }
    where
      one : Good m (edges_from [] ls) → (a b : ℕ) → is_link m a b ≡ true → (a < b) ⊎ ((a ≡ b) ⊎ (b < a)) → times a b (edges_from [] ls) ≡ 1
      one g a b l (inl h) = omega (arith, g.few a b, stood (edges_from [] ls) e a b h l)
      one g a b l (inr (inl z)) = absurd (link-other m near k a b l z)
      one g a b l (inr (inr h)) = omega (arith, g.few a b, times-turn a b (edges_from [] ls), stood (edges_from [] ls) e b a h (link-turn m near k b a ∙ l))

  mesh_good : (es : List Edge) → IsMesh m es → Good m es
  mesh_good es i = record { few = λ a b. ⊎_elim (λ (t : ltb 0 (times a b es) ≡ true). omega (arith, i.once a b (i.only a b (ltb-true 0 (times a b es) t)))) (λ (f : ltb 0 (times a b es) ≡ false). omega (arith, ltb-false 0 (times a b es) f)) (true-or (ltb 0 (times a b es))); links = i.only }

  pub mesh_reads : (ls : List Line) → IsMesh m (edges_from [] ls) → (wrong_at m [] 0 ls ≡ nowhere) × (missing m (edges_from [] ls) ≡ false)
  mesh_reads ls i = (good_fresh [] 0 ls (mesh_good (edges_from [] ls) i), missing_by (edges_from [] ls) ∙ false-any (λ u. any (absent m (edges_from [] ls) u) 0 m.relays) 0 m.relays (λ u p h. false-any (absent m (edges_from [] ls) u) 0 m.relays (λ v q g. not-true (λ t. found u v h g t))))
    where
      found : (u v : ℕ) → u < 0 + m.relays → v < 0 + m.relays → absent m (edges_from [] ls) u v ≡ true → ⊥
      found u v h g t =
          let (both, out) = both_true (ltb u v && m.linked u v) (not (stands (u + 1) (v + 1) (edges_from [] ls))) t in
          let (up, l) = both_true (ltb u v) (m.linked u v) both in
          let low : u + 1 - 1 ≡ u = omega arith in
          let high : v + 1 - 1 ≡ v = omega arith in
          let is = link_complete m (u + 1) (v + 1) (record { first = omega arith; first_in = omega arith; second = omega arith; second_in = omega arith; linked = ap (λ (x : ℕ). m.linked x (v + 1 - 1)) low ∙ ap (m.linked u) high ∙ l }) in
          let one = i.once (u + 1) (v + 1) is in
          let bare = ltb-false 0 (times (u + 1) (v + 1) (edges_from [] ls)) (tests.not-true (stands (u + 1) (v + 1) (edges_from [] ls)) out) in
          omega arith
