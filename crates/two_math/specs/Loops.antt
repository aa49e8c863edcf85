-- What the loops of a program that plans keep, and what follows where they end. Assumes nothing.
use Rattle.std.specs.Prelude.{ℕ, zero, suc, ◌+◌, ◌-◌, ◌^◌, ◌≤◌, ◌<◌, ◌≡◌, refl, ◌⊎◌, ◌≢◌, List, [], ◌∷◌, ◌++◌, length, get_or}
use Rattle.std.proofs.Common.{sym, ap, ◌∙◌, subst, inl, inr, ⊎_elim, append_assoc, append-nil, arith, length-append}
use Rattle.std.specs.Int.Bits.{bit_xor, bit_or, differ}
use Rattle.std.specs.Int.Count.{ones, ones-ones}
use Rattle.bits.specs.Bit.{bit, flip, Lowest}
use Rattle.bits.specs.Laws.{bit-cases, bit-none, bit-xor, differ_self, flip-other, ones-zero, clash, bit-pow-same, bit-pow-other, ones_clear, lt-or-le, same_or}
use Rattle.cube_math.specs.Doors.{In, Fresh, Walk}
use Rattle.cube_math.specs.Paths.{not-cons}
use Rattle.cube_math.specs.Plain.{bit-full, bit_high, full-below}
use Rattle.cube_math.specs.Single.{rank, rank_less, rank-le}
use Rattle.cube_math.specs.Choose.{Chosen, Used, cleared, or-on, or_left, or_right}
use Rattle.cube_math.specs.Loops.{Plus}
use Rattle.two_math.specs.Relays.{Relay, inside, in_append, walk_more, fresh-more}
use Rattle.two_math.specs.Through.{Stroll, Crosses}
use Rattle.two_math.specs.Sort.{Classes}
use Rattle.two_math.specs.Crowd.{Cut}

only : (i j : ℕ) → bit i (2 ^ j) ≡ 1 → i ≡ j
only i j p = ⊎_elim (λ e. e) (λ ne. absurd (clash (bit-pow-other i j ne) p)) (same_or i j)

-- ---- a set of indices made by a test, index by index

pub chosen_none : (A B : ℕ → Type 0) → Chosen A B (2 ^ 0 - 1) 0
chosen_none A B = record { sub = λ j o. o; holds = λ j o. absurd (clash (bit-none j) o); fails = λ j o. absurd (clash (bit-none j) o) }

pub chosen_yes : {A B : ℕ → Type 0} {r : ℕ} (n : ℕ) → Chosen A B (2 ^ n - 1) r → A n → Chosen A B (2 ^ (n + 1) - 1) (bit_or r (2 ^ n))
chosen_yes {A} {B} {r} n c a = record {
  sub = λ j o. ⊎_elim (λ p. bit-full (n + 1) j (omega (arith, full-below n j (c.sub j p)))) (λ p. bit-full (n + 1) j (omega (arith, only j n p))) (or-on j r (2 ^ n) o);
  holds = λ j o. ⊎_elim (c.holds j) (λ p. subst A (sym (only j n p)) a) (or-on j r (2 ^ n) o);
  fails = λ j o z. ⊎_elim (λ e. absurd (clash z (or_right j r (2 ^ n) (subst (λ (y : ℕ). bit y (2 ^ n) ≡ 1) (sym e) (bit-pow-same n)))))
      (λ ne. c.fails j (bit-full n j (omega (arith, full-below (n + 1) j o))) (⊎_elim (λ y. y) (λ y. absurd (clash z (or_left j r (2 ^ n) y))) (bit-cases j r))) (same_or j n);
}

pub chosen_no : {A B : ℕ → Type 0} {r : ℕ} (n : ℕ) → Chosen A B (2 ^ n - 1) r → B n → Chosen A B (2 ^ (n + 1) - 1) r
chosen_no {A} {B} {r} n c b = record {
  sub = λ j o. bit-full (n + 1) j (omega (arith, full-below n j (c.sub j o)));
  holds = c.holds;
  fails = λ j o z. ⊎_elim (λ e. subst B (sym e) b) (λ ne. c.fails j (bit-full n j (omega (arith, full-below (n + 1) j o))) z) (same_or j n);
}

-- ---- the values of its members, each added with its index

-- ---- a walk in a block, slot by slot: from p, at u, towards q

pub record Strolling (m p q u : ℕ) (l : List ℕ) : Type 0 where
  pub walk : Walk (2 ^ m - 1) p u l
  pub fresh : Fresh (p ∷ l)
  pub farther : (x : ℕ) → In x (p ∷ l) → rank q u ≤ rank q x
  pub hops : length l + rank q u ≡ rank q p

pub strolling_none : (m p q : ℕ) → Strolling m p q p []
strolling_none m p q = record {
  walk = refl;
  fresh = ((λ z. z), tt);
  farther = λ x h. ⊎_elim (λ e. omega (arith, ap (rank q) e)) (λ z. absurd z) h;
  hops = omega arith;
}

pub strolling_more : {m p q u : ℕ} {l : List ℕ} (c : ℕ) → Strolling m p q u l → c < m → bit c u ≢ bit c q → Strolling m p q (flip u c) (l ++ (flip u c ∷ []))
strolling_more {m} {p} {q} {u} {l} c k h ne =
    let r = rank_less q u c ne in record {
      walk = walk_more (2 ^ m - 1) p u (flip u c) l c k.walk (bit-full m c h) refl;
      fresh = fresh-more (p ∷ l) (flip u c) k.fresh (λ z. omega (arith, k.farther (flip u c) z));
      farther = λ x z. ⊎_elim (λ y. omega (arith, k.farther x y)) (λ y. ⊎_elim (λ e. omega (arith, ap (rank q) e)) (λ w. absurd w) y) (in_append x (p ∷ l) (flip u c ∷ []) z);
      hops = omega (arith, k.hops, length-append l (flip u c ∷ []));
    }

-- never more than m hops
pub strolling_short : {m p q u : ℕ} {l : List ℕ} → Strolling m p q u l → p < 2 ^ m → q < 2 ^ m → length l ≤ m
strolling_short {m} {p} {q} {u} {l} k hp hq =
    omega (arith, k.hops, rank-le (2 ^ m - 1) q p (λ c ne. ⊎_elim (bit-full m c) (λ g. absurd (ne (bit_high m c p hp g ∙ sym (bit_high m c q hq g)))) (lt-or-le c m)), ones-ones m)

pub strolling_done : {m p q : ℕ} {l : List ℕ} → Strolling m p q q l → p < 2 ^ m → q < 2 ^ m → Stroll m p q l
strolling_done k hp hq = record { walk = k.walk; fresh = k.fresh; short = strolling_short k hp hq }

-- a walk that looks for a slot with A: none before u has it
abbrev pub Unhit : (A : ℕ → Type 0) (p u : ℕ) (l : List ℕ) → Type 0
Unhit A p u l = (y : ℕ) → In y (p ∷ l) → y ≢ u → A y → ⊥

pub unhit_none : (A : ℕ → Type 0) (p : ℕ) → Unhit A p p []
unhit_none A p y h ne a = not-cons ne (λ z. z) h

pub unhit_more : (A : ℕ → Type 0) (p u v : ℕ) (l : List ℕ) → Unhit A p u l → (A u → ⊥) → Unhit A p v (l ++ (v ∷ []))
unhit_more A p u v l k none y h ne a = ⊎_elim
    (λ z. ⊎_elim (λ e. none (subst A e a)) (λ nu. k y z nu a) (same_or y u))
    (λ z. not-cons ne (λ w. w) z) (in_append y (p ∷ l) (v ∷ []) h)

pub strolling_cut : {A : ℕ → Type 0} {m p q u : ℕ} {l : List ℕ} → Strolling m p q u l → Unhit A p u l → A u → Cut A (2 ^ m - 1) p l u l
strolling_cut k none a = record { walk = k.walk; fresh = k.fresh; short = omega arith; part = λ y h. h; hit = a; before = none }

-- ---- through blocks, one block more at the end

pub crosses_none : (m b p : ℕ) → Crosses m b p b p [] []
crosses_none m b p = (refl, refl, refl)

pub crosses_more : (m b p g q e : ℕ) (r : List ℕ) (l : List Relay) (w : List ℕ) → Crosses m b p g q r l → Stroll m q e w
    → Crosses m b p (flip g q) e (r ++ (flip g q ∷ [])) (l ++ inside (flip g q) (q ∷ w))
crosses_more m b p g q e [] l w k s = (
  e,
  w,
  [],
  ap (λ (y : ℕ). flip y q) (sym k.0) ∙ ap (flip b) (sym k.1),
  subst (λ (y : ℕ). Stroll m y e w) (sym k.1) s,
  (refl, refl, refl),
  ap (λ (y : List Relay). y ++ inside (flip g q) (q ∷ w)) k.2 ∙ ap (λ (y : ℕ). inside (flip g q) (y ∷ w)) (sym k.1) ∙ sym (append-nil (inside (flip g q) (p ∷ w))),
)
crosses_more m b p g q e (c ∷ r) l w k s = (
  k.0,
  k.1,
  k.2 ++ inside (flip g q) (q ∷ w),
  k.3,
  k.4,
  crosses_more m c k.0 g q e r k.2 w k.5 s,
  ap (λ (y : List Relay). y ++ inside (flip g q) (q ∷ w)) k.6 ∙ append_assoc (inside c (p ∷ k.1)) k.2 (inside (flip g q) (q ∷ w)),
)

-- where a path that follows blocks ends
abbrev pub last : ℕ → List ℕ → ℕ
last u [] = u
last u (v ∷ l) = last v l

pub crosses_last : (m b p g q : ℕ) (r : List ℕ) (l : List Relay) → Crosses m b p g q r l → last b r ≡ g
crosses_last m b p g q [] l k = k.0
crosses_last m b p g q (c ∷ r) l k = crosses_last m c k.0 g q r k.2 k.5

pub walk-last : (free u t : ℕ) (l : List ℕ) → Walk free u t l → last u l ≡ t
walk-last free u t [] w = w
walk-last free u t (v ∷ l) w = walk-last free v t l w.3

-- a walk ends with its last hop: all but the last relay, the last, and the door between
pub walk_split : (free u t v : ℕ) (l : List ℕ) → Walk free u t (v ∷ l) → (r : List ℕ) × (d : ℕ) × (bit d free ≡ 1) × (v ∷ l ≡ r ++ (t ∷ [])) × (t ≡ flip (last u r) d)
walk_split free u t v [] w = ([], w.0, w.1, ap (λ (y : ℕ). y ∷ []) w.3, sym w.3 ∙ w.2)
walk_split free u t v (x ∷ l) w =
    let r = walk_split free v t x l w.3 in
    (v ∷ r.0, r.1, r.2, ap (λ (y : List ℕ). v ∷ y) r.3, r.4)

-- the hop after the first i of a walk
pub walk_hop : (free u t i : ℕ) (l : List ℕ) → Walk free u t l → i < length l → (d : ℕ) × (bit d free ≡ 1) × (get_or l i 0 ≡ flip (get_or (u ∷ l) i 0) d)
walk_hop free u t i [] w h = absurd (omega arith)
walk_hop free u t zero (v ∷ l) w h = (w.0, w.1, w.2)
walk_hop free u t (suc i) (v ∷ l) w h = walk_hop free v t i l w.3 (omega arith)

-- the lowest bit in which neighbours differ is their door
pub door-of : (w u v d e : ℕ) → v ≡ flip u d → Lowest w (bit_xor u v) e → e ≡ d
door-of w u v d e f low =
    ⊎_elim (λ z. z) (λ ne. absurd (clash (ap (bit e) (ap (bit_xor u) f) ∙ same e ne) low.set)) (same_or e d)
  where
    same : (e : ℕ) → e ≢ d → bit e (bit_xor u (flip u d)) ≡ 0
    same e ne = bit-xor e u (flip u d) ∙ ap (differ (bit e u)) (flip-other u d e ne) ∙ differ_self (bit e u)

-- ---- loops over the members of a set: `todo` are those still to come, `flip todo j` without j

gone : (m j c : ℕ) → bit c (flip m j) ≡ 0 → (c ≡ j) ⊎ (bit c m ≡ 0)
gone m j c z = ⊎_elim inl (λ ne. inr (sym (flip-other m j c ne) ∙ z)) (same_or c j)

-- the values of the members of m
pub record Using (R : ℕ → ℕ → Type 0) (m todo r : ℕ) : Type 0 where
  pub uses : (j : ℕ) → bit j m ≡ 1 → bit j todo ≡ 0 → (i : ℕ) × R j i × (bit i r ≡ 1)
  pub from : (i : ℕ) → bit i r ≡ 1 → (j : ℕ) × (bit j m ≡ 1) × R j i
  pub few : ones r + ones todo ≤ ones m
  pub ahead : (j : ℕ) → bit j todo ≡ 1 → bit j m ≡ 1

pub using_none : (R : ℕ → ℕ → Type 0) (m : ℕ) → Using R m m 0
using_none R m = record {
  uses = λ j o z. absurd (clash z o);
  from = λ i o. absurd (clash (bit-none i) o);
  few = omega (arith, ones-zero);
  ahead = λ j o. o;
}

pub using_more : {R : ℕ → ℕ → Type 0} {m todo r : ℕ} (j a new : ℕ) → Using R m todo r → bit j todo ≡ 1 → R j a → Plus r a new → Using R m (flip todo j) new
using_more {R} {m} {todo} {r} j a new k o x p = record {
  uses = λ i q z. ⊎_elim (λ e. (a, subst (λ (y : ℕ). R y a) (sym e) x, p.on)) (λ y. let u = k.uses i q y in (u.0, u.1, p.keeps u.0 u.2)) (gone todo j i z);
  from = λ i q. ⊎_elim (k.from i) (λ e. (j, k.ahead j o, subst (R j) (sym e) x)) (p.only i q);
  few = omega (arith, k.few, p.few, ones_clear j todo o);
  ahead = λ i q. k.ahead i (cleared todo j o i q).0;
}

pub using_done : {R : ℕ → ℕ → Type 0} {m r : ℕ} → Using R m 0 r → Used R m r
using_done k = record { uses = λ j o. k.uses j o (bit-none j); from = k.from; few = omega (arith, k.few, ones-zero) }

-- representatives of the classes of f among the members of m
pub record Classing (f : ℕ → ℕ) (m todo r : ℕ) : Type 0 where
  pub sub : (j : ℕ) → bit j r ≡ 1 → bit j m ≡ 1
  pub differ : (i j : ℕ) → bit i r ≡ 1 → bit j r ≡ 1 → i ≢ j → f i ≢ f j
  pub all : (j : ℕ) → bit j m ≡ 1 → bit j todo ≡ 0 → (c : ℕ) × (bit c r ≡ 1) × (f c ≡ f j)
  pub ahead : (j : ℕ) → bit j todo ≡ 1 → bit j m ≡ 1

pub classing_none : (f : ℕ → ℕ) (m : ℕ) → Classing f m m 0
classing_none f m = record {
  sub = λ j o. absurd (clash (bit-none j) o);
  differ = λ i j o. absurd (clash (bit-none i) o);
  all = λ j o z. absurd (clash z o);
  ahead = λ j o. o;
}

pub classing_old : {f : ℕ → ℕ} {m todo r : ℕ} (j c : ℕ) → Classing f m todo r → bit j todo ≡ 1 → bit c r ≡ 1 → f c ≡ f j → Classing f m (flip todo j) r
classing_old {f} {m} {todo} {r} j c k o p e = record {
  sub = k.sub;
  differ = k.differ;
  all = λ i q z. ⊎_elim (λ y. (c, p, e ∙ ap f (sym y))) (k.all i q) (gone todo j i z);
  ahead = λ i q. k.ahead i (cleared todo j o i q).0;
}

pub classing_new : {f : ℕ → ℕ} {m todo r : ℕ} (j new : ℕ) → Classing f m todo r → bit j todo ≡ 1 → ((c : ℕ) → bit c r ≡ 1 → f c ≢ f j) → Plus r j new → Classing f m (flip todo j) new
classing_new {f} {m} {todo} {r} j new k o none p = record {
  sub = λ i q. ⊎_elim (k.sub i) (λ e. subst (λ (y : ℕ). bit y m ≡ 1) (sym e) (k.ahead j o)) (p.only i q);
  differ = λ a b x y ne. ⊎_elim
      (λ u. ⊎_elim (λ v. k.differ a b u v ne) (λ v z. none a u (z ∙ ap f v)) (p.only b y))
      (λ u. ⊎_elim (λ v z. none b v (sym z ∙ ap f u)) (λ v. absurd (ne (u ∙ sym v))) (p.only b y)) (p.only a x);
  all = λ i q z. ⊎_elim (λ e. (j, p.on, ap f (sym e))) (λ y. let u = k.all i q y in (u.0, p.keeps u.0 u.1, u.2)) (gone todo j i z);
  ahead = λ i q. k.ahead i (cleared todo j o i q).0;
}

pub classing_done : {f : ℕ → ℕ} {m r : ℕ} → Classing f m 0 r → Classes f m r
classing_done k = record { sub = k.sub; differ = k.differ; all = λ j o. k.all j o (bit-none j) }
