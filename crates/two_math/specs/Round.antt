-- The round trip: all of m + 1 targets stand in the source's block. Assumes nothing.
use Rattle.std.specs.Prelude.{ℕ, zero, suc, ◌+◌, ◌-◌, ◌^◌, ◌≤◌, ◌<◌, ◌≡◌, refl, ◌⊎◌, ◌≢◌, List, [], ◌∷◌, ◌++◌, length, get_or, take}
use Rattle.std.proofs.Common.{sym, ap, ◌∙◌, subst, inl, inr, ⊎_elim, append-nil, mul-le-mul_left, mul-one, arith, pow_pos}
use Rattle.std.proofs.Math.Decide.{ℕ_discrete}
use Rattle.bits.specs.Bit.{flip}
use Rattle.bits.specs.Laws.{flip-flip, flip-moves, flip-eq, flip_comm}
use Rattle.cube_math.specs.Doors.{In, Fresh, Walk, Way, Doors}
use Rattle.cube_math.specs.Paths.{not-cons}
use Rattle.cube_math.specs.Plain.{bit-full}
use Rattle.two_math.specs.Relays.{Relay, inside}
use Rattle.two_math.specs.Through.{Stroll, Crosses}
use Rattle.two_math.specs.Assemble.{TwoFan, Leg, assemble}
use Rattle.two_math.specs.Plan.{walk_end, way_end}
use Rattle.two_math.specs.Gates.{flip_two}

-- the blocks of the round trip to the slot a
abbrev pub round : ℕ → ℕ → ℕ → List ℕ
round s0 p0 a = flip s0 p0 ∷ flip (flip s0 p0) a ∷ flip s0 a ∷ []

-- paths in the block to all targets but `left`: they do not meet, and none of them meets the slot of `left`
pub record Heads (m p0 k left : ℕ) (tp : ℕ → ℕ) (head : ℕ → List ℕ) : Type 0 where
  pub walk : (j : ℕ) → j < k → j ≢ left → Walk (2 ^ m - 1) p0 (tp j) (head j)
  pub fresh : (j : ℕ) → j < k → j ≢ left → Fresh (p0 ∷ head j)
  pub short : (j : ℕ) → j < k → j ≢ left → length (head j) ≤ m + 1
  pub apart : (i j : ℕ) → i < k → j < k → i ≢ left → j ≢ left → i ≢ j → (x : ℕ) → In x (head i) → In x (head j) → ⊥
  pub clear : (j : ℕ) → j < k → j ≢ left → In (tp left) (head j) → ⊥

-- the path of `left` makes the round trip
pub record Round (m s0 p0 k left : ℕ) (tb tp : ℕ → ℕ) (head : ℕ → List ℕ) (body : List Relay) (paths : ℕ → List Relay) : Type 0 where
  pub inner : (j : ℕ) → j < k → tb j ≡ s0
  pub left_in : left < k
  pub other : tp left ≢ p0
  pub heads : Heads m p0 k left tp head
  pub crosses : Crosses m s0 p0 (flip s0 (tp left)) (tp left) (round s0 p0 (tp left)) body
  pub path-other : (j : ℕ) → j < k → j ≢ left → paths j ≡ inside s0 (head j)
  pub path-left : paths left ≡ body ++ inside s0 (tp left ∷ [])

abbrev pub when : {A B : Type 0} → Dec A → B → B → B
when (yes e) a b = a
when (no ne) a b = b

pub when_yes : {A B : Type 0} (d : Dec A) (a b : B) → A → when d a b ≡ a
when_yes (yes e) a b h = refl
when_yes (no ne) a b h = absurd (ne h)

pub when_no : {A B : Type 0} (d : Dec A) (a b : B) → (A → ⊥) → when d a b ≡ b
when_no (yes e) a b h = absurd (h e)
when_no (no ne) a b h = refl

round-fresh : (s0 p0 a : ℕ) → a ≢ p0 → Fresh (s0 ∷ round s0 p0 a)
round-fresh s0 p0 a ne = (
  not-cons (λ e. flip-moves s0 p0 (sym e)) (not-cons (λ e. ne (flip-eq s0 a p0 (ap (λ (y : ℕ). flip y a) e ∙ flip-flip (flip s0 p0) a))) (not-cons (λ e. flip-moves s0 a (sym e)) (λ z. z))),
  (
    not-cons (λ e. flip-moves (flip s0 p0) a (sym e)) (not-cons (λ e. ne (sym (flip-eq s0 p0 a e))) (λ z. z)),
    (not-cons (λ e. flip_two s0 p0 a a (λ z. ne (sym z)) (sym e)) (λ z. z), ((λ z. z), tt)),
  ),
)

pub round-fan : {m s0 p0 k left : ℕ} {tb tp : ℕ → ℕ} {head : ℕ → List ℕ} {body : List Relay} {paths : ℕ → List Relay}
    → Round m s0 p0 k left tb tp head body paths → TwoFan m s0 p0 k tb tp paths
round-fan {m} {s0} {p0} {k} {left} {tb} {tp} {head} {body} {paths} q =
    assemble m s0 p0 k tb tp (λ j. when (ℕ_discrete j left) [] (head j)) (λ j. when (ℕ_discrete j left) (round s0 p0 (tp left)) []) (λ j. when (ℕ_discrete j left) (tp left ∷ []) [])
    paths (λ j h. leg j h (ℕ_discrete j left)) (record {
      heads = λ i j h g ne x y z. heads i j h g ne x (ℕ_discrete i left) (ℕ_discrete j left) y z;
      routes = λ i j h g ne x y z. ne (route_is i x (round s0 p0 (tp left)) (ℕ_discrete i left) y ∙ sym (route_is j x (round s0 p0 (tp left)) (ℕ_discrete j left) z));
      guarded = λ i j h g x y z. (round-fresh s0 p0 (tp left) q.other).0 (subst (λ (u : ℕ). In u (round s0 p0 (tp left))) (q.inner j g) (route_in i (tb j) (round s0 p0 (tp left)) (ℕ_discrete i left) z));
      away = λ j h x y e. let z = tail_is j x (ℕ_discrete j left) y in ((λ w. q.other (sym z ∙ w)), λ i g w. no_head i g x z (ℕ_discrete i left) w);
      tails = λ i j h g ne e x y z. ne (route_is i x (tp left ∷ []) (ℕ_discrete i left) y ∙ sym (route_is j x (tp left ∷ []) (ℕ_discrete j left) z));
    })
  where
    route_is : (j x : ℕ) (l : List ℕ) (d : Dec (j ≡ left)) → In x (when d l []) → j ≡ left
    route_is j x l (yes e) h = e
    route_is j x l (no ne) h = absurd h

    route_in : (j x : ℕ) (l : List ℕ) (d : Dec (j ≡ left)) → In x (when d l []) → In x l
    route_in j x l (yes e) h = h
    route_in j x l (no ne) h = absurd h

    tail_is : (j x : ℕ) (d : Dec (j ≡ left)) → In x (when d (tp left ∷ []) []) → x ≡ tp left
    tail_is j x (yes e) h = ⊎_elim (λ z. z) (λ z. absurd z) h
    tail_is j x (no ne) h = absurd h

    no_head : (i : ℕ) → i < k → (x : ℕ) → x ≡ tp left → (d : Dec (i ≡ left)) → In x (when d [] (head i)) → ⊥
    no_head i h x e (yes z) w = w
    no_head i h x e (no ne) w = q.heads.clear i h ne (subst (λ (y : ℕ). In y (head i)) e w)

    heads : (i j : ℕ) → i < k → j < k → i ≢ j → (x : ℕ) (d : Dec (i ≡ left)) (e : Dec (j ≡ left)) → In x (when d [] (head i)) → In x (when e [] (head j)) → ⊥
    heads i j h g ne x (yes d) e y z = y
    heads i j h g ne x (no d) (yes e) y z = z
    heads i j h g ne x (no d) (no e) y z = q.heads.apart i j h g d e ne x y z

    leg : (j : ℕ) → j < k → (d : Dec (j ≡ left)) → Leg m s0 p0 (tb j) (tp j) (when d [] (head j)) (when d (round s0 p0 (tp left)) []) (when d (tp left ∷ []) []) (paths j)
    leg j h (yes e) = record {
      leave = p0;
      last = flip s0 (tp left);
      out = tp left;
      body = body;
      path_is = ap paths e ∙ q.path-left ∙ ap (λ (y : ℕ). body ++ inside y (tp left ∷ [])) (sym (q.inner j h));
      start = refl;
      head-fresh = ((λ z. z), tt);
      route-fresh = round-fresh s0 p0 (tp left) q.other;
      crosses = q.crosses;
      lands = (q.inner j h ∙ sym (flip-flip s0 (tp left)), refl, ap tp (sym e));
      tail-fresh = ((λ z. z), tt);
      room = omega (arith, mul-le-mul_left m (pow_pos m), mul-one m);
    }
    leg j h (no ne) = record {
      leave = tp j;
      last = s0;
      out = tp j;
      body = [];
      path_is = q.path-other j h ne ∙ sym (append-nil (inside s0 (head j)));
      start = q.heads.walk j h ne;
      head-fresh = q.heads.fresh j h ne;
      route-fresh = ((λ z. z), tt);
      crosses = (refl, refl, refl);
      lands = (sym (q.inner j h), refl);
      tail-fresh = tt;
      room = omega (arith, q.heads.short j h ne);
    }

-- ---- the swap

-- a walk to t cut at x, a relay of it other than t
pub record Upto (free u t : ℕ) (l : List ℕ) (x : ℕ) (cut : List ℕ) : Type 0 where
  pub walk : Walk free u x cut
  pub fresh : Fresh (u ∷ cut)
  pub short : length cut ≤ length l
  pub part : (y : ℕ) → In y cut → In y l
  pub misses : In t cut → ⊥

pub upto : (free u t : ℕ) (l : List ℕ) (i : ℕ) → Walk free u t l → Fresh (u ∷ l) → i < length l → get_or l i 0 ≢ t → Upto free u t l (get_or l i 0) (take (suc i) l)
upto free u t [] i w f h ne = absurd (omega arith)
upto free u t (v ∷ l) zero w f h ne = record {
  walk = (w.0, w.1, w.2, refl);
  fresh = (not-cons (λ z. f.0 (inl z)) (λ z. z), ((λ z. z), tt));
  short = omega arith;
  part = λ y z. ⊎_elim inl (λ u. absurd u) z;
  misses = not-cons (λ z. ne (sym z)) (λ z. z);
}
upto free u t (v ∷ []) (suc i) w f h ne = absurd (omega arith)
upto free u t (v ∷ c ∷ l) (suc i) w f h ne =
    let r = upto free v t (c ∷ l) i w.3 f.1 (omega arith) ne in
    let part : (y : ℕ) → In y (v ∷ take (suc i) (c ∷ l)) → In y (v ∷ c ∷ l) = λ y z. ⊎_elim inl (λ q. inr (r.part y q)) z in
    record {
      walk = (w.0, w.1, w.2, r.walk);
      fresh = ((λ z. f.0 (part u z)), r.fresh);
      short = omega (arith, r.short);
      part = part;
      misses = not-cons (λ z. f.1.0 (subst (λ (y : ℕ). In y (c ∷ l)) z (walk_end free v t c (c ∷ l) l refl w.3))) r.misses;
    }

module _ (m p0 : ℕ) (tp : ℕ → ℕ) (shut : ℕ) (f : ℕ → List ℕ) (fan : Doors m (2 ^ m - 1) p0 shut (2 ^ m - 1) tp f) where
  way : (j : ℕ) → j < m → Way m (2 ^ m - 1) p0 shut (tp j) (f j)
  way j h = fan.each j (bit-full m j h)

  not_last : (j : ℕ) → j < suc m → j ≢ m → j < m
  not_last j h ne = omega arith

  -- the last is on no path
  pub heads-none : ((j : ℕ) → j < m → In (tp m) (f j) → ⊥) → Heads m p0 (suc m) m tp f
  heads-none n = record {
    walk = λ j h ne. (way j (not_last j h ne)).walk;
    fresh = λ j h ne. let w = way j (not_last j h ne) in (w.away, w.fresh);
    short = λ j h ne. (way j (not_last j h ne)).short;
    apart = λ i j h g a b. fan.apart i j (bit-full m i (not_last i h a)) (bit-full m j (not_last j g b));
    clear = λ j h ne. n j (not_last j h ne);
  }

  -- it is on that of y: that path is cut there, and y is left
  pub heads-swapped : (y : ℕ) → y < m → (cut : List ℕ) → Upto (2 ^ m - 1) p0 (tp y) (f y) (tp m) cut → Heads m p0 (suc m) y tp (λ j. when (ℕ_discrete j m) cut (f j))
  heads-swapped y hy cut c = record {
    walk = λ j h ne. walk j h (ℕ_discrete j m);
    fresh = λ j h ne. fresh j h (ℕ_discrete j m);
    short = λ j h ne. short j h (ℕ_discrete j m);
    apart = λ i j h g a b ne x p q. apart i j h g a b ne x (ℕ_discrete i m) (ℕ_discrete j m) p q;
    clear = λ j h ne. clear j h ne (ℕ_discrete j m);
  }
    where
      walk : (j : ℕ) → j < suc m → (d : Dec (j ≡ m)) → Walk (2 ^ m - 1) p0 (tp j) (when d cut (f j))
      walk j h (yes e) = subst (λ (u : ℕ). Walk (2 ^ m - 1) p0 u cut) (ap tp (sym e)) c.walk
      walk j h (no z) = (way j (not_last j h z)).walk

      fresh : (j : ℕ) → j < suc m → (d : Dec (j ≡ m)) → Fresh (p0 ∷ when d cut (f j))
      fresh j h (yes e) = c.fresh
      fresh j h (no z) = let w = way j (not_last j h z) in (w.away, w.fresh)

      short : (j : ℕ) → j < suc m → (d : Dec (j ≡ m)) → length (when d cut (f j)) ≤ m + 1
      short j h (yes e) = omega (arith, c.short, (way y hy).short)
      short j h (no z) = (way j (not_last j h z)).short

      clear : (j : ℕ) → j < suc m → j ≢ y → (d : Dec (j ≡ m)) → In (tp y) (when d cut (f j)) → ⊥
      clear j h ne (yes e) q = c.misses q
      clear j h ne (no z) q = fan.apart j y (bit-full m j (not_last j h z)) (bit-full m y hy) ne (tp y) q (way_end (way y hy))

      apart : (i j : ℕ) → i < suc m → j < suc m → i ≢ y → j ≢ y → i ≢ j → (x : ℕ) → (d : Dec (i ≡ m)) (e : Dec (j ≡ m)) → In x (when d cut (f i)) → In x (when e cut (f j)) → ⊥
      apart i j h g a b ne x (yes d) (yes e) p q = ne (d ∙ sym e)
      apart i j h g a b ne x (yes d) (no e) p q = fan.apart y j (bit-full m y hy) (bit-full m j (not_last j g e)) (λ z. b (sym z)) x (c.part x p) q
      apart i j h g a b ne x (no d) (yes e) p q = fan.apart i y (bit-full m i (not_last i h d)) (bit-full m y hy) a x p (c.part x q)
      apart i j h g a b ne x (no d) (no e) p q = fan.apart i j (bit-full m i (not_last i h d)) (bit-full m j (not_last j g e)) ne x p q

-- the round trip by walks in its three blocks
pub round_crosses : (m s0 p0 a : ℕ) (x y z : List ℕ) → Stroll m p0 a x → Stroll m a p0 y → Stroll m p0 a z
    → Crosses m s0 p0 (flip s0 a) a (round s0 p0 a) (inside (flip s0 p0) (p0 ∷ x) ++ (inside (flip (flip s0 p0) a) (a ∷ y) ++ (inside (flip s0 a) (p0 ∷ z) ++ [])))
round_crosses m s0 p0 a x y z sx sy sz =
    let last = inside (flip s0 a) (p0 ∷ z) ++ [] in
    let mid = inside (flip (flip s0 p0) a) (a ∷ y) ++ last in
    let back : flip s0 a ≡ flip (flip (flip s0 p0) a) p0 = sym (flip_comm (flip s0 p0) a p0 ∙ ap (λ (u : ℕ). flip u a) (flip-flip s0 p0)) in
    (a, x, mid, refl, sx, (p0, y, last, refl, sy, (a, z, [], back, sz, (refl, refl, refl), refl), refl), refl)
