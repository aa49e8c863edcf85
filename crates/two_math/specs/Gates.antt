-- Gates: each other target excludes at most one of the m + 1 slots that are p or neighbour it, so one is left (`gate-found`). Assumes nothing.
use Rattle.std.specs.Prelude.{ℕ, zero, suc, ◌+◌, ◌-◌, ◌^◌, ◌≤◌, ◌<◌, ◌≡◌, refl, ◌⊎◌, ◌≢◌}
use Rattle.std.proofs.Common.{sym, ap, ◌∙◌, subst, inl, inr, ⊎_elim, arith}
use Rattle.std.proofs.Math.Decide.{ℕ_discrete}
use Rattle.std.specs.Int.Count.{ones-ones}
use Rattle.bits.specs.Bit.{bit, flip}
use Rattle.bits.specs.Laws.{bit-cases, clash, lt-or, flip-other, flip-flip, ones_clear, same_or, flip_turns, flip-moves, flip-eq}
use Rattle.cube_math.specs.Masks.{left_over, ones_mono}
use Rattle.cube_math.specs.Plain.{bit-full, full-below}
use Rattle.cube_math.specs.Choose.{choose, gather}

-- the sum of two different powers of two is none
pub flip_two : (b x y r : ℕ) → x ≢ y → flip b y ≡ flip (flip b x) r → ⊥
flip_two b x y r ne e =
    ⊎_elim (λ z. flip-moves b y (e ∙ ap (flip (flip b x)) (sym z) ∙ flip-flip b x))
    (λ z. flip_turns b x (sym (flip-other (flip b x) r x z) ∙ sym (ap (bit x) e) ∙ flip-other b y x ne)) (same_or x r)

-- q is p, or a neighbour of it in the block
abbrev pub Near : ℕ → ℕ → ℕ → Type 0
Near m p q = (q ≡ p) ⊎ ((h : ℕ) × (h < m) × (q ≡ flip p h))

-- the candidate c ≤ m: p comes last
abbrev after : {A : Type 0} → Dec A → ℕ → ℕ → ℕ
after (yes e) a b = a
after (no ne) a b = b

pub cand : ℕ → ℕ → ℕ → ℕ
cand m p c = after (ℕ_discrete c m) p (flip p c)

pub cand-last : (m p c : ℕ) → c ≡ m → cand m p c ≡ p
unfolding cand
cand-last m p c e = by (ℕ_discrete c m)
  where
    by : (d : Dec (c ≡ m)) → after d p (flip p c) ≡ p
    by (yes e) = refl
    by (no ne) = absurd (ne e)

pub cand-other : (m p c : ℕ) → c ≢ m → cand m p c ≡ flip p c
unfolding cand
cand-other m p c ne = by (ℕ_discrete c m)
  where
    by : (d : Dec (c ≡ m)) → after d p (flip p c) ≡ flip p c
    by (yes e) = absurd (ne e)
    by (no z) = refl

pub cand-near : (m p c : ℕ) → c < suc m → Near m p (cand m p c)
cand-near m p c h = ⊎_elim (λ e. inl (cand-last m p c e)) (λ ne. inr (c, omega arith, cand-other m p c ne)) (same_or c m)

pub cand-same : (m p c d : ℕ) → cand m p c ≡ cand m p d → c ≡ d
cand-same m p c d e =
    ⊎_elim (λ x. ⊎_elim (λ y. x ∙ sym y) (λ y. absurd (flip-moves p d (sym (cand-other m p d y) ∙ sym e ∙ cand-last m p c x))) (same_or d m))
    (λ x. ⊎_elim (λ y. absurd (flip-moves p c (sym (cand-other m p c x) ∙ e ∙ cand-last m p d y)))
    (λ y. flip-eq p c d (sym (cand-other m p c x) ∙ e ∙ cand-other m p d y)) (same_or d m)) (same_or c m)

-- search among the numbers below n
pub find : (A : ℕ → Type 0) → ((c : ℕ) → A c ⊎ (A c → ⊥)) → (n : ℕ) → ((c : ℕ) × (c < n) × A c) ⊎ ((c : ℕ) → c < n → A c → ⊥)
find A dec zero = inr (λ c h. absurd (omega arith))
find A dec (suc n) = ⊎_elim (λ x. inl (x.0, omega (arith, x.1), x.2))
    (λ none. ⊎_elim (λ a. inl (n, omega arith, a)) (λ no-n. inr (λ c h a. ⊎_elim (λ l. none c l a)
    (λ r. ⊎_elim (λ e. no-n (subst A e a)) (λ l. absurd (omega arith)) r) (lt-or c n))) (dec n)) (find A dec n)

module _ (m s0 k : ℕ) (tb tp : ℕ → ℕ) (done : ℕ) (gate : ℕ → ℕ) where
  -- the slot q serves as the gate of j, beside the gates of the targets `done`
  pub record Passes (j q : ℕ) : Type 0 where
    pub outer : tb j ≢ s0
    pub near : Near m (tp j) q
    pub holds_none : (i : ℕ) → i < k → flip (tb j) q ≢ tb i
    pub free : (i : ℕ) → i < k → i ≢ j → tb i ≡ tb j → q ≢ tp i
    pub shy : (i : ℕ) → i < k → tb i ≡ s0 → flip (tb j) q ≢ flip s0 (tp i)
    pub own : (i : ℕ) → i < k → i ≢ j → bit i done ≡ 1 → flip (tb j) q ≢ flip (tb i) (gate i)

  -- what of it the target i denies
  abbrev pub Denies : ℕ → ℕ → ℕ → Type 0
  Denies j i q =
      (flip (tb j) q ≡ tb i) ⊎ (((tb i ≡ tb j) × (q ≡ tp i)) ⊎ (((tb i ≡ s0) × (flip (tb j) q ≡ flip s0 (tp i))) ⊎ ((bit i done ≡ 1) × (flip (tb j) q ≡ flip (tb i) (gate i)))))

  pub denies? : (j i q : ℕ) → Denies j i q ⊎ (Denies j i q → ⊥)
  denies? j i q = either (same_or (flip (tb j) q) (tb i)) (either (both (same_or (tb i) (tb j)) (same_or q (tp i)))
      (either (both (same_or (tb i) s0) (same_or (flip (tb j) q) (flip s0 (tp i)))) (both (same_or (bit i done) 1) (same_or (flip (tb j) q) (flip (tb i) (gate i))))))
    where
      both : {A B : Type 0} → A ⊎ (A → ⊥) → B ⊎ (B → ⊥) → (A × B) ⊎ (A × B → ⊥)
      both (inl a) (inl b) = inl (a, b)
      both (inl a) (inr b) = inr (λ z. b z.1)
      both (inr a) b = inr (λ z. a z.0)

      either : {A B : Type 0} → A ⊎ (A → ⊥) → B ⊎ (B → ⊥) → (A ⊎ B) ⊎ (A ⊎ B → ⊥)
      either (inl a) b = inl (inl a)
      either (inr a) (inl b) = inl (inr b)
      either (inr a) (inr b) = inr (λ z. ⊎_elim a b z)

  -- no other target denies it: it serves
  pub passes_when : (j q : ℕ) → tb j ≢ s0 → Near m (tp j) q → ((i : ℕ) → i < k → i ≢ j → Denies j i q → ⊥) → Passes j q
  passes_when j q outer near clear = record {
    outer = outer;
    near = near;
    holds_none = λ i h e. ⊎_elim (λ z. flip-moves (tb j) q (e ∙ ap tb z)) (λ ne. clear i h ne (inl e)) (same_or i j);
    free = λ i h ne e z. clear i h ne (inr (inl (e, z)));
    shy = λ i h e z. clear i h (λ y. outer (ap tb (sym y) ∙ e)) (inr (inr (inl (e, z))));
    own = λ i h ne o z. clear i h ne (inr (inr (inr (o, z))));
  }

  pub passes_then : (j q : ℕ) → Passes j q → (i : ℕ) → i < k → i ≢ j → Denies j i q → ⊥
  passes_then j q p i h ne (inl e) = p.holds_none i h e
  passes_then j q p i h ne (inr (inl (e, z))) = p.free i h ne e z
  passes_then j q p i h ne (inr (inr (inl (e, z)))) = p.shy i h e z
  passes_then j q p i h ne (inr (inr (inr (o, z)))) = p.own i h ne o z

  module _ (few : k ≤ m + 1) (differ : (i j : ℕ) → i < k → j < k → i ≢ j → tb i ≡ tb j → tp i ≢ tp j)
      (before : (i : ℕ) → i < k → bit i done ≡ 1 → Passes i (gate i)) (j : ℕ) (lt : j < k) (outer : tb j ≢ s0) where
    -- one target denies at most one slot
    one_only : (i : ℕ) → i < k → i ≢ j → (q r : ℕ) → Near m (tp j) q → Near m (tp j) r → Denies j i q → Denies j i r → q ≡ r
    one_only i h ne q r nq nr a b = ⊎_elim (λ e. e) (λ z. absurd (two z a b)) (same_or q r)
      where
        far : {x y : ℕ} → x ≢ y → y ≢ x
        far n e = n (sym e)

        -- in the same block: its gate and itself
        beside : (q r : ℕ) → q ≢ r → Near m (tp j) q → Near m (tp j) r → tb i ≡ tb j → q ≡ tp i → bit i done ≡ 1 → flip (tb j) r ≡ flip (tb i) (gate i) → ⊥
        beside q r ne' nq nr e s o f =
            let g : r ≡ gate i = flip-eq (tb j) r (gate i) (f ∙ ap (λ (y : ℕ). flip y (gate i)) e) in
            third nq nr s g (before i h o).near
          where
            third : Near m (tp j) q → Near m (tp j) r → q ≡ tp i → r ≡ gate i → Near m (tp i) (gate i) → ⊥
            third a b s g (inl z) = ne' (s ∙ sym z ∙ sym g)
            third (inl a) b s g (inr z) = differ i j h lt ne e (sym s ∙ a)
            third (inr a) (inl b) s g (inr z) = (before i h o).free j lt (far ne) (sym e) (sym g ∙ b)
            third (inr a) (inr b) s g (inr z) =
                flip_two (tp j) a.0 b.0 z.0 (λ y. ne' (a.2 ∙ ap (flip (tp j)) y ∙ sym b.2))
                (sym b.2 ∙ g ∙ z.2 ∙ ap (λ (y : ℕ). flip y z.0) (sym s ∙ a.2))

        -- a gate block and a target's block, or that and one beside it
        apart : (q r t : ℕ) → q ≢ r → flip (tb j) q ≡ tb i → flip (tb j) r ≡ flip (tb i) t → ⊥
        apart q r t z a b = flip_two (tb j) q r t z (b ∙ ap (λ (y : ℕ). flip y t) (sym a))

        here : (q : ℕ) → flip (tb j) q ≡ tb i → tb i ≡ tb j → ⊥
        here q a e = flip-moves (tb j) q (a ∙ e)

        as_inner : (r : ℕ) → tb i ≡ s0 → flip (tb j) r ≡ flip s0 (tp i) → flip (tb j) r ≡ flip (tb i) (tp i)
        as_inner r e f = f ∙ ap (λ (y : ℕ). flip y (tp i)) (sym e)

        two : q ≢ r → Denies j i q → Denies j i r → ⊥
        two z (inl a) (inl b) = z (flip-eq (tb j) q r (a ∙ sym b))
        two z (inl a) (inr (inl b)) = here q a b.0
        two z (inl a) (inr (inr (inl b))) = apart q r (tp i) z a (as_inner r b.0 b.1)
        two z (inl a) (inr (inr (inr b))) = apart q r (gate i) z a b.1
        two z (inr (inl a)) (inl b) = here r b a.0
        two z (inr (inl a)) (inr (inl b)) = z (a.1 ∙ sym b.1)
        two z (inr (inl a)) (inr (inr (inl b))) = outer (sym a.0 ∙ b.0)
        two z (inr (inl a)) (inr (inr (inr b))) = beside q r z nq nr a.0 a.1 b.0 b.1
        two z (inr (inr (inl a))) (inl b) = apart r q (tp i) (far z) b (as_inner q a.0 a.1)
        two z (inr (inr (inl a))) (inr (inl b)) = outer (sym b.0 ∙ a.0)
        two z (inr (inr (inl a))) (inr (inr (inl b))) = z (flip-eq (tb j) q r (a.1 ∙ sym b.1))
        two z (inr (inr (inl a))) (inr (inr (inr b))) = (before i h b.0).outer a.0
        two z (inr (inr (inr a))) (inl b) = apart r q (gate i) (far z) b a.1
        two z (inr (inr (inr a))) (inr (inl b)) = beside r q (far z) nr nq b.0 b.1 a.0 a.1
        two z (inr (inr (inr a))) (inr (inr (inl b))) = (before i h a.0).outer b.0
        two z (inr (inr (inr a))) (inr (inr (inr b))) = z (flip-eq (tb j) q r (a.1 ∙ sym b.1))

    -- so of the m + 1 candidates one is left
    pub gate-found : (c : ℕ) × (c < suc m) × Passes j (cand m (tp j) c)
    gate-found =
        let R : ℕ → ℕ → Type 0 = λ i c. (c < suc m) × Denies j i (cand m (tp j) c) in
        let others : ℕ = flip (2 ^ k - 1) j in
        let on : bit j (2 ^ k - 1) ≡ 1 = bit-full k j lt in
        let s = choose (λ i. (c : ℕ) × R i c) (λ i. (c : ℕ) → c < suc m → Denies j i (cand m (tp j) c) → ⊥)
        (λ i. ⊎_elim (λ x. inl (x.0, (x.1, x.2))) (λ none. inr none) (find (λ c. Denies j i (cand m (tp j) c)) (λ c. denies? j i (cand m (tp j) c)) (suc m))) others in
        let g = gather R s.0 (λ i o. s.1.holds i o) in
        let x = left_over (2 ^ suc m - 1) g.0 (omega (arith, g.1.few, ones_mono s.0 others s.1.sub, ones_clear j (2 ^ k - 1) on, ones-ones k, ones-ones (suc m))) in
        let c : ℕ = x.0 in
        let below : c < suc m = full-below (suc m) c x.1 in
        let clear : (i : ℕ) → i < k → i ≢ j → Denies j i (cand m (tp j) c) → ⊥ = λ i h ne d.
        let o : bit i others ≡ 1 = flip-other (2 ^ k - 1) j i ne ∙ bit-full k i h in
        ⊎_elim (λ z. s.1.fails i o z c below d)
        (λ z. let u = g.1.uses i z in
        clash x.2 (subst (λ (y : ℕ). bit y g.0 ≡ 1)
        (cand-same m (tp j) u.0 c (one_only i h ne (cand m (tp j) u.0) (cand m (tp j) c) (cand-near m (tp j) u.0 u.1.0) (cand-near m (tp j) c below) u.1.1 d)) u.2))
        (bit-cases i s.0) in (
          c,
          below,
          passes_when j (cand m (tp j) c) outer (cand-near m (tp j) c below) clear,
        )

-- ---- all of them, one after the other

-- every member of `done` has its gate
abbrev pub Gates : (m s0 k : ℕ) (tb tp : ℕ → ℕ) (done : ℕ) (gate : ℕ → ℕ) → Type 0
Gates m s0 k tb tp done gate = (j : ℕ) → j < k → bit j done ≡ 1 → Passes m s0 k tb tp done gate j (gate j)

-- one more: `more` is `done` and j
pub gates_more : (m s0 k : ℕ) (tb tp : ℕ → ℕ) (done more j q : ℕ) (gate new : ℕ → ℕ) → Gates m s0 k tb tp done gate → j < k
    → ((i : ℕ) → bit i more ≡ 1 → i ≢ j → bit i done ≡ 1) → new j ≡ q → ((i : ℕ) → i ≢ j → new i ≡ gate i)
    → Passes m s0 k tb tp done gate j q → Gates m s0 k tb tp more new
gates_more m s0 k tb tp done more j q gate new g lt only at_j else p i h o = ⊎_elim last earlier (same_or i j)
  where
    last : i ≡ j → Passes m s0 k tb tp more new i (new i)
    last e = subst (λ (y : ℕ). Passes m s0 k tb tp more new y (new y)) (sym e) (subst (λ (y : ℕ). Passes m s0 k tb tp more new j y) (sym at_j) (record {
      outer = p.outer;
      near = p.near;
      holds_none = p.holds_none;
      free = p.free;
      shy = p.shy;
      own = λ l b ne u z. p.own l b ne (only l u ne) (z ∙ ap (flip (tb l)) (else l ne));
    }))

    earlier : i ≢ j → Passes m s0 k tb tp more new i (new i)
    earlier ne =
        let a = g i h (only i o ne) in
        subst (λ (y : ℕ). Passes m s0 k tb tp more new i y) (sym (else i ne)) (record {
          outer = a.outer;
          near = a.near;
          holds_none = a.holds_none;
          free = a.free;
          shy = a.shy;
          own = λ l b nl u z. ⊎_elim
              (λ e. p.own i h ne (only i o ne) (ap (flip (tb j)) (sym at_j) ∙ ap (λ (y : ℕ). flip (tb y) (new y)) (sym e) ∙ sym z))
              (λ nj. a.own l b nl (only l u nj) (z ∙ ap (flip (tb l)) (else l nj))) (same_or l j);
        })
