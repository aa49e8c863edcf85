-- The path through the door p0, if it ends in a crowd, is taken over by a target of that crowd (`met`, `met_gate`). Assumes nothing.
use Rattle.std.specs.Prelude.{ℕ, ◌+◌, ◌-◌, ◌^◌, ◌≤◌, ◌<◌, ◌≡◌, refl, ◌⊎◌, ◌≢◌, List, [], ◌∷◌, ◌++◌, length}
use Rattle.std.proofs.Common.{sym, ap, ◌∙◌, subst, inl, inr, ⊎_elim, arith, length-append}
use Rattle.bits.specs.Bit.{bit, flip}
use Rattle.bits.specs.Laws.{flip-flip, same_or}
use Rattle.cube_math.specs.Doors.{In, Fresh, Walk, Doors}
use Rattle.cube_math.specs.Paths.{not-cons}
use Rattle.cube_math.specs.Plain.{bit-full}
use Rattle.two_math.specs.Relays.{Relay, in_append, walk_more, fresh-more}
use Rattle.two_math.specs.Through.{Crosses}
use Rattle.two_math.specs.Plan.{Taken}
use Rattle.two_math.specs.Gates.{Near}

-- a walk cut at the first relay of which A holds
pub record Cut (A : ℕ → Type 0) (free u : ℕ) (l : List ℕ) (x : ℕ) (cut : List ℕ) : Type 0 where
  pub walk : Walk free u x cut
  pub fresh : Fresh (u ∷ cut)
  pub short : length cut ≤ length l
  pub part : (y : ℕ) → In y cut → In y l
  pub hit : A x
  pub before : (y : ℕ) → In y (u ∷ cut) → y ≢ x → A y → ⊥

pub first-hit : (A : ℕ → Type 0) → ((x : ℕ) → A x ⊎ (A x → ⊥)) → (free u t : ℕ) (l : List ℕ) → Walk free u t l → Fresh (u ∷ l) → A t
    → (x : ℕ) × (cut : List ℕ) × Cut A free u l x cut
first-hit A dec free u t [] w f a = (
  u,
  [],
  record {
    walk = refl;
    fresh = f;
    short = omega arith;
    part = λ y h. h;
    hit = subst A (sym w) a;
    before = λ y h ne. absurd (not-cons ne (λ z. z) h);
  },
)
first-hit A dec free u t (v ∷ l) w f a = by (first-hit A dec free v t l w.3 f.1 a) (dec u)
  where
    by : (x : ℕ) × (cut : List ℕ) × Cut A free v l x cut → A u ⊎ (A u → ⊥) → (x : ℕ) × (cut : List ℕ) × Cut A free u (v ∷ l) x cut
    by r (inl d) = (
      u,
      [],
      record {
        walk = refl;
        fresh = ((λ z. z), tt);
        short = omega arith;
        part = λ y h. absurd h;
        hit = d;
        before = λ y h ne. absurd (not-cons ne (λ z. z) h);
      },
    )
    by r (inr none) =
        let part : (y : ℕ) → In y (v ∷ r.1) → In y (v ∷ l) = λ y h. ⊎_elim inl (λ z. inr (r.2.part y z)) h in (
          r.0,
          v ∷ r.1,
          record {
            walk = (w.0, w.1, w.2, r.2.walk);
            fresh = ((λ h. f.0 (part u h)), r.2.fresh);
            short = omega (arith, r.2.short);
            part = part;
            hit = r.2.hit;
            before = λ y h ne d. ⊎_elim (λ e. none (subst A e d)) (λ z. r.2.before y z ne d) h;
          },
        )

module _ (m s0 p0 k : ℕ) (tb tp : ℕ → ℕ) (gated rows : ℕ) (gate ends : ℕ → ℕ) (hops : ℕ → List ℕ) (shut : ℕ)
    (differ : (i j : ℕ) → i < k → j < k → i ≢ j → tb i ≡ tb j → tp i ≢ tp j)
    (fan : Doors (2 ^ m) (2 ^ (2 ^ m) - 1) s0 shut rows ends hops)
    (free : (j : ℕ) → j < k → bit j gated ≡ 1 → (i : ℕ) → i < k → i ≢ j → tb i ≡ tb j → gate j ≢ tp i)
    (own : (j : ℕ) → j < k → bit j gated ≡ 1 → (i : ℕ) → i < k → i ≢ j → bit i gated ≡ 1 → flip (tb j) (gate j) ≢ flip (tb i) (gate i))
    (near : (j : ℕ) → j < k → bit j gated ≡ 1 → Near m (tp j) (gate j))
    (slots : (j : ℕ) → j < k → tp j < 2 ^ m) where
  -- a gated target of b has its slot or its gate slot at x
  abbrev pub Hit : ℕ → ℕ → Type 0
  Hit b x = (i : ℕ) × (i < k) × ((bit i gated ≡ 1) × (tb i ≡ b) × ((x ≡ gate i) ⊎ (x ≡ tp i)))

  -- what a target t of b, whose slot or gate slot is met first, at x, has then
  module _ (c r : ℕ) (o : bit c rows ≡ 1) (e : ends c ≡ tb r) (enter : ℕ) (route : List ℕ) (body : List Relay) (splits : hops c ≡ route ++ (ends c ∷ []))
      (cross : Crosses m s0 p0 (flip (ends c) enter) enter route body) (st : List ℕ) (st-short : length st ≤ m) (x : ℕ) (cut : List ℕ)
      (q : Cut (Hit (tb r)) (2 ^ m - 1) enter st x cut) (t : ℕ) (ht : t < k) (gt : bit t gated ≡ 1) (bt : tb t ≡ tb r) (at : (x ≡ gate t) ⊎ (x ≡ tp t)) where
    -- what stands on its tail
    abbrev Kind : ℕ → Type 0
    Kind y = (y ≡ gate t) ⊎ ((y ≡ tp t) ⊎ (Hit (tb r) y → ⊥))

    kind : (y : ℕ) → In y (enter ∷ cut) → Kind y
    kind y h = ⊎_elim (λ z. ⊎_elim (λ w. inl (z ∙ w)) (λ w. inr (inl (z ∙ w))) at) (λ ne. inr (inr (q.before y h ne))) (same_or y x)

    spares : (y : ℕ) → Kind y → (i : ℕ) → i < k → i ≢ t → bit i gated ≡ 1 → tb i ≡ tb t → (y ≢ gate i) × (y ≢ tp i)
    spares y (inl z) i h ne g b =
        ((λ w. own t ht gt i h ne g (ap (λ (u : ℕ). flip u (gate t)) (sym b) ∙ ap (flip (tb i)) (sym z ∙ w))), (λ w. free t ht gt i h ne b (sym z ∙ w)))
    spares y (inr (inl z)) i h ne g b = ((λ w. free i h g t ht (λ u. ne (sym u)) (sym b) (sym w ∙ z)), (λ w. differ i t h ht ne b (sym w ∙ z)))
    spares y (inr (inr z)) i h ne g b = ((λ w. z (i, h, (g, b ∙ bt, inl w))), (λ w. z (i, h, (g, b ∙ bt, inr w))))

    follows : hops c ≡ route ++ (tb t ∷ [])
    follows = splits ∙ ap (λ (y : ℕ). route ++ (y ∷ [])) (e ∙ sym bt)

    crosses : Crosses m s0 p0 (flip (tb t) enter) enter route body
    crosses = subst (λ (y : ℕ). Crosses m s0 p0 (flip y enter) enter route body) (e ∙ sym bt) cross

    abbrev EndsWith : List ℕ → Type 0
    EndsWith tail = Taken m s0 p0 k tb tp gated rows t gate ends hops t p0 c route tail body

    -- it is met itself
    pub met : x ≡ tp t → EndsWith (enter ∷ cut)
    met z = record {
      mine = refl;
      member = o;
      end = e ∙ sym bt;
      follows = follows;
      leaves = refl;
      enter = enter;
      crosses = crosses;
      rest = cut;
      tail_is = refl;
      walk = subst (λ (y : ℕ). Walk (2 ^ m - 1) enter y cut) z q.walk;
      fresh = q.fresh;
      short = omega (arith, q.short);
      clear = λ y h. spares y (kind y h);
    }

    -- its gate slot is met, a step before it
    pub met_gate : x ≢ tp t → (h : ℕ) → h < m → gate t ≡ flip (tp t) h → EndsWith (enter ∷ (cut ++ (tp t ∷ [])))
    met_gate ne h l g =
        let gx : x ≡ gate t = ⊎_elim (λ z. z) (λ z. absurd (ne z)) at in
        let size : length (cut ++ (tp t ∷ [])) ≡ length cut + 1 = length-append cut (tp t ∷ []) in
        record {
          mine = refl;
          member = o;
          end = e ∙ sym bt;
          follows = follows;
          leaves = refl;
          enter = enter;
          crosses = crosses;
          rest = cut ++ (tp t ∷ []);
          tail_is = refl;
          walk = walk_more (2 ^ m - 1) enter x (tp t) cut h q.walk (bit-full m h l) (sym (ap (λ (y : ℕ). flip y h) (gx ∙ g) ∙ flip-flip (tp t) h));
          fresh = fresh-more (enter ∷ cut) (tp t) q.fresh (λ z. q.before (tp t) z (λ w. ne (sym w)) (t, ht, (gt, bt, inr refl)));
          short = omega (arith, q.short);
          clear = λ y z. spares y (⊎_elim (kind y) (λ w. last y w) (in_append y (enter ∷ cut) (tp t ∷ []) z));
        }
      where
        last : (y : ℕ) → In y (tp t ∷ []) → Kind y
        last y (inl z) = inr (inl z)
        last y (inr z) = absurd z

    pub ends_with : (tail : List ℕ) × EndsWith tail
    ends_with = ⊎_elim (λ z. (enter ∷ cut, met z)) (λ ne. by ne (near t ht gt)) (same_or x (tp t))
      where
        by : x ≢ tp t → Near m (tp t) (gate t) → (tail : List ℕ) × EndsWith tail
        by ne (inl z) = absurd (⊎_elim (λ w. ne (w ∙ z)) ne at)
        by ne (inr z) = (enter ∷ (cut ++ (tp t ∷ [])), met_gate ne z.0 z.1 z.2)
