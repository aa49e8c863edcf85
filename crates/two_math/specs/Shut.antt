-- The doors that are shut for the block paths, what the cube fan of blocks may be asked, and who leaves by p0. Assumes nothing.
use Rattle.std.specs.Prelude.{ℕ, ◌+◌, ◌-◌, ◌^◌, ◌<◌, ◌≡◌, refl, ◌⊎◌, ◌≢◌, List, ◌∷◌}
use Rattle.std.proofs.Common.{sym, ap, ◌∙◌, subst, inl, inr, ⊎_elim, arith}
use Rattle.std.specs.Int.Count.{ones, ones-ones}
use Rattle.bits.specs.Bit.{bit, flip}
use Rattle.bits.specs.Laws.{bit-cases, bit-none, clash, lt-or-le, flip-same, flip-other, flip-lt, ones_clear, ones_none}
use Rattle.cube_math.specs.Doors.{Doors}
use Rattle.cube_math.specs.Paths.{off_on}
use Rattle.cube_math.specs.Masks.{left_over}
use Rattle.cube_math.specs.Plain.{bit-full, full-below, bit_high}
use Rattle.cube_math.specs.Choose.{cleared}
use Rattle.cube_math.specs.First.{first-all}
use Rattle.cube_math.specs.Request.{Request}
use Rattle.two_math.specs.Gates.{Near, Gates}
use Rattle.two_math.specs.Sort.{Ask, Shared, Behind, behind?, Sorts, mates_gated, Keeps, Ends}
use Rattle.two_math.specs.Plan.{Gate, Guard}

-- as many doors are open as there are block paths, no kept door, and p0 among them unless it is kept
pub record Shuts (m p0 keep rows shut : ℕ) : Type 0 where
  pub within : (a : ℕ) → bit a shut ≡ 1 → a < 2 ^ m
  pub keeps : (a : ℕ) → bit a keep ≡ 1 → bit a shut ≡ 1
  pub count : ones rows + ones shut ≡ 2 ^ m
  pub ajar : rows ≢ 0 → bit p0 keep ≡ 0 → bit p0 shut ≡ 0

-- n doors of N opened so far
pub record Opening (N p0 keep n shut : ℕ) : Type 0 where
  pub within : (a : ℕ) → bit a shut ≡ 1 → a < N
  pub keeps : (a : ℕ) → bit a keep ≡ 1 → bit a shut ≡ 1
  pub count : n + ones shut ≡ N
  pub ajar : n ≢ 0 → bit p0 keep ≡ 0 → bit p0 shut ≡ 0

pub opening-none : (N p0 keep : ℕ) → ((a : ℕ) → bit a keep ≡ 1 → a < N) → Opening N p0 keep 0 (2 ^ N - 1)
opening-none N p0 keep below = record {
  within = full-below N;
  keeps = λ a o. bit-full N a (below a o);
  count = omega (arith, ones-ones N);
  ajar = λ z. absurd (z refl);
}

-- one more, x: p0 first, unless it is kept
pub opening-more : {N p0 keep n shut : ℕ} (x : ℕ) → Opening N p0 keep n shut → bit x shut ≡ 1 → bit x keep ≡ 0 → (n ≢ 0) ⊎ ((x ≡ p0) ⊎ (bit p0 keep ≡ 1)) → Opening N p0 keep (n + 1) (flip shut x)
opening-more {N} {p0} {keep} {n} {shut} x k o z why = record {
  within = λ a q. k.within a (cleared shut x o a q).0;
  keeps = λ a q. flip-other shut x a (λ e. off_on x a keep z q (sym e)) ∙ k.keeps a q;
  count = omega (arith, k.count, ones_clear x shut o);
  ajar = λ ne p. by p why;
}
  where
    by : bit p0 keep ≡ 0 → (n ≢ 0) ⊎ ((x ≡ p0) ⊎ (bit p0 keep ≡ 1)) → bit p0 (flip shut x) ≡ 0
    by p (inl ne) = let y = k.ajar ne p in flip-other shut x p0 (off_on p0 x shut y o) ∙ y
    by p (inr (inl e)) = ap (λ (y : ℕ). bit y (flip shut x)) (sym e) ∙ flip-same shut x ∙ ap (λ (y : ℕ). 1 - y) o
    by p (inr (inr q)) = absurd (clash p q)

-- there is one more to open
pub opening-left : {N p0 keep n shut : ℕ} → Opening N p0 keep n shut → n + ones keep < N → (x : ℕ) × (bit x shut ≡ 1) × (bit x keep ≡ 0)
opening-left {N} {p0} {keep} {n} {shut} k h = left_over shut keep (omega (arith, k.count))

module _ {m s0 p0 k : ℕ} {tb tp : ℕ → ℕ} {inner kept gated : ℕ} {gate : ℕ → ℕ} {straight keep base singles reps rows : ℕ} {ends : ℕ → ℕ}
    (ask : Ask m s0 p0 k tb tp) (sort : Sorts s0 k tb tp inner kept gated) (gates : Gates m s0 k tb tp gated gate)
    (keep-is : Keeps s0 tb kept gated gate straight keep) (end_is : Ends s0 k tb inner gated gate straight keep base singles reps rows ends) where
  pub gate-below : (j : ℕ) → j < k → bit j gated ≡ 1 → gate j < 2 ^ m
  gate-below j h o = by (gates j h o).near
    where
      by : Near m (tp j) (gate j) → gate j < 2 ^ m
      by (inl e) = subst (λ (y : ℕ). y < 2 ^ m) (sym e) (ask.slots j h)
      by (inr e) = subst (λ (y : ℕ). y < 2 ^ m) (sym e.2) (flip-lt m (tp j) e.0 (ask.slots j h) e.1)

  gated_below : (j : ℕ) → bit j gated ≡ 1 → j < k
  gated_below j o = (sort.gated_on j o).0

  pub keep-below : (a : ℕ) → bit a keep ≡ 1 → a < 2 ^ m
  keep-below a o = ⊎_elim
      (λ p. let f = sort.kept_from a p in subst (λ (y : ℕ). y < 2 ^ m) f.2 (ask.slots f.0 (sort.inner_on f.0 f.1).0))
      (λ f. let g = (keep-is.straight_on f.0 f.1).0 in subst (λ (y : ℕ). y < 2 ^ m) f.2 (gate-below f.0 (gated_below f.0 g) g))
      (keep-is.keep-from a o)

  pub shuts_when : {shut : ℕ} → Opening (2 ^ m) p0 keep (ones rows) shut → Shuts m p0 keep rows shut
  shuts_when k = record { within = k.within; keeps = k.keeps; count = k.count; ajar = λ ne. k.ajar (λ z. ne (ones_none rows z)) }

  -- whose end the row x is
  abbrev Kind : ℕ → Type 0
  Kind x = ((bit x singles ≡ 1) × (bit x gated ≡ 0)) ⊎ (((bit x singles ≡ 1) × (bit x gated ≡ 1)) ⊎ ((r : ℕ) × (bit r reps ≡ 1) × (x ≡ base + r)))

  kind : (x : ℕ) → bit x rows ≡ 1 → Kind x
  kind x o = ⊎_elim (λ s. ⊎_elim (λ z. inl (s, z)) (λ z. inr (inl (s, z))) (bit-cases x gated)) (λ r. inr (inr r)) (end_is.row_from x o)

  outer_single : (x : ℕ) → bit x singles ≡ 1 → (x < k) × (tb x ≢ s0)
  outer_single x s = let p = end_is.single_on x s in (p.0, sort.inner_off x p.0 p.1)

  end-of_crowd : (x r : ℕ) → bit r reps ≡ 1 → x ≡ base + r → ends x ≡ tb r
  end-of_crowd x r o e = ap ends e ∙ end_is.end_crowd r o

  rep_gated : (r : ℕ) → bit r reps ≡ 1 → bit r gated ≡ 1
  rep_gated r o = (end_is.reps_on r o).0

  end_below : (x : ℕ) → Kind x → ends x < 2 ^ (2 ^ m)
  end_below x (inl (s, z)) = subst (λ (y : ℕ). y < 2 ^ (2 ^ m)) (sym (end_is.end_direct x s z)) (ask.blocks x (outer_single x s).0)
  end_below x (inr (inl (s, z))) = subst (λ (y : ℕ). y < 2 ^ (2 ^ m)) (sym (end_is.end-gate x s z))
      (flip-lt (2 ^ m) (tb x) (gate x) (ask.blocks x (outer_single x s).0) (gate-below x (outer_single x s).0 z))
  end_below x (inr (inr (r, o, e))) = subst (λ (y : ℕ). y < 2 ^ (2 ^ m)) (sym (end-of_crowd x r o e)) (ask.blocks r (gated_below r (rep_gated r o)))

  end-other : (x : ℕ) → Kind x → ends x ≢ s0
  end-other x (inl (s, z)) e = (outer_single x s).1 (sym (end_is.end_direct x s z) ∙ e)
  end-other x (inr (inl (s, z))) e = keep-is.straight_off x z (end_is.single_on x s).2 (sym (end_is.end-gate x s z) ∙ e)
  end-other x (inr (inr (r, o, f))) e = (sort.gated_on r (rep_gated r o)).1 (sym (end-of_crowd x r o f) ∙ e)

  -- the gated targets have no ends in their blocks but the crowds'
  not_direct : (j x : ℕ) → bit j gated ≡ 1 → bit x singles ≡ 1 → bit x gated ≡ 0 → tb x ≢ tb j
  not_direct j x g s z e = (sort.gated_off x (outer_single x s).0 (outer_single x s).1 z).0 j (gated_below j g) (λ y. off_on x j gated z g (sym y)) (sym e)

  not-gate : (j x : ℕ) → j < k → bit x singles ≡ 1 → bit x gated ≡ 1 → flip (tb x) (gate x) ≢ tb j
  not-gate j x h s z = (gates x (outer_single x s).0 z).holds_none j h

  ends_apart : (x y : ℕ) → x ≢ y → Kind x → Kind y → ends x ≢ ends y
  ends_apart x y ne (inl (s, z)) (inl (t, w)) e =
      (sort.gated_off x (outer_single x s).0 (outer_single x s).1 z).0 y (outer_single y t).0 (λ u. ne (sym u)) (sym (end_is.end_direct y t w) ∙ sym e ∙ end_is.end_direct x s z)
  ends_apart x y ne (inl (s, z)) (inr (inl (t, w))) e = not-gate x y (outer_single x s).0 t w (sym (end_is.end-gate y t w) ∙ sym e ∙ end_is.end_direct x s z)
  ends_apart x y ne (inl (s, z)) (inr (inr (r, o, f))) e = not_direct r x (rep_gated r o) s z (sym (end_is.end_direct x s z) ∙ e ∙ end-of_crowd y r o f)
  ends_apart x y ne (inr (inl (s, z))) (inl (t, w)) e = not-gate y x (outer_single y t).0 s z (sym (end_is.end-gate x s z) ∙ e ∙ end_is.end_direct y t w)
  ends_apart x y ne (inr (inl (s, z))) (inr (inl (t, w))) e =
      (gates x (outer_single x s).0 z).own y (outer_single y t).0 (λ u. ne (sym u)) w (sym (end_is.end-gate x s z) ∙ e ∙ end_is.end-gate y t w)
  ends_apart x y ne (inr (inl (s, z))) (inr (inr (r, o, f))) e = not-gate r x (gated_below r (rep_gated r o)) s z (sym (end_is.end-gate x s z) ∙ e ∙ end-of_crowd y r o f)
  ends_apart x y ne (inr (inr (r, o, f))) (inl (t, w)) e = not_direct r y (rep_gated r o) t w (sym (end_is.end_direct y t w) ∙ sym e ∙ end-of_crowd x r o f)
  ends_apart x y ne (inr (inr (r, o, f))) (inr (inl (t, w))) e = not-gate r y (gated_below r (rep_gated r o)) t w (sym (end_is.end-gate y t w) ∙ sym e ∙ end-of_crowd x r o f)
  ends_apart x y ne (inr (inr (r, o, f))) (inr (inr (q, p, g))) e =
      end_is.reps_differ r q o p (λ u. ne (f ∙ ap (λ (v : ℕ). base + v) u ∙ sym g)) (sym (end-of_crowd x r o f) ∙ e ∙ end-of_crowd y q p g)

  -- some target is outer: there is a block path
  pub some-row : (j : ℕ) → j < k → tb j ≢ s0 → rows ≢ 0
  some-row j h ne e = by (bit-cases j inner) (bit-cases j straight)
    where
      none : (x : ℕ) → bit x singles ≡ 1 → ⊥
      none x s = clash (ap (bit x) e ∙ bit-none x) (end_is.row_single x s)

      mate : bit j straight ≡ 1 → Shared k tb j ⊎ Behind s0 kept (tb j) → ⊥
      mate o (inl (i, l, d, q)) =
          let s = keep-is.straight_on j o in
          let g = mates_gated sort i j l s.0 q in
          none i (end_is.single_off i l (⊎_elim (λ z. z) (λ z. absurd ((sort.gated_on i g).1 (sort.inner_on i z).1)) (bit-cases i inner))
          (⊎_elim (λ z. z) (λ z. absurd ((gates j h s.0).own i l d g (s.1 ∙ sym (keep-is.straight_on i z).1))) (bit-cases i straight)))
      mate o (inr (a, p, q)) =
          let s = keep-is.straight_on j o in
          let f = sort.kept_from a p in
          let i = sort.inner_on f.0 f.1 in
          (gates j h s.0).holds_none f.0 i.0 (s.1 ∙ sym i.1)

      by : (bit j inner ≡ 0) ⊎ (bit j inner ≡ 1) → (bit j straight ≡ 0) ⊎ (bit j straight ≡ 1) → ⊥
      by (inr o) b = ne (sort.inner_on j o).1
      by (inl z) (inl y) = none j (end_is.single_off j h z y)
      by (inl z) (inr o) = mate o (sort.gated_on j (keep-is.straight_on j o).0).2

  module _ {shut : ℕ} (shut-is : Shuts m p0 keep rows shut) where
    -- what the cube of blocks may be asked
    pub block_request : Request (2 ^ (2 ^ m) - 1) s0 shut rows ends
    block_request = record {
      inside = λ x o c ne. ⊎_elim (bit-full (2 ^ m) c)
          (λ g. absurd (ne (bit_high (2 ^ m) c (ends x) (end_below x (kind x o)) g ∙ sym (bit_high (2 ^ m) c s0 ask.home-block g)))) (lt-or-le c (2 ^ m));
      other = λ x o. end-other x (kind x o);
      differs = λ x y o p ne. ends_apart x y ne (kind x o) (kind y p);
      held = λ a o. bit-full (2 ^ m) a (shut-is.within a o);
      room = omega (arith, shut-is.count, ones-ones (2 ^ m));
    }

    pub inner_shut : (j : ℕ) → j < k → tb j ≡ s0 → bit (tp j) shut ≡ 1
    inner_shut j h e = shut-is.keeps (tp j) (keep-is.keep-kept (tp j) (sort.kept_on j (⊎_elim (λ z. absurd (sort.inner_off j h z e)) (λ z. z) (bit-cases j inner))))

    pub gate_shut : (j : ℕ) → j < k → bit j gated ≡ 1 → flip (tb j) (gate j) ≡ s0 → bit (gate j) shut ≡ 1
    gate_shut j h o e = shut-is.keeps (gate j) (keep-is.keep-gate j (⊎_elim (λ z. absurd (keep-is.straight_off j o z e)) (λ z. z) (bit-cases j straight)))

    -- the gates as the plan wants them
    pub plan_gates : (taker : ℕ) (hops : ℕ → List ℕ) (j : ℕ) → j < k → bit j gated ≡ 1 → Gate m s0 p0 k tb tp gated rows taker gate ends hops shut j
    plan_gates taker hops j h o = record {
      holds_none = (gates j h o).holds_none;
      own = (gates j h o).own;
      free = (gates j h o).free;
      guard = guard (behind? s0 keep (tb j));
    }
      where
        no_end : (a : ℕ) → bit a keep ≡ 1 → tb j ≡ flip s0 a → (x : ℕ) → Kind x → ends x ≢ tb j
        no_end a p e x (inl (s, z)) f = not_direct j x o s z (sym (end_is.end_direct x s z) ∙ f)
        no_end a p e x (inr (inl (s, z))) f = not-gate j x h s z (sym (end_is.end-gate x s z) ∙ f)
        no_end a p e x (inr (inr (r, q, g))) f = (end_is.reps_on r q).1 a p (sym (end-of_crowd x r q g) ∙ f ∙ e)

        guard : Behind s0 keep (tb j) ⊎ ((a : ℕ) → bit a keep ≡ 1 → tb j ≢ flip s0 a) → Guard m s0 p0 k tb tp gated rows taker gate ends hops shut j
        guard (inl (a, p, e)) = inr (a, shut-is.keeps a p, e, λ x q. no_end a p e x (kind x q))
        guard (inr none) = let r = end_is.reps_all j o none in inl (base + r.0, end_is.row_crowd r.0 r.1, end_is.end_crowd r.0 r.1 ∙ r.2)

    -- p0 is the first door of a block path, or the gate slot of a target with its gate block s0
    pub by_p0 : {n : ℕ} {hops : ℕ → List ℕ} → Doors n (2 ^ (2 ^ m) - 1) s0 shut rows ends hops → rows ≢ 0
        → ((x : ℕ) × (bit x rows ≡ 1) × (l : List ℕ) × (hops x ≡ flip s0 p0 ∷ l)) ⊎ ((j : ℕ) × (bit j straight ≡ 1) × (gate j ≡ p0))
    by_p0 {n} {hops} fan some = ⊎_elim (λ z. inl (open_door z)) (λ o. inr (by (keep-is.keep-from p0 o))) (bit-cases p0 keep)
      where
        open_door : bit p0 keep ≡ 0 → (x : ℕ) × (bit x rows ≡ 1) × (l : List ℕ) × (hops x ≡ flip s0 p0 ∷ l)
        open_door z =
            let f = first-all n (2 ^ (2 ^ m) - 1) s0 shut rows ends hops fan (λ a o. bit-full (2 ^ m) a (shut-is.within a o)) (omega (arith, shut-is.count, ones-ones (2 ^ m)))
            p0 (bit-full (2 ^ m) p0 ask.home-slot) (shut-is.ajar some z) in
            (f.0, f.1.member, f.1.via.rest, f.1.via.first ∙ ap (λ (y : ℕ). flip s0 y ∷ f.1.via.rest) f.1.is)

        by : (bit p0 kept ≡ 1) ⊎ ((j : ℕ) × (bit j straight ≡ 1) × (gate j ≡ p0)) → (j : ℕ) × (bit j straight ≡ 1) × (gate j ≡ p0)
        by (inl o) = let f = sort.kept_from p0 o in let i = sort.inner_on f.0 f.1 in absurd (ask.other f.0 i.0 i.1 f.2)
        by (inr s) = s
