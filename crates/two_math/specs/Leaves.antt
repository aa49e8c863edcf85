-- The slots by which the paths leave the source's block: all differ (`leaves_differ`), so a cube fan leads to them. Assumes nothing.
use Rattle.std.specs.Prelude.{ℕ, ◌-◌, ◌^◌, ◌≤◌, ◌<◌, ◌≡◌, ◌⊎◌, ◌≢◌, List, [], ◌∷◌, ◌++◌}
use Rattle.std.proofs.Common.{sym, ap, ◌∙◌, subst, inl, inr, ⊎_elim, arith}
use Rattle.std.specs.Int.Count.{ones, ones-ones}
use Rattle.bits.specs.Bit.{bit, flip}
use Rattle.bits.specs.Laws.{bit-none, clash, flip-flip, lt-or-le, ones-zero, flip-eq}
use Rattle.cube_math.specs.Doors.{Door}
use Rattle.cube_math.specs.Plain.{bit-full, bit_high, full-below}
use Rattle.cube_math.specs.First.{Begins, first_differ}
use Rattle.cube_math.specs.Request.{Request}
use Rattle.two_math.specs.Relays.{Relay}
use Rattle.two_math.specs.Through.{Crosses}
use Rattle.two_math.specs.Plan.{Draft, Rides, IsInner, IsStraight, IsRole, member, way, rows_differ}

-- a route begins behind the door by which it leaves
crosses_first : (m s0 leave g q x : ℕ) (route l : List ℕ) (body : List Relay) → Crosses m s0 leave g q route body → route ≡ x ∷ l → x ≡ flip s0 leave
crosses_first m s0 leave g q x [] l body k e = let z : ◌≡◌ {A = ℕ} 0 1 = cc in absurd (omega arith)
crosses_first m s0 leave g q x (c ∷ r) l body k e = let f : x ≡ c = cc in f ∙ k.3

taken_first : (m s0 leave b enter x : ℕ) (route l : List ℕ) (body : List Relay) → Crosses m s0 leave (flip b enter) enter route body → route ++ (b ∷ []) ≡ x ∷ l → x ≡ flip s0 leave
taken_first m s0 leave b enter x [] l body k e =
    let f : x ≡ b = cc in f ∙ sym (flip-flip b enter) ∙ ap (λ (y : ℕ). flip y enter) (sym k.0) ∙ ap (flip s0) (sym k.1)
taken_first m s0 leave b enter x (c ∷ r) l body k e = let f : x ≡ c = cc in f ∙ k.3

module _ {m s0 p0 k : ℕ} {tb tp : ℕ → ℕ} {gated rows taker : ℕ} {gate ends : ℕ → ℕ} {hops : ℕ → List ℕ}
    {shut : ℕ} {leave row : ℕ → ℕ} {route tail : ℕ → List ℕ} {body : ℕ → List Relay}
    (q : Draft m s0 p0 k tb tp gated rows taker gate ends hops shut leave row route tail body) where
  -- the path of j leaves by the first door of its block path
  pub door_is : (j : ℕ) → (r : Rides q j) → (way q (row j) (member q j r)).door.dim ≡ leave j
  door_is j r = flip-eq s0 v.dim (leave j) (by r)
    where
      v : Door (2 ^ (2 ^ m) - 1) s0 shut (hops (row j))
      v = (way q (row j) (member q j r)).door

      by : Rides q j → flip s0 v.dim ≡ flip s0 (leave j)
      by (inl d) = crosses_first m s0 (leave j) (tb j) (tp j) (flip s0 v.dim) (route j) v.rest (body j) d.crosses (d.follows ∙ v.first)
      by (inr (o, inl d)) = crosses_first m s0 (leave j) (flip (tb j) (gate j)) (gate j) (flip s0 v.dim) (route j) v.rest (body j) d.crosses (d.follows ∙ v.first)
      by (inr (o, inr d)) = taken_first m s0 (leave j) (tb j) d.enter (flip s0 v.dim) (route j) v.rest (body j) d.crosses (sym d.follows ∙ v.first)

  pub begins : (j : ℕ) → (r : Rides q j) → Begins (2 ^ m) (2 ^ (2 ^ m) - 1) s0 shut rows ends hops q.fan (row j) (leave j)
  begins j r = record { member = member q j r; via = (way q (row j) (member q j r)).door; is = door_is j r }

  -- its door is open, and one of the block
  pub door_ajar : (j : ℕ) → Rides q j → bit (leave j) shut ≡ 0
  door_ajar j r = subst (λ (y : ℕ). bit y shut ≡ 0) (door_is j r) (way q (row j) (member q j r)).door.ajar

  pub door-below : (j : ℕ) → Rides q j → leave j < 2 ^ m
  door-below j r = subst (λ (y : ℕ). y < 2 ^ m) (door_is j r) (full-below (2 ^ m) (way q (row j) (member q j r)).door.dim (way q (row j) (member q j r)).door.within)

  -- who does not ride leaves by its own slot or gate slot
  sorted : (j : ℕ) → IsRole q j → Rides q j ⊎ (IsInner q j ⊎ ((bit j gated ≡ 1) × IsStraight q j))
  sorted j (inl d) = inr (inl d)
  sorted j (inr (inl d)) = inl (inl d)
  sorted j (inr (inr (o, inl d))) = inl (inr (o, inl d))
  sorted j (inr (inr (o, inr (inl d)))) = inr (inr (o, d))
  sorted j (inr (inr (o, inr (inr d)))) = inl (inr (o, inr d))

  -- the doors of inner targets and the gate slots at s0 are shut for block paths
  module _ (inner_shut : (j : ℕ) → j < k → tb j ≡ s0 → bit (tp j) shut ≡ 1)
      (gate_shut : (j : ℕ) → j < k → bit j gated ≡ 1 → flip (tb j) (gate j) ≡ s0 → bit (gate j) shut ≡ 1) where
    pub leaves_differ : (i j : ℕ) → i < k → j < k → i ≢ j → leave i ≢ leave j
    leaves_differ i j h g ne e = two (sorted i (q.role i h)) (sorted j (q.role j g))
      where
        ajar_shut : (x y : ℕ) → leave x ≡ leave y → Rides q x → bit (leave y) shut ≡ 1 → ⊥
        ajar_shut x y e r o = clash (door_ajar x r) (subst (λ (u : ℕ). bit u shut ≡ 1) (sym e) o)

        shuts : (x : ℕ) → x < k → IsInner q x ⊎ ((bit x gated ≡ 1) × IsStraight q x) → bit (leave x) shut ≡ 1
        shuts x l (inl d) = subst (λ (u : ℕ). bit u shut ≡ 1) (sym d.leaves) (inner_shut x l d.here)
        shuts x l (inr (o, d)) = subst (λ (u : ℕ). bit u shut ≡ 1) (sym d.leaves) (gate_shut x l o d.at-gate)

        homes : IsInner q i ⊎ ((bit i gated ≡ 1) × IsStraight q i) → IsInner q j ⊎ ((bit j gated ≡ 1) × IsStraight q j) → ⊥
        homes (inl a) (inl b) = q.differ i j h g ne (a.here ∙ sym b.here) (sym a.leaves ∙ e ∙ b.leaves)
        homes (inl a) (inr (o, b)) = (q.gates j g o).holds_none i h (b.at-gate ∙ sym a.here)
        homes (inr (o, a)) (inl b) = (q.gates i h o).holds_none j g (a.at-gate ∙ sym b.here)
        homes (inr (o, a)) (inr (p, b)) = (q.gates i h o).own j g (λ z. ne (sym z)) p (a.at-gate ∙ sym b.at-gate)

        two : Rides q i ⊎ (IsInner q i ⊎ ((bit i gated ≡ 1) × IsStraight q i)) → Rides q j ⊎ (IsInner q j ⊎ ((bit j gated ≡ 1) × IsStraight q j)) → ⊥
        two (inl a) (inl b) = rows_differ q i j h g ne a b
            (first_differ (2 ^ m) (2 ^ (2 ^ m) - 1) s0 shut rows ends hops q.fan (row i) (row j) (leave j)
            (subst (λ (u : ℕ). Begins (2 ^ m) (2 ^ (2 ^ m) - 1) s0 shut rows ends hops q.fan (row i) u) e (begins i a)) (begins j b))
        two (inl a) (inr b) = ajar_shut i j e a (shuts j g b)
        two (inr a) (inl b) = ajar_shut j i (sym e) b (shuts i h a)
        two (inr a) (inr b) = homes a b

    -- what a cube fan in the source's block may be asked
    pub leaves_request : p0 < 2 ^ m → ((j : ℕ) → j < k → tp j < 2 ^ m) → ((j : ℕ) → j < k → bit j gated ≡ 1 → gate j < 2 ^ m)
        → (walkers : ℕ) → ((j : ℕ) → bit j walkers ≡ 1 → (j < k) × (leave j ≢ p0)) → ones walkers ≤ m → Request (2 ^ m - 1) p0 0 walkers leave
    leaves_request hp ht hg walkers on few = record {
      inside = λ j o c ne. ⊎_elim (bit-full m c) (λ g. absurd (ne (bit_high m c (leave j) (below j (on j o).0 (sorted j (q.role j (on j o).0))) g ∙ sym (bit_high m c p0 hp g)))) (lt-or-le c m);
      other = λ j o. (on j o).1;
      differs = λ i j o p ne. leaves_differ i j (on i o).0 (on j p).0 ne;
      held = λ i o. absurd (clash (bit-none i) o);
      room = omega (arith, ones-zero, ones-ones m);
    }
      where
        below : (j : ℕ) → j < k → Rides q j ⊎ (IsInner q j ⊎ ((bit j gated ≡ 1) × IsStraight q j)) → leave j < 2 ^ m
        below j h (inl r) = door-below j r
        below j h (inr (inl d)) = subst (λ (y : ℕ). y < 2 ^ m) (sym d.leaves) (ht j h)
        below j h (inr (inr (o, d))) = subst (λ (y : ℕ). y < 2 ^ m) (sym d.leaves) (hg j h o)
