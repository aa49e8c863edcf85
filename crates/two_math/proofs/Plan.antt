-- Whatever is put together from the choices of a plan is a fan (`plan_fan`). Assumes nothing.
use Rattle.std.specs.Prelude.{ℕ, suc, ◌+◌, ◌-◌, ◌*◌, ◌^◌, ◌≤◌, ◌<◌, ◌≡◌, refl, ◌⊎◌, ◌≢◌, List, [], ◌∷◌, length}
use Rattle.std.proofs.Common.{sym, ap, ◌∙◌, subst, inl, inr, suc-mul, mul-le-mul_right, mul-suc, mul_comm, add-one, arith, length-append}
use Rattle.bits.specs.Bit.{bit, flip}
use Rattle.bits.specs.Laws.{flip-flip}
use Rattle.cube_math.specs.Doors.{In, Fresh, Walk}
use Rattle.cube_math.specs.Paths.{in_cast, in_list}
use Rattle.two_math.specs.Relays.{Relay, in_left, fresh-append}
use Rattle.two_math.specs.Assemble.{TwoFan, Leg, Clear, assemble}
use Rattle.two_math.specs.Plan.{Plan, way_end, steps-fresh, steps-short, steps_lands, way, IsRole, member, on_row, rows_differ, has-tail, far-block, no_route_meets, tails_apart}

module _ {m s0 p0 k : ℕ} {tb tp : ℕ → ℕ} {gated rows taker : ℕ} {gate ends : ℕ → ℕ} {hops : ℕ → List ℕ}
    {shut walkers : ℕ} {leave row : ℕ → ℕ} {head route tail : ℕ → List ℕ} {body paths : ℕ → List Relay}
    (q : Plan m s0 p0 k tb tp gated rows taker gate ends hops shut walkers leave row head route tail body paths) where
  plan_clear : Clear k s0 p0 tb head route tail
  plan_clear = record {
    heads = λ i j h g ne x y z. heads_apart i j ne (q.walks i h) (q.walks j g) x y z;
    routes = λ i j h g ne x y z.
        let a = on_row q.draft i (q.draft.role i h) x y in
        let b = on_row q.draft j (q.draft.role j g) x z in
        q.draft.fan.apart (row i) (row j) (member q.draft i a.0) (member q.draft j b.0) (rows_differ q.draft i j h g ne a.0 b.0) x a.1 b.1;
    guarded = λ i j h g x y. no_route_meets q.draft i j h g (has-tail q.draft j (q.draft.role j g) x y);
    away = λ j h x y e. absurd (far-block q.draft j h (has-tail q.draft j (q.draft.role j h) x y) e);
    tails = λ i j h g ne e x y z. tails_apart q.draft i j h g ne e (q.draft.role i h) (q.draft.role j g) x y z;
  }
    where
      heads_apart : (i j : ℕ) → i ≢ j → (bit i walkers ≡ 1) ⊎ ((leave i ≡ p0) × (head i ≡ [])) → (bit j walkers ≡ 1) ⊎ ((leave j ≡ p0) × (head j ≡ []))
          → (x : ℕ) → In x (head i) → In x (head j) → ⊥
      heads_apart i j ne (inl a) (inl b) x y z = q.heads.apart i j a b ne x y z
      heads_apart i j ne (inl a) (inr b) x y z = in_list x b.1 z
      heads_apart i j ne (inr a) b x y z = in_list x a.1 y

  -- ---- each path

  leg : (j : ℕ) → j < k → Leg m s0 p0 (tb j) (tp j) (head j) (route j) (tail j) (paths j)
  leg j h = by (q.draft.role j h)
    where
      starts : (bit j walkers ≡ 1) ⊎ ((leave j ≡ p0) × (head j ≡ [])) → Walk (2 ^ m - 1) p0 (leave j) (head j) × Fresh (p0 ∷ head j) × (length (head j) ≤ m + 1)
      starts (inl o) = let w = q.heads.each j o in (w.walk, (w.away, w.fresh), w.short)
      starts (inr e) = rw e.1 (sym e.0, ((λ z. z), tt), omega arith)

      head_walk : Walk (2 ^ m - 1) p0 (leave j) (head j)
      head_walk = (starts (q.walks j h)).0

      head-fresh : Fresh (p0 ∷ head j)
      head-fresh = (starts (q.walks j h)).1

      head-short : length (head j) ≤ m + 1
      head-short = (starts (q.walks j h)).2

      no_head : (bit j walkers ≡ 1) ⊎ ((leave j ≡ p0) × (head j ≡ [])) → leave j ≡ p0 → length (head j) ≡ 0
      no_head (inl o) e = let w = q.heads.each j o in absurd (w.away (in_cast (head j) e (way_end w)))
      no_head (inr z) e = ap length z.1

      -- hops through blocks
      bound : (n : ℕ) → n ≤ 2 ^ m + 1 → n * suc m ≤ m * 2 ^ m + 2 ^ m + m + 1
      bound n le = omega (arith, mul-le-mul_right (suc m) le, suc-mul (2 ^ m) (suc m), mul-suc (2 ^ m) m, mul_comm (2 ^ m) m, ap (λ (y : ℕ). y * suc m) (add-one (2 ^ m)))

      whole : (c : ℕ) → bit c rows ≡ 1 → route j ≡ hops c → Fresh (s0 ∷ route j) × (length (route j) * suc m ≤ m * 2 ^ m + 2 ^ m + m + 1)
      whole c o e = rw e (((way q.draft c o).away, (way q.draft c o).fresh), bound (length (hops c)) (way q.draft c o).short)

      by : IsRole q.draft j → Leg m s0 p0 (tb j) (tp j) (head j) (route j) (tail j) (paths j)
      by (inl d) = record {
        leave = leave j;
        last = s0;
        out = tp j;
        body = body j;
        path_is = q.path_is j h;
        start = head_walk;
        head-fresh = head-fresh;
        route-fresh = rw d.no_route ((λ z. z), tt);
        crosses = rw (d.no_route, d.no_body) (refl, d.leaves, refl);
        lands = rw d.no_tail (sym d.here, refl);
        tail-fresh = rw d.no_tail tt;
        room = rw (d.no_route, d.no_tail) (omega (arith, head-short));
      }
      by (inr (inl d)) = record {
        leave = leave j;
        last = tb j;
        out = tp j;
        body = body j;
        path_is = q.path_is j h;
        start = head_walk;
        head-fresh = head-fresh;
        route-fresh = (whole (row j) d.member d.follows).0;
        crosses = d.crosses;
        lands = rw d.no_tail (refl, refl);
        tail-fresh = rw d.no_tail tt;
        room = rw d.no_tail (omega (arith, head-short, (whole (row j) d.member d.follows).1));
      }
      by (inr (inr (o, inl d))) = record {
        leave = leave j;
        last = flip (tb j) (gate j);
        out = gate j;
        body = body j;
        path_is = q.path_is j h;
        start = head_walk;
        head-fresh = head-fresh;
        route-fresh = (whole (row j) d.member d.follows).0;
        crosses = d.crosses;
        lands = steps_lands m (gate j) (tp j) (tb j) (tail j) d.steps;
        tail-fresh = steps-fresh m (gate j) (tp j) (tail j) d.steps;
        room = omega (arith, head-short, (whole (row j) d.member d.follows).1, steps-short m (gate j) (tp j) (tail j) d.steps);
      }
      by (inr (inr (o, inr (inl d)))) = record {
        leave = leave j;
        last = flip (tb j) (gate j);
        out = gate j;
        body = body j;
        path_is = q.path_is j h;
        start = head_walk;
        head-fresh = head-fresh;
        route-fresh = rw d.no_route ((λ z. z), tt);
        crosses = rw (d.no_route, d.no_body) (sym d.at-gate, d.leaves, refl);
        lands = steps_lands m (gate j) (tp j) (tb j) (tail j) d.steps;
        tail-fresh = steps-fresh m (gate j) (tp j) (tail j) d.steps;
        room = rw d.no_route (omega (arith, head-short, steps-short m (gate j) (tp j) (tail j) d.steps));
      }
      by (inr (inr (o, inr (inr d)))) =
          let w = way q.draft (row j) d.member in
          let f = fresh-append (route j) (tb j ∷ []) (subst (λ (l : List ℕ). Fresh l) d.follows w.fresh) in
          let size : length (hops (row j)) ≡ length (route j) + 1 = ap length d.follows ∙ length-append (route j) (tb j ∷ []) in
          record {
            leave = leave j;
            last = flip (tb j) d.enter;
            out = d.enter;
            body = body j;
            path_is = q.path_is j h;
            start = head_walk;
            head-fresh = head-fresh;
            route-fresh = ((λ z. w.away (in_list s0 (sym d.follows) (in_left s0 (route j) (tb j ∷ []) z))), f.0);
            crosses = d.crosses;
            lands = rw d.tail_is (sym (flip-flip (tb j) d.enter), refl, d.walk);
            tail-fresh = d.fresh;
            room = omega (arith, no_head (q.walks j h) d.leaves, d.short, bound (suc (length (route j))) (omega (arith, w.short)), suc-mul (length (route j)) (suc m));
          }

  pub plan_fan : TwoFan m s0 p0 k tb tp paths
  plan_fan = assemble m s0 p0 k tb tp head route tail paths leg plan_clear
