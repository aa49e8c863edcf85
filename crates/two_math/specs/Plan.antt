-- What the planner has chosen, by facts; whatever is put together from such choices is a fan (`plan_fan` in proofs/Plan.antt). Assumes nothing.
use Rattle.std.specs.Prelude.{ℕ, ◌+◌, ◌-◌, ◌^◌, ◌≤◌, ◌<◌, ◌≡◌, refl, ◌⊎◌, ◌≢◌, List, [], ◌∷◌, ◌++◌, length}
use Rattle.std.proofs.Common.{sym, ap, ◌∙◌, subst, inl, inr, ⊎_elim, arith}
use Rattle.bits.specs.Bit.{bit, flip}
use Rattle.bits.specs.Laws.{clash, flip-flip, same_or, flip-moves}
use Rattle.cube_math.specs.Doors.{In, Fresh, Walk, Way, Doors}
use Rattle.cube_math.specs.Paths.{not-cons, in_cast, in_list}
use Rattle.cube_math.specs.Plain.{bit-full}
use Rattle.two_math.specs.Relays.{Relay, inside, in_left, fresh-append}
use Rattle.two_math.specs.Through.{Crosses}
use Rattle.two_math.specs.Assemble.{Lands}

-- through the gate slot q, and a step to p if that is another
abbrev pub Steps : ℕ → ℕ → ℕ → List ℕ → Type 0
Steps m q p tail = ((q ≡ p) × (tail ≡ q ∷ [])) ⊎ ((h : ℕ) × (h < m) × (p ≡ flip q h) × (tail ≡ q ∷ p ∷ []))

-- the relays (tb j, tp j), j < k, from (s0, p0). `gated` has the gated targets; `gate` their gate slots. The family `hops` of block paths
-- leads from s0 to the blocks `ends`, one for each index of `rows`. Of the target j: its path leaves s0 by the slot `leave`, follows the
-- block path `row` through the blocks `route` by the relays `body`, and ends with the slots `tail` of the target's block. The target
-- `taker`, if it is one, takes over the block path of its crowd
module _ (m s0 p0 k : ℕ) (tb tp : ℕ → ℕ) (gated rows taker : ℕ) (gate ends : ℕ → ℕ) (hops : ℕ → List ℕ) where
  -- in the source's block
  pub record Inner (j leave : ℕ) (route tail : List ℕ) (body : List Relay) : Type 0 where
    pub here : tb j ≡ s0
    pub leaves : leave ≡ tp j
    pub no_route : route ≡ []
    pub no_body : body ≡ []
    pub no_tail : tail ≡ []

  -- alone in its block, the end of its block path
  pub record Direct (j leave row : ℕ) (route tail : List ℕ) (body : List Relay) : Type 0 where
    pub ungated : bit j gated ≡ 0
    pub alone : (i : ℕ) → i < k → i ≢ j → tb i ≢ tb j
    pub member : bit row rows ≡ 1
    pub end : ends row ≡ tb j
    pub follows : route ≡ hops row
    pub crosses : Crosses m s0 leave (tb j) (tp j) route body
    pub no_tail : tail ≡ []

  -- through its gate block, the end of its block path
  pub record Gated (j leave row : ℕ) (route tail : List ℕ) (body : List Relay) : Type 0 where
    pub member : bit row rows ≡ 1
    pub end : ends row ≡ flip (tb j) (gate j)
    pub follows : route ≡ hops row
    pub crosses : Crosses m s0 leave (flip (tb j) (gate j)) (gate j) route body
    pub steps : Steps m (gate j) (tp j) tail

  -- its gate block is s0
  pub record Straight (j leave : ℕ) (route tail : List ℕ) (body : List Relay) : Type 0 where
    pub at-gate : flip (tb j) (gate j) ≡ s0
    pub leaves : leave ≡ gate j
    pub no_route : route ≡ []
    pub no_body : body ≡ []
    pub steps : Steps m (gate j) (tp j) tail

  -- on the block path of its crowd, from p0 straight on; it enters the crowd at the slot `enter`, and meets none of the others there
  pub record Taken (j leave row : ℕ) (route tail : List ℕ) (body : List Relay) : Type 0 where
    pub mine : j ≡ taker
    pub member : bit row rows ≡ 1
    pub end : ends row ≡ tb j
    pub follows : hops row ≡ route ++ (tb j ∷ [])
    pub leaves : leave ≡ p0
    pub enter : ℕ
    pub crosses : Crosses m s0 leave (flip (tb j) enter) enter route body
    pub rest : List ℕ
    pub tail_is : tail ≡ enter ∷ rest
    pub walk : Walk (2 ^ m - 1) enter (tp j) rest
    pub fresh : Fresh tail
    pub short : length tail ≤ m + 2
    pub clear : (x : ℕ) → In x tail → (i : ℕ) → i < k → i ≢ j → bit i gated ≡ 1 → tb i ≡ tb j → (x ≢ gate i) × (x ≢ tp i)

  abbrev pub Role : ℕ → ℕ → ℕ → List ℕ → List ℕ → List Relay → Type 0
  Role j leave row route tail body =
      Inner j leave route tail body ⊎ (Direct j leave row route tail body
      ⊎ ((bit j gated ≡ 1) × (Gated j leave row route tail body ⊎ (Straight j leave route tail body ⊎ Taken j leave row route tail body))))

  -- no other block path meets the block of j: it is the end of one, or behind a shut door and no end
  abbrev pub Guard : ℕ → ℕ → Type 0
  Guard shut j = ((c : ℕ) × (bit c rows ≡ 1) × (ends c ≡ tb j)) ⊎ ((a : ℕ) × (bit a shut ≡ 1) × (tb j ≡ flip s0 a) × ((r : ℕ) → bit r rows ≡ 1 → ends r ≢ tb j))

  -- the gate of j: its block holds no target, is the gate block of no other, and it is no other target
  pub record Gate (shut j : ℕ) : Type 0 where
    pub holds_none : (i : ℕ) → i < k → flip (tb j) (gate j) ≢ tb i
    pub own : (i : ℕ) → i < k → i ≢ j → bit i gated ≡ 1 → flip (tb j) (gate j) ≢ flip (tb i) (gate i)
    pub free : (i : ℕ) → i < k → i ≢ j → tb i ≡ tb j → gate j ≢ tp i
    pub guard : Guard shut j

  -- all but the heads; the block paths keep the doors `shut`
  pub record Draft (shut : ℕ) (leave row : ℕ → ℕ) (route tail : ℕ → List ℕ) (body : ℕ → List Relay) : Type 0 where
    pub differ : (i j : ℕ) → i < k → j < k → i ≢ j → tb i ≡ tb j → tp i ≢ tp j
    pub fan : Doors (2 ^ m) (2 ^ (2 ^ m) - 1) s0 shut rows ends hops
    pub gates : (j : ℕ) → j < k → bit j gated ≡ 1 → Gate shut j
    pub role : (j : ℕ) → j < k → Role j (leave j) (row j) (route j) (tail j) (body j)

  -- the whole plan: the paths of the set `walkers` walk in s0 by the cube fan `head`, others leave by p0
  pub record Plan (shut walkers : ℕ) (leave row : ℕ → ℕ) (head route tail : ℕ → List ℕ) (body paths : ℕ → List Relay) : Type 0 where
    pub draft : Draft shut leave row route tail body
    pub shut_in : ℕ
    pub heads : Doors m (2 ^ m - 1) p0 shut_in walkers leave head
    pub walks : (j : ℕ) → j < k → (bit j walkers ≡ 1) ⊎ ((leave j ≡ p0) × (head j ≡ []))
    pub path_is : (j : ℕ) → j < k → paths j ≡ inside s0 (head j) ++ (body j ++ inside (tb j) (tail j))

-- ---- laws

-- the end of a walk that goes somewhere stands on it
pub walk_end : (free u t v : ℕ) (l r : List ℕ) → l ≡ v ∷ r → Walk free u t l → In t l
walk_end free u t v [] r e w = let z : ◌≡◌ {A = ℕ} 0 1 = cc in absurd (omega arith)
walk_end free u t v (x ∷ []) r e w = inl (sym w.3)
walk_end free u t v (x ∷ y ∷ l) r e w = inr (walk_end free x t y (y ∷ l) l refl w.3)

pub way_end : {n free s shut t : ℕ} {l : List ℕ} → Way n free s shut t l → In t l
way_end {n} {free} {s} {shut} {t} {l} w = walk_end free s t (flip s w.door.dim) l w.door.rest w.door.first w.walk

pub steps_in : (m q p : ℕ) (tail : List ℕ) → Steps m q p tail → (x : ℕ) → In x tail → (x ≡ q) ⊎ (x ≡ p)
steps_in m q p tail (inl e) x h = one (in_list x e.1 h)
  where
    one : In x (q ∷ []) → (x ≡ q) ⊎ (x ≡ p)
    one (inl z) = inl z
    one (inr z) = absurd z
steps_in m q p tail (inr e) x h = two (in_list x e.3 h)
  where
    two : In x (q ∷ p ∷ []) → (x ≡ q) ⊎ (x ≡ p)
    two (inl z) = inl z
    two (inr (inl z)) = inr z
    two (inr (inr z)) = absurd z

pub steps-fresh : (m q p : ℕ) (tail : List ℕ) → Steps m q p tail → Fresh tail
steps-fresh m q p tail (inl e) = rw e.1 ((λ z. z), tt)
steps-fresh m q p tail (inr e) = rw e.3 (not-cons (λ z. flip-moves q e.0 (sym (z ∙ e.2))) (λ z. z), ((λ z. z), tt))

pub steps-short : (m q p : ℕ) (tail : List ℕ) → Steps m q p tail → length tail ≤ 2
steps-short m q p tail (inl e) = rw e.1 (omega arith)
steps-short m q p tail (inr e) = rw e.3 (omega arith)

pub steps_lands : (m q p b : ℕ) (tail : List ℕ) → Steps m q p tail → Lands m (flip b q) q b p tail
steps_lands m q p b tail (inl e) = rw e.1 (sym (flip-flip b q), refl, e.0)
steps_lands m q p b tail (inr e) = rw e.3 (sym (flip-flip b q), refl, (e.0, bit-full m e.0 e.1, e.2, refl))

other : {x y : ℕ} → x ≢ y → y ≢ x
other ne e = ne (sym e)

module _ {m s0 p0 k : ℕ} {tb tp : ℕ → ℕ} {gated rows taker : ℕ} {gate ends : ℕ → ℕ} {hops : ℕ → List ℕ}
    {shut : ℕ} {leave row : ℕ → ℕ} {route tail : ℕ → List ℕ} {body : ℕ → List Relay}
    (q : Draft m s0 p0 k tb tp gated rows taker gate ends hops shut leave row route tail body) where
  abbrev pub way : (c : ℕ) → bit c rows ≡ 1 → Way (2 ^ m) (2 ^ (2 ^ m) - 1) s0 shut (ends c) (hops c)
  way c o = q.fan.each c o

  abbrev pub IsInner : ℕ → Type 0
  IsInner j = Inner m s0 p0 k tb tp gated rows taker gate ends hops j (leave j) (route j) (tail j) (body j)

  abbrev pub IsDirect : ℕ → Type 0
  IsDirect j = Direct m s0 p0 k tb tp gated rows taker gate ends hops j (leave j) (row j) (route j) (tail j) (body j)

  abbrev pub IsGated : ℕ → Type 0
  IsGated j = Gated m s0 p0 k tb tp gated rows taker gate ends hops j (leave j) (row j) (route j) (tail j) (body j)

  abbrev pub IsStraight : ℕ → Type 0
  IsStraight j = Straight m s0 p0 k tb tp gated rows taker gate ends hops j (leave j) (route j) (tail j) (body j)

  abbrev pub IsTaken : ℕ → Type 0
  IsTaken j = Taken m s0 p0 k tb tp gated rows taker gate ends hops j (leave j) (row j) (route j) (tail j) (body j)

  abbrev pub IsRole : ℕ → Type 0
  IsRole j = IsInner j ⊎ (IsDirect j ⊎ ((bit j gated ≡ 1) × (IsGated j ⊎ (IsStraight j ⊎ IsTaken j))))

  -- whose path rides on a block path, and what that block path ends in
  abbrev pub Rides : ℕ → Type 0
  Rides j = IsDirect j ⊎ ((bit j gated ≡ 1) × (IsGated j ⊎ IsTaken j))

  pub member : (j : ℕ) → Rides j → bit (row j) rows ≡ 1
  member j (inl d) = d.member
  member j (inr (o, inl d)) = d.member
  member j (inr (o, inr d)) = d.member

  -- what stands on its route stands on its block path
  pub on_row : (j : ℕ) → IsRole j → (x : ℕ) → In x (route j) → Rides j × In x (hops (row j))
  on_row j (inl d) x h = absurd (in_list x d.no_route h)
  on_row j (inr (inl d)) x h = (inl d, in_list x d.follows h)
  on_row j (inr (inr (o, inl d))) x h = (inr (o, inl d), in_list x d.follows h)
  on_row j (inr (inr (o, inr (inl d)))) x h = absurd (in_list x d.no_route h)
  on_row j (inr (inr (o, inr (inr d)))) x h = (inr (o, inr d), in_list x (sym d.follows) (in_left x (route j) (tb j ∷ []) h))

  ends_differ : (i j : ℕ) → i < k → j < k → i ≢ j → Rides i → Rides j → ends (row i) ≢ ends (row j)
  ends_differ i j h g ne (inl a) (inl b) e = b.alone i h ne (sym a.end ∙ e ∙ b.end)
  ends_differ i j h g ne (inl a) (inr (o, inl b)) e = (q.gates j g o).holds_none i h (sym b.end ∙ sym e ∙ a.end)
  ends_differ i j h g ne (inl a) (inr (o, inr b)) e = a.alone j g (other ne) (sym b.end ∙ sym e ∙ a.end)
  ends_differ i j h g ne (inr (p, inl a)) (inl b) e = (q.gates i h p).holds_none j g (sym a.end ∙ e ∙ b.end)
  ends_differ i j h g ne (inr (p, inl a)) (inr (o, inl b)) e = (q.gates i h p).own j g (other ne) o (sym a.end ∙ e ∙ b.end)
  ends_differ i j h g ne (inr (p, inl a)) (inr (o, inr b)) e = (q.gates i h p).holds_none j g (sym a.end ∙ e ∙ b.end)
  ends_differ i j h g ne (inr (p, inr a)) (inl b) e = b.alone i h ne (sym a.end ∙ e ∙ b.end)
  ends_differ i j h g ne (inr (p, inr a)) (inr (o, inl b)) e = (q.gates j g o).holds_none i h (sym b.end ∙ sym e ∙ a.end)
  ends_differ i j h g ne (inr (p, inr a)) (inr (o, inr b)) e = ne (a.mine ∙ sym b.mine)

  -- so each has a block path of its own
  pub rows_differ : (i j : ℕ) → i < k → j < k → i ≢ j → Rides i → Rides j → row i ≢ row j
  rows_differ i j h g ne a b e = ends_differ i j h g ne a b (ap ends e)

  -- a tail is that of a gated target
  pub has-tail : (j : ℕ) → IsRole j → (x : ℕ) → In x (tail j) → bit j gated ≡ 1
  has-tail j (inl d) x h = absurd (in_list x d.no_tail h)
  has-tail j (inr (inl d)) x h = absurd (in_list x d.no_tail h)
  has-tail j (inr (inr d)) x h = d.0

  -- whose block is not s0
  pub far-block : (j : ℕ) → j < k → bit j gated ≡ 1 → tb j ≢ s0
  far-block j h o e = far (q.gates j h o).guard
    where
      far : Guard m s0 p0 k tb tp gated rows taker gate ends hops shut j → ⊥
      far (inl c) = (way c.0 c.1).away (in_cast (hops c.0) (c.2 ∙ e) (way_end (way c.0 c.1)))
      far (inr c) = flip-moves s0 c.0 (sym c.2 ∙ e)

  -- no route meets it
  pub no_route_meets : (i j : ℕ) → i < k → j < k → bit j gated ≡ 1 → In (tb j) (route i) → ⊥
  no_route_meets i j h g o x = let r = on_row i (q.role i h) (tb j) x in meets r.0 r.1 (q.gates j g o).guard
    where
      same_row : (c : ℕ) → bit c rows ≡ 1 → ends c ≡ tb j → Rides i → row i ≡ c → ⊥
      same_row c p e (inl d) z =
          ⊎_elim (λ s. clash d.ungated (subst (λ (y : ℕ). bit y gated ≡ 1) (sym s) o))
          (λ ne. d.alone j g (other ne) (sym e ∙ ap ends (sym z) ∙ d.end)) (same_or i j)
      same_row c p e (inr (b, inl d)) z = (q.gates i h b).holds_none j g (sym d.end ∙ ap ends z ∙ e)
      same_row c p e (inr (b, inr d)) z =
          (fresh-append (route i) (tb i ∷ []) (subst (λ (l : List ℕ). Fresh l) d.follows (way (row i) d.member).fresh)).2 (tb j) x
          (inl (sym e ∙ ap ends (sym z) ∙ d.end))

      meets : Rides i → In (tb j) (hops (row i)) → Guard m s0 p0 k tb tp gated rows taker gate ends hops shut j → ⊥
      meets r y (inl c) = ⊎_elim (same_row c.0 c.1 c.2 r)
          (λ ne. q.fan.apart (row i) c.0 (member i r) c.1 ne (tb j) y (in_cast (hops c.0) c.2 (way_end (way c.0 c.1)))) (same_or (row i) c.0)
      meets r y (inr c) = c.3 (row i) (member i r) (sym ((way (row i) (member i r)).shuns c.0 c.1 (in_cast (hops (row i)) c.2 y)) ∙ sym c.2)

  -- two tails in one block
  pub tails_apart : (i j : ℕ) → i < k → j < k → i ≢ j → tb i ≡ tb j → IsRole i → IsRole j → (x : ℕ) → In x (tail i) → In x (tail j) → ⊥
  tails_apart i j h g ne e (inl a) b x y z = absurd (in_list x a.no_tail y)
  tails_apart i j h g ne e (inr (inl a)) b x y z = absurd (in_list x a.no_tail y)
  tails_apart i j h g ne e (inr (inr a)) (inl b) x y z = absurd (in_list x b.no_tail z)
  tails_apart i j h g ne e (inr (inr a)) (inr (inl b)) x y z = absurd (in_list x b.no_tail z)
  tails_apart i j h g ne e (inr (inr (o, a))) (inr (inr (p, b))) x y z = both (slots i a) (slots j b)
    where
      slots : (l : ℕ) → IsGated l ⊎ (IsStraight l ⊎ IsTaken l) → Steps m (gate l) (tp l) (tail l) ⊎ IsTaken l
      slots l (inl d) = inl d.steps
      slots l (inr (inl d)) = inl d.steps
      slots l (inr (inr d)) = inr d

      gate-gate : gate i ≢ gate j
      gate-gate s = (q.gates i h o).own j g (other ne) p (ap (λ (u : ℕ). flip u (gate i)) e ∙ ap (flip (tb j)) s)

      pairs : (x ≡ gate i) ⊎ (x ≡ tp i) → (x ≡ gate j) ⊎ (x ≡ tp j) → ⊥
      pairs (inl s) (inl t) = gate-gate (sym s ∙ t)
      pairs (inl s) (inr t) = (q.gates i h o).free j g (other ne) (sym e) (sym s ∙ t)
      pairs (inr s) (inl t) = (q.gates j g p).free i h ne e (sym t ∙ s)
      pairs (inr s) (inr t) = q.differ i j h g ne e (sym s ∙ t)

      both : Steps m (gate i) (tp i) (tail i) ⊎ IsTaken i → Steps m (gate j) (tp j) (tail j) ⊎ IsTaken j → ⊥
      both (inl s) (inl t) = pairs (steps_in m (gate i) (tp i) (tail i) s x y) (steps_in m (gate j) (tp j) (tail j) t x z)
      both (inl s) (inr t) = let c = t.clear x z i h ne o e in ⊎_elim c.0 c.1 (steps_in m (gate i) (tp i) (tail i) s x y)
      both (inr s) (inl t) = let c = s.clear x y j g (other ne) p (sym e) in ⊎_elim c.0 c.1 (steps_in m (gate j) (tp j) (tail j) t x z)
      both (inr s) (inr t) = ne (s.mine ∙ sym t.mine)
