-- Paths put together from heads in the source's block, ways through blocks, and tails in the targets' blocks: where these pieces keep
-- apart, the paths are a fan (`assemble`). Assumes nothing.
use Rattle.std.specs.Prelude.{ℕ, suc, ◌+◌, ◌-◌, ◌*◌, ◌^◌, ◌≤◌, ◌<◌, ◌≡◌, refl, ◌⊎◌, ◌≢◌, List, [], ◌∷◌, ◌++◌, length}
use Rattle.std.proofs.Common.{sym, ap, ◌∙◌, subst, inl, inr, ⊎_elim, arith, length-append}
use Rattle.bits.specs.Bit.{flip}
use Rattle.cube_math.specs.Doors.{In, Fresh, Walk}
use Rattle.two_math.specs.Relays.{Relay, On, Once, Chain, inside, on-append, once_append, chain_append, on-inside, once_inside, length-inside, chain_inside}
use Rattle.two_math.specs.Through.{Crosses, crosses_chain, crosses_in, crosses_once, crosses_short}

-- the longest path that is allowed
abbrev pub most : ℕ → ℕ
most m = m * 2 ^ m + 2 ^ m + 2 * m + 4

-- k paths from (s0, p0) to the relays (tb j, tp j), which meet nowhere else; each without its source
pub record TwoFan (m s0 p0 k : ℕ) (tb tp : ℕ → ℕ) (paths : ℕ → List Relay) : Type 0 where
  pub chain : (j : ℕ) → j < k → Chain m s0 p0 (tb j) (tp j) (paths j)
  pub once : (j : ℕ) → j < k → Once ((s0, p0) ∷ paths j)
  pub short : (j : ℕ) → j < k → length (paths j) ≤ most m
  pub apart : (i j : ℕ) → i < k → j < k → i ≢ j → (x y : ℕ) → On x y (paths i) → On x y (paths j) → ⊥

-- from the slot q of the block g to (b, p): it is there, or the door q leads to b, and slots of b follow
abbrev pub Lands : ℕ → ℕ → ℕ → ℕ → ℕ → List ℕ → Type 0
Lands m g q b p [] = (g ≡ b) × (q ≡ p)
Lands m g q b p (x ∷ l) = (b ≡ flip g q) × (x ≡ q) × Walk (2 ^ m - 1) x p l

-- what a path is made of: its head in the source's block to the slot `leave`, the blocks of its route up to the slot `out` of the block `last`,
-- and the slots of its tail in the target's block
pub record Leg (m s0 p0 b p : ℕ) (head route tail : List ℕ) (path : List Relay) : Type 0 where
  pub leave : ℕ
  pub last : ℕ
  pub out : ℕ
  pub body : List Relay
  pub path_is : path ≡ inside s0 head ++ (body ++ inside b tail)
  pub start : Walk (2 ^ m - 1) p0 leave head
  pub head-fresh : Fresh (p0 ∷ head)
  pub route-fresh : Fresh (s0 ∷ route)
  pub crosses : Crosses m s0 leave last out route body
  pub lands : Lands m last out b p tail
  pub tail-fresh : Fresh tail
  pub room : length head + (length route * suc m + length tail) ≤ most m

-- the pieces keep apart
pub record Clear (k s0 p0 : ℕ) (tb : ℕ → ℕ) (head route tail : ℕ → List ℕ) : Type 0 where
  pub heads : (i j : ℕ) → i < k → j < k → i ≢ j → (x : ℕ) → In x (head i) → In x (head j) → ⊥
  pub routes : (i j : ℕ) → i < k → j < k → i ≢ j → (x : ℕ) → In x (route i) → In x (route j) → ⊥
  pub guarded : (i j : ℕ) → i < k → j < k → (x : ℕ) → In x (tail j) → In (tb j) (route i) → ⊥
  pub away : (j : ℕ) → j < k → (x : ℕ) → In x (tail j) → tb j ≡ s0 → (x ≢ p0) × ((i : ℕ) → i < k → In x (head i) → ⊥)
  pub tails : (i j : ℕ) → i < k → j < k → i ≢ j → tb i ≡ tb j → (x : ℕ) → In x (tail i) → In x (tail j) → ⊥

lands_chain : (m g q b p : ℕ) (l : List ℕ) → Lands m g q b p l → Chain m g q b p (inside b l)
lands_chain m g q b p [] h = h
lands_chain m g q b p (x ∷ l) h = (inr (sym h.1, h.0), chain_inside m b x p l h.2)

-- where a relay of a path stands
abbrev pub Place : ℕ → ℕ → List ℕ → List ℕ → List ℕ → ℕ → ℕ → Type 0
Place s0 b head route tail x y = ((x ≡ s0) × In y head) ⊎ (In x route ⊎ ((x ≡ b) × In y tail))

module _ {m s0 p0 b p : ℕ} {head route tail : List ℕ} {path : List Relay} (g : Leg m s0 p0 b p head route tail path) where
  abbrev leave : ℕ
  leave = g.leave

  abbrev last : ℕ
  last = g.last

  abbrev gate : ℕ
  gate = g.out

  abbrev body : List Relay
  body = g.body

  pub leg_chain : Chain m s0 p0 b p path
  leg_chain = rw g.path_is (chain_append m s0 p0 s0 leave b p (inside s0 head) (body ++ inside b tail) (chain_inside m s0 p0 leave head g.start)
      (chain_append m s0 leave last gate b p body (inside b tail) (crosses_chain m s0 leave last gate route body g.crosses) (lands_chain m last gate b p tail g.lands)))

  pub leg_short : length path ≤ most m
  leg_short =
      let size : length path ≡ length (inside s0 head) + (length body + length (inside b tail)) =
      ap length g.path_is ∙ length-append (inside s0 head) (body ++ inside b tail) ∙ ap (λ (y : ℕ). length (inside s0 head) + y) (length-append body (inside b tail)) in
      omega (arith, length-inside s0 head, length-inside b tail, crosses_short m s0 leave last gate route body g.crosses, g.room)

  pub leg_place : (x y : ℕ) → On x y path → Place s0 b head route tail x y
  leg_place x y h = ⊎_elim (λ z. inl (on-inside x y s0 head z))
      (λ r. inr (⊎_elim (λ z. inl (crosses_in m s0 leave last gate route body g.crosses x y z)) (λ z. inr (on-inside x y b tail z)) (on-append x y body (inside b tail) r)))
      (on-append x y (inside s0 head) (body ++ inside b tail) (subst (λ (l : List Relay). On x y l) g.path_is h))

  pub leg_once : ((x : ℕ) → In x tail → (b ≡ s0 → (x ≢ p0) × (In x head → ⊥)) × (In b route → ⊥)) → Once ((s0, p0) ∷ path)
  leg_once far = (λ h. at_source (leg_place s0 p0 h), rw g.path_is whole)
    where
      at_source : Place s0 b head route tail s0 p0 → ⊥
      at_source (inl z) = g.head-fresh.0 z.1
      at_source (inr (inl z)) = g.route-fresh.0 z
      at_source (inr (inr z)) = ((far p0 z.1).0 (sym z.0)).0 refl

      rest : Once (body ++ inside b tail)
      rest = once_append body (inside b tail) (crosses_once m s0 leave last gate route body g.crosses g.route-fresh.1) (once_inside b tail g.tail-fresh)
          (λ x y h o. let q = on-inside x y b tail o in
          (far y q.1).1 (subst (λ (z : ℕ). In z route) q.0 (crosses_in m s0 leave last gate route body g.crosses x y h)))

      whole : Once (inside s0 head ++ (body ++ inside b tail))
      whole = once_append (inside s0 head) (body ++ inside b tail) (once_inside s0 head g.head-fresh.1) rest
          (λ x y h o. let q = on-inside x y s0 head h in
          ⊎_elim (λ z. g.route-fresh.0 (subst (λ (u : ℕ). In u route) q.0 (crosses_in m s0 leave last gate route body g.crosses x y z)))
          (λ z. let t = on-inside x y b tail z in ((far y t.1).0 (sym t.0 ∙ q.0)).1 q.1) (on-append x y body (inside b tail) o))

-- pieces that keep apart make a fan
pub assemble : (m s0 p0 k : ℕ) (tb tp : ℕ → ℕ) (head route tail : ℕ → List ℕ) (paths : ℕ → List Relay)
    → ((j : ℕ) → j < k → Leg m s0 p0 (tb j) (tp j) (head j) (route j) (tail j) (paths j))
    → Clear k s0 p0 tb head route tail → TwoFan m s0 p0 k tb tp paths
assemble m s0 p0 k tb tp head route tail paths leg c = record {
  chain = λ j h. leg_chain (leg j h);
  once = λ j h. leg_once (leg j h) (λ x o. ((λ e. let a = c.away j h x o e in (a.0, a.1 j h)), c.guarded j j h h x o));
  short = λ j h. leg_short (leg j h);
  apart = λ i j h g ne x y o q. meet i j h g ne x y (leg_place (leg i h) x y o) (leg_place (leg j g) x y q);
}
  where
    from-home : (i j : ℕ) → i < k → j < k → (x y : ℕ) → (x ≡ s0) × In y (head i) → (In x (route j) ⊎ ((x ≡ tb j) × In y (tail j))) → ⊥
    from-home i j h g x y e (inl z) = (leg j g).route-fresh.0 (subst (λ (u : ℕ). In u (route j)) e.0 z)
    from-home i j h g x y e (inr z) = (c.away j g y z.1 (sym z.0 ∙ e.0)).1 i h e.1

    meet : (i j : ℕ) → i < k → j < k → i ≢ j → (x y : ℕ) → Place s0 (tb i) (head i) (route i) (tail i) x y → Place s0 (tb j) (head j) (route j) (tail j) x y → ⊥
    meet i j h g ne x y (inl a) (inl b) = c.heads i j h g ne y a.1 b.1
    meet i j h g ne x y (inl a) (inr b) = from-home i j h g x y a b
    meet i j h g ne x y (inr a) (inl b) = from-home j i g h x y b a
    meet i j h g ne x y (inr (inl a)) (inr (inl b)) = c.routes i j h g ne x a b
    meet i j h g ne x y (inr (inl a)) (inr (inr b)) = c.guarded i j h g y b.1 (subst (λ (u : ℕ). In u (route i)) b.0 a)
    meet i j h g ne x y (inr (inr a)) (inr (inl b)) = c.guarded j i g h y a.1 (subst (λ (u : ℕ). In u (route j)) a.0 b)
    meet i j h g ne x y (inr (inr a)) (inr (inr b)) = c.tails i j h g ne (sym a.0 ∙ b.0) y a.1 b.1
