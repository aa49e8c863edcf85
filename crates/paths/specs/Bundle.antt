-- As many paths as links between two relays s and t, which meet nowhere but at the two (`Bundled`): the fan from s to the relays linked to t, each path
-- lengthened by the link to t (`bundled`). Where s and t are linked, t stands in the place of s among the targets (`end_of`), and its path is the bare
-- link. No path of the fan meets t but as its end (`no_pass`): the relay before t would be linked to t, and so end a path of its own.
-- Over any mesh whose links are told one by one. Assumes nothing.
use Rattle.std.specs.Prelude.{ℕ, zero, suc, ◌+◌, ◌≤◌, ◌<◌, ◌≡◌, refl, Bool, true, false, ◌⊎◌, ◌≢◌, List, [], ◌∷◌, ◌++◌, eqb, length, get_or}
use Rattle.std.proofs.Common.{sym, ap, ◌∙◌, subst, inl, inr, ⊎_elim, arith, length-append, eq-eqb, ne_eqb}
use Rattle.std.proofs.Math.Decide.{ℕ_discrete}
use Rattle.scan.specs.Scan.{pick}
use Rattle.scan.specs.Laws.{true-false}
use Rattle.paths.specs.Mesh.{Mesh}
use Rattle.paths.specs.Links.{Links}
use Rattle.paths.specs.Lists.{In, Fresh, Chain, Lists}
use Rattle.paths.specs.Forced.{ends_in, meets, arrived}

-- n paths from s to t: only s and t stand on two of them, and one at most is the bare link
pub record Bundled (m : Mesh) (s t n : ℕ) (paths : ℕ → List ℕ) : Type 0 where
  pub chain : (i : ℕ) → i < n → Chain m s t (paths i)
  pub short : (i : ℕ) → i < n → length (paths i) ≤ m.longest + 1
  pub fresh : (i : ℕ) → i < n → Fresh (s ∷ paths i)
  pub apart : (i j : ℕ) → i < n → j < n → i ≢ j → (x : ℕ) → In x (paths i) → In x (paths j) → x ≡ t
  pub single : (i j : ℕ) → i < n → j < n → paths i ≡ t ∷ [] → paths j ≡ t ∷ [] → i ≡ j

-- where path i of the fan ends: at the relay of link i of t, and at t itself where that is s
abbrev pub end_of : (near : ℕ → ℕ → ℕ) (s t i : ℕ) → ℕ
end_of near s t i = pick (eqb (near t i) s) t (near t i)

-- a path of the fan, which ends at e, with t after it
abbrev pub closed : (t e : ℕ) → List ℕ → List ℕ
closed t e l = pick (eqb e t) l (l ++ (t ∷ []))

-- ---- one more at the end

in_append : (x : ℕ) (l r : List ℕ) → In x (l ++ r) → In x l ⊎ In x r
in_append x [] r i = inr i
in_append x (y ∷ l) r (inl e) = inl (inl e)
in_append x (y ∷ l) r (inr i) = ⊎_elim (λ a. inl (inr a)) (λ a. inr a) (in_append x l r i)

pub chain_append : (m : Mesh) (u e t : ℕ) (l : List ℕ) → Chain m u e l → t < m.relays → m.linked e t ≡ true → Chain m u t (l ++ (t ∷ []))
chain_append m u e t [] c h g = (h, ap (λ (x : ℕ). m.linked x t) c ∙ g, refl)
chain_append m u e t (v ∷ l) c h g = (c.0, c.1, chain_append m v e t l c.2 h g)

fresh-append : (t : ℕ) (l : List ℕ) → Fresh l → (In t l → ⊥) → Fresh (l ++ (t ∷ []))
fresh-append t [] f n = ((λ i. i), tt)
fresh-append t (x ∷ l) f n =
    ((λ i. ⊎_elim f.0 (λ j. ⊎_elim (λ e. n (inl (sym e))) (λ z. z) j) (in_append x l (t ∷ []) i)), fresh-append t l f.1 (λ i. n (inr i)))

append-one : (t : ℕ) (l : List ℕ) → l ++ (t ∷ []) ≡ t ∷ [] → l ≡ []
append-one t [] e = refl
append-one t (x ∷ l) e = absurd (long (ap length e))
  where
    long : length ((x ∷ l) ++ (t ∷ [])) ≡ 1 → ⊥
    long z = omega (arith, length-append (x ∷ l) (t ∷ []))

-- ---- the relay before t

-- on a way from u to e that meets t: either t comes first, or a relay x of it, not its end, stands before t
pub data Before (m : Mesh) (t u e : ℕ) (l : List ℕ) : Type 0 where
  first : (r : List ℕ) → l ≡ t ∷ r → m.linked u t ≡ true → Before m t u e l
  later : (x : ℕ) → In x l → x < m.relays → x ≢ e → m.linked x t ≡ true → Before m t u e l

before : (m : Mesh) (t u e : ℕ) (l : List ℕ) → Chain m u e l → Fresh (u ∷ l) → In t l → Before m t u e l
before m t u e [] c f i = absurd i
before m t u e (v ∷ l) c f (inl z) = first l (ap (λ (x : ℕ). x ∷ l) (sym z)) (ap (m.linked u) z ∙ c.1)
before m t u e (v ∷ l) c f (inr i) = go (before m t v e l c.2 f.1 i)
  where
    go : Before m t v e l → Before m t u e (v ∷ l)
    go (later x o h ne k) = later x (inr o) h ne k
    go (first r z k) = later v (inl refl) c.0 (λ same. f.1.0 (subst (λ (y : ℕ). In y l) (sym same) (meets_again z))) k
      where
        -- the way goes on to its end, which would stand on it twice
        meets_again : l ≡ t ∷ r → In e l
        meets_again z = subst (λ (k : List ℕ). In e k) (sym z) (ends_in m v e t r (subst (λ (k : List ℕ). Chain m v e k) z c.2))

-- ---- the fan to the relays linked to t

module _ (m : Mesh) (near : ℕ → ℕ → ℕ) (k : Links m near) (s t : ℕ) (hs : s < m.relays) (ht : t < m.relays) (ne : s ≢ t) where
  abbrev end : ℕ → ℕ
  end = end_of near s t

  end-home : (i : ℕ) → near t i ≡ s → end i ≡ t
  end-home i e = ap (λ (b : Bool). pick b t (near t i)) (eq-eqb (near t i) s e)

  end-near : (i : ℕ) → near t i ≢ s → end i ≡ near t i
  end-near i e = ap (λ (b : Bool). pick b t (near t i)) (ne_eqb (near t i) s e)

  -- link i of t leads elsewhere
  near-away : (i : ℕ) → i < m.links → near t i ≢ t
  near-away i h e = true-false (ap (m.linked t) (sym e) ∙ k.linked t i ht h) (k.away t ht)

  pub end-other : (i : ℕ) → i < m.links → end i ≢ s
  end-other i h e = go (ℕ_discrete (near t i) s)
    where
      go : Dec (near t i ≡ s) → ⊥
      go (yes z) = ne (sym e ∙ end-home i z)
      go (no z) = z (sym (end-near i z) ∙ e)

  pub end_below : (i : ℕ) → i < m.links → end i < m.relays
  end_below i h = go (ℕ_discrete (near t i) s)
    where
      go : Dec (near t i ≡ s) → end i < m.relays
      go (yes z) = subst (λ (x : ℕ). x < m.relays) (sym (end-home i z)) ht
      go (no z) = subst (λ (x : ℕ). x < m.relays) (sym (end-near i z)) (k.below t i ht h)

  -- t ends the path of the link to s alone
  end-t : (i : ℕ) → i < m.links → end i ≡ t → near t i ≡ s
  end-t i h e = go (ℕ_discrete (near t i) s)
    where
      go : Dec (near t i ≡ s) → near t i ≡ s
      go (yes z) = z
      go (no z) = absurd (near-away i h (sym (end-near i z) ∙ e))

  pub end_differ : (i j : ℕ) → i < m.links → j < m.links → end i ≡ end j → i ≡ j
  end_differ i j h g e = go (ℕ_discrete (near t i) s) (ℕ_discrete (near t j) s)
    where
      go : Dec (near t i ≡ s) → Dec (near t j ≡ s) → i ≡ j
      go (yes a) (yes b) = k.differ t i j ht h g (a ∙ sym b)
      go (yes a) (no b) = absurd (near-away j g (sym (end-near j b) ∙ sym e ∙ end-home i a))
      go (no a) (yes b) = absurd (near-away i h (sym (end-near i a) ∙ e ∙ end-home j b))
      go (no a) (no b) = k.differ t i j ht h g (sym (end-near i a) ∙ e ∙ end-near j b)

  -- a relay linked to t, which is not s, ends a path
  link-end : (x : ℕ) → x < m.relays → x ≢ s → m.linked x t ≡ true → (j : ℕ) × (j < m.links) × (end j ≡ x)
  link-end x h other e =
      let (j, l, z) = k.all t x ht h (k.both t x ht h ∙ e) in
      (j, l, end-near j (λ y. other (sym z ∙ y)) ∙ z)

  module _ (targets : List ℕ) (many : length targets ≡ m.links) (each : (i : ℕ) → i < m.links → get_or targets i 0 ≡ end i)
      (paths : ℕ → List ℕ) (f : Lists m s targets paths) where
    counted : (i : ℕ) → i < m.links → i < length targets
    counted i h = omega (arith, many)

    way : (i : ℕ) → i < m.links → Chain m s (end i) (paths i)
    way i h = subst (λ (x : ℕ). Chain m s x (paths i)) (each i h) (f.chain i (counted i h))

    -- the end of a path stands on it, and on no other
    stands : (i : ℕ) → i < m.links → In (end i) (paths i)
    stands i h = meets m s (end i) (paths i) (way i h) (λ e. end-other i h (sym e))

    one-path : (x i j : ℕ) → i < m.links → j < m.links → In x (paths i) → In x (paths j) → i ≡ j
    one-path x i j h g a b = go (ℕ_discrete i j)
      where
        go : Dec (i ≡ j) → i ≡ j
        go (yes e) = e
        go (no z) = absurd (f.apart i j (counted i h) (counted j g) z x a b)

    -- no path meets t but the one that ends there, which is the bare link
    pub no_pass : (i : ℕ) → i < m.links → In t (paths i) → (end i ≡ t) × (paths i ≡ t ∷ [])
    no_pass i h o = go (before m t s (end i) (paths i) (way i h) (f.fresh i (counted i h)) o)
      where
        go : Before m t s (end i) (paths i) → (end i ≡ t) × (paths i ≡ t ∷ [])
        go (later x a l other e) =
            let (j, g, z) = link-end x l (λ y. (f.fresh i (counted i h)).0 (subst (λ (w : ℕ). In w (paths i)) y a)) e in
            let same : i ≡ j = one-path x i j h g a (subst (λ (w : ℕ). In w (paths j)) z (stands j g)) in
            absurd (other (sym (ap end same ∙ z)))
        go (first r z e) =
            let (j, g, y) = k.all t s ht hs (k.both t s ht hs ∙ e) in
            let home : end j ≡ t = end-home j y in
            let same : i ≡ j = one-path t i j h g o (subst (λ (w : ℕ). In w (paths j)) home (stands j g)) in
            let ends : end i ≡ t = ap end same ∙ home in
            let c = subst (λ (w : ℕ). Chain m s w (t ∷ r)) ends (subst (λ (l : List ℕ). Chain m s (end i) l) z (way i h)) in
            let fr = subst (λ (l : List ℕ). Fresh (s ∷ l)) z (f.fresh i (counted i h)) in
            (ends, z ∙ ap (λ (l : List ℕ). t ∷ l) (arrived {m = m} r (record { chain = c.2; fresh = fr })))

    -- the paths with t after them
    abbrev to : ℕ → List ℕ
    to i = closed t (end i) (paths i)

    -- path i as it is, where it ends in t; else with t after it
    data Closed (i : ℕ) : Type 0 where
      bare : end i ≡ t → to i ≡ paths i → Closed i
      more : end i ≢ t → to i ≡ paths i ++ (t ∷ []) → Closed i

    closes : (i : ℕ) → Closed i
    closes i = go (ℕ_discrete (end i) t)
      where
        go : Dec (end i ≡ t) → Closed i
        go (yes e) = bare e (ap (λ (b : Bool). pick b (paths i) (paths i ++ (t ∷ []))) (eq-eqb (end i) t e))
        go (no e) = more e (ap (λ (b : Bool). pick b (paths i) (paths i ++ (t ∷ []))) (ne_eqb (end i) t e))

    -- what stands on a path after its source is t, or stands on the fan's
    on : (i x : ℕ) → Closed i → In x (to i) → In x (paths i) ⊎ (x ≡ t)
    on i x (bare e z) o = inl (subst (λ (l : List ℕ). In x l) z o)
    on i x (more e z) o = ⊎_elim (λ a. inl a) (λ a. ⊎_elim (λ y. inr y) (λ b. absurd b) a) (in_append x (paths i) (t ∷ []) (subst (λ (l : List ℕ). In x l) z o))

    pub bundled : Bundled m s t m.links to
    bundled = record {
      chain = λ i h. chain i h (closes i);
      short = λ i h. short i h (closes i);
      fresh = λ i h. fresh i h (closes i);
      apart = λ i j h g z x a b. apart i j h g z x (on i x (closes i) a) (on j x (closes j) b);
      single = λ i j h g a b. single i j h g (closes i) (closes j) a b;
    }
      where
        chain : (i : ℕ) → i < m.links → Closed i → Chain m s t (to i)
        chain i h (bare e z) = subst (λ (l : List ℕ). Chain m s t l) (sym z) (subst (λ (x : ℕ). Chain m s x (paths i)) e (way i h))
        chain i h (more e z) = subst (λ (l : List ℕ). Chain m s t l) (sym z) (chain_append m s (end i) t (paths i) (way i h) ht (linked-end (ℕ_discrete (near t i) s)))
          where
            linked-end : Dec (near t i ≡ s) → m.linked (end i) t ≡ true
            linked-end (yes y) = absurd (e (end-home i y))
            linked-end (no y) = ap (λ (x : ℕ). m.linked x t) (end-near i y) ∙ k.both (near t i) t (k.below t i ht h) ht ∙ k.linked t i ht h

        short : (i : ℕ) → i < m.links → Closed i → length (to i) ≤ m.longest + 1
        short i h (bare e z) = omega (arith, ap length z, f.short i (counted i h))
        short i h (more e z) = omega (arith, ap length z, length-append (paths i) (t ∷ []), f.short i (counted i h))

        fresh : (i : ℕ) → i < m.links → Closed i → Fresh (s ∷ to i)
        fresh i h (bare e z) = subst (λ (l : List ℕ). Fresh (s ∷ l)) (sym z) (f.fresh i (counted i h))
        fresh i h (more e z) = subst (λ (l : List ℕ). Fresh (s ∷ l)) (sym z)
            (fresh-append t (s ∷ paths i) (f.fresh i (counted i h)) (λ o. ⊎_elim (λ y. ne (sym y)) (λ a. e (no_pass i h a).0) o))

        apart : (i j : ℕ) → i < m.links → j < m.links → i ≢ j → (x : ℕ) → In x (paths i) ⊎ (x ≡ t) → In x (paths j) ⊎ (x ≡ t) → x ≡ t
        apart i j h g z x (inr e) b = e
        apart i j h g z x (inl a) (inr e) = e
        apart i j h g z x (inl a) (inl b) = absurd (z (one-path x i j h g a b))

        -- a path of the fan that is not the bare link has a hop before t
        not_bare : (i : ℕ) → i < m.links → to i ≡ paths i ++ (t ∷ []) → to i ≡ t ∷ [] → ⊥
        not_bare i h z a =
            end-other i h (sym (subst (λ (l : List ℕ). Chain m s (end i) l) (append-one t (paths i) (sym z ∙ a)) (way i h)))

        single : (i j : ℕ) → i < m.links → j < m.links → Closed i → Closed j → to i ≡ t ∷ [] → to j ≡ t ∷ [] → i ≡ j
        single i j h g (more e z) d a b = absurd (not_bare i h z a)
        single i j h g (bare e z) (more y w) a b = absurd (not_bare j g w b)
        single i j h g (bare e z) (bare y w) a b = end_differ i j h g (e ∙ sym y)
