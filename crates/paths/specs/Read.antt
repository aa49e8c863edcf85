-- The paths of a fan, read back as lists (`fan_lists`), which stand where they were read (`fan-laid`): what a caller of a planner learns of the slices that it
-- lent. Assumes nothing.
use Prim.Native.Nat.{ℕ, zero, suc, ◌+◌, ◌*◌, ◌≤◌, ◌<◌}
use Rattle.std.specs.Prelude.{◌≡◌, true, List, ◌∷◌}
use Rattle.std.proofs.Math.Path.{sym, ap, subst}
use Rattle.std.proofs.Common.{◌∙◌, inl, inr, ⊎_elim}
use native.Mathlib.Omega.{arith}
use Rattle.std.proofs.Math.Decide.{dec_le}
use Rattle.std.proofs.Math.ListN.{length, get_or, get_or-eq_default}
use Rattle.paths.specs.Mesh.{Mesh, width}
use Rattle.paths.specs.Fan.{filler, relay, hops, Path, Fan}
use Rattle.paths.specs.Lists.{In, Fresh, Chain, Lists, Laid, ahead, ahead-length, ahead-at}

-- the relays of path i after its source
abbrev pub read : (w : ℕ) (places counts : List ℕ) (i : ℕ) → List ℕ
read w places counts i = ahead places (i * w + 1) (hops counts i)

-- what stands in a run stands at one of its places
pub in_ahead : (l : List ℕ) (from n x : ℕ) → In x (ahead l from n) → (p : ℕ) × (p < n) × (get_or l (from + p) 0 ≡ x)
unfolding ahead
in_ahead l from zero x h = absurd h
in_ahead l from (suc n) x (inl e) = (0, omega arith, ap (λ (i : ℕ). get_or l i 0) (omega arith) ∙ sym e)
in_ahead l from (suc n) x (inr h) =
    let r = in_ahead l (suc from) n x h in
    (suc r.0, omega (arith, r.1), ap (λ (i : ℕ). get_or l i 0) (omega arith) ∙ r.2)

-- a run with no number twice
ahead-fresh : (l : List ℕ) (from n : ℕ) → ((p q : ℕ) → p < n → q < n → get_or l (from + p) 0 ≡ get_or l (from + q) 0 → p ≡ q) → Fresh (ahead l from n)
unfolding ahead
ahead-fresh l from zero h = tt
ahead-fresh l from (suc n) h = (
  (λ g. let r = in_ahead l (suc from) n (get_or l from 0) g in
      let z : ◌≡◌ {A = ℕ} (suc r.0) 0 = h (suc r.0) 0 (omega (arith, r.1)) (omega arith)
      (ap (λ (i : ℕ). get_or l i 0) (omega arith) ∙ r.2 ∙ ap (λ (i : ℕ). get_or l i 0) (omega arith)) in
      omega arith),
  ahead-fresh l (suc from) n (λ p q a b e.
      let z : suc p ≡ suc q = h (suc p) (suc q) (omega arith) (omega arith) (ap (λ (i : ℕ). get_or l i 0) (omega arith) ∙ e ∙ ap (λ (i : ℕ). get_or l i 0) (omega arith)) in
      omega arith),
)

module _ (m : Mesh) (s : ℕ) (targets places counts : List ℕ) (f : Fan m s targets places counts) where
  abbrev path : ℕ → List ℕ
  path i = read (width m) places counts i

  -- a place after the start
  after : (i p : ℕ) → relay (width m) places i (suc p) ≡ get_or places (i * width m + 1 + p) 0
  unfolding relay
  after i p = ap (λ (k : ℕ). get_or places k 0) (omega arith)

  -- what stands on a list stands at a place after the start
  pub in_path : (i x : ℕ) → In x (path i) → (p : ℕ) × (suc p ≤ hops counts i) × (relay (width m) places i (suc p) ≡ x)
  in_path i x h =
      let r = in_ahead places (i * width m + 1) (hops counts i) x h in
      (r.0, omega (arith, r.1), after i r.0 ∙ r.2)

  -- the rest of path i, after its place p
  chain_from : (i t : ℕ) → Path m s t places counts i → (p n : ℕ) → p + n ≡ hops counts i
      → Chain m (relay (width m) places i p) t (ahead places (i * width m + p + 1) n)
  unfolding relay ahead
  chain_from i t a p zero e = ap (λ (k : ℕ). get_or places (i * width m + k) 0) (omega arith) ∙ a.ends
  chain_from i t a p (suc n) e =
      let k = a.linked p (omega arith) in
      let place : i * width m + (p + 1) ≡ i * width m + p + 1 = omega arith in
      let next : i * width m + (p + 1) + 1 ≡ suc (i * width m + p + 1) = omega arith in
      subst (λ (y : ℕ). (get_or places y 0 < m.relays) × (m.linked (get_or places (i * width m + p) 0) (get_or places y 0) ≡ true)
      × Chain m (get_or places y 0) t (ahead places (suc (i * width m + p + 1)) n)) place
      (k.0, k.1, subst (λ (y : ℕ). Chain m (get_or places (i * width m + (p + 1)) 0) t (ahead places y n)) next (chain_from i t a (p + 1) n (omega arith)))

  pub fan_lists : Lists m s targets path
  fan_lists = record {
    chain = λ i h.
        let a = f.path i h in
        let at : i * width m + 0 + 1 ≡ i * width m + 1 = omega arith in
        subst (λ (y : ℕ). Chain m y (get_or targets i 0) (path i)) a.starts
        (subst (λ (y : ℕ). Chain m (relay (width m) places i 0) (get_or targets i 0) (ahead places y (hops counts i))) at
        (chain_from i (get_or targets i 0) a 0 (hops counts i) (omega arith)));
    short = λ i h. omega (arith, ahead-length places (i * width m + 1) (hops counts i), (f.path i h).short);
    fresh = λ i h. (away i h, once i h);
    apart = λ i j h g ne x a b.
        let p = in_path i x a in
        let q = in_path j x b in
        ⊎_elim (λ (z : (i ≡ j) × (suc p.0 ≡ suc q.0)). ne z.0) (λ (z : (suc p.0 ≡ 0) × (suc q.0 ≡ 0)). omega (arith, z.0))
        (f.apart i j (suc p.0) (suc q.0) h g p.1 q.1 (p.2 ∙ sym q.2));
  }
    where
      same : (i p q : ℕ) → i < length targets → suc p ≤ hops counts i → q ≤ hops counts i → relay (width m) places i (suc p) ≡ relay (width m) places i q → suc p ≡ q
      same i p q h a b e = ⊎_elim (λ (z : (i ≡ i) × (suc p ≡ q)). z.1) (λ (z : (suc p ≡ 0) × (q ≡ 0)). absurd (omega (arith, z.0))) (f.apart i i (suc p) q h h a b e)

      away : (i : ℕ) → i < length targets → In s (path i) → ⊥
      away i h g = let p = in_path i s g in omega (arith, same i p.0 0 h p.1 (omega arith) (p.2 ∙ sym (f.path i h).starts))

      once : (i : ℕ) → i < length targets → Fresh (path i)
      once i h = ahead-fresh places (i * width m + 1) (hops counts i) (λ p q a b e. two p q a b e)
        where
          two : (p q : ℕ) → p < hops counts i → q < hops counts i → get_or places (i * width m + 1 + p) 0 ≡ get_or places (i * width m + 1 + q) 0 → p ≡ q
          two p q a b e = let z : suc p ≡ suc q = same i p (suc q) h (omega arith) (omega arith) (after i p ∙ e ∙ sym (after i q)) in omega arith

  -- the lists stand in the places
  pub fan-laid : Laid (width m) s (length targets) path places counts
  unfolding relay
  fan-laid = record {
    at = λ i p h g. go i p h g (dec_le p (hops counts i));
    count = λ i h. sym (ahead-length places (i * width m + 1) (hops counts i));
  }
    where
      go : (i p : ℕ) → i < length targets → p < width m → Dec (p ≤ hops counts i) → get_or places (i * width m + p) 0 ≡ get_or (s ∷ path i) p filler
      go i zero h g (yes b) = (f.path i h).starts
      go i (suc p) h g (yes b) = after i p ∙ sym (ahead-at places (i * width m + 1) (hops counts i) filler p (omega arith))
      go i p h g (no b) = (f.path i h).filled p (omega arith) (omega arith)
          ∙ sym (get_or-eq_default (s ∷ path i) filler {n = p} (omega (arith, ahead-length places (i * width m + 1) (hops counts i))))
