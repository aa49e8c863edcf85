-- The plain route over any next hop: `next u t` is the relay after u on the way to t, and t itself where u is t.
use Rattle.std.specs.Prelude.{ℕ, zero, suc, ◌<◌, ◌≡◌, ◌≢◌, List, [], ◌∷◌, ◌++◌, eqb}
use Rattle.scan.specs.Scan.{Spot, nowhere, at, seek}

-- the relay after k hops from s towards t
unfoldable pub node : (next : ℕ → ℕ → ℕ) (s t k : ℕ) → ℕ
node next s t zero = s
node next s t (suc k) = next (node next s t k) t

-- s and the relays after 1, .. k hops
unfoldable pub route : (next : ℕ → ℕ → ℕ) (s t k : ℕ) → List ℕ
route next s t zero = s ∷ []
route next s t (suc k) = route next s t k ++ (node next s t (suc k) ∷ [])

abbrev pub number : Spot → ℕ
number nowhere = 0
number (at k) = k

-- the number of next-hop steps needed to arrive, of those below a limit
unfoldable pub hops : (limit : ℕ) (next : ℕ → ℕ → ℕ) (s t : ℕ) → ℕ
hops limit next s t = number (seek (λ k. eqb (node next s t k) t) 0 limit)

-- k steps are needed to arrive
pub record Arrives (next : ℕ → ℕ → ℕ) (s t k : ℕ) : Type 0 where
  pub there : node next s t k ≡ t
  pub not-before : (j : ℕ) → j < k → node next s t j ≢ t
