-- A walk whose rank falls with each hop arrives, after no more hops than its rank (`walk_ends`), over any next hop.
-- Assumes nothing.
use Rattle.std.specs.Prelude.{ℕ, zero, suc, ◌≤◌, ◌<◌, ◌≡◌, refl, ◌≢◌}
use Rattle.std.proofs.Common.{sym, ap, ◌∙◌, arith}
use Rattle.std.proofs.Math.Decide.{ℕ_discrete}
use Rattle.paths.specs.Walk.{node, Arrives}

-- a hop and then k hops are k + 1 hops
pub node_shift : (next : ℕ → ℕ → ℕ) (s t k : ℕ) → node next (next s t) t k ≡ node next s t (suc k)
unfolding node
node_shift next s t zero = refl
node_shift next s t (suc k) = ap (λ (u : ℕ). next u t) (node_shift next s t k)

-- what every hop keeps
pub node_keeps : (next : ℕ → ℕ → ℕ) (t : ℕ) (P : ℕ → Type 0) → ((u : ℕ) → P u → P (next u t)) → (s k : ℕ) → P s → P (node next s t k)
unfolding node
node_keeps next t P keeps s zero h = h
node_keeps next t P keeps s (suc k) h = keeps (node next s t k) (node_keeps next t P keeps s k h)

arrives_start : (next : ℕ → ℕ → ℕ) (s t : ℕ) → s ≡ t → Arrives next s t 0
unfolding node
arrives_start next s t e = record { there = e; not-before = λ j l. absurd (omega arith) }

arrives_more : (next : ℕ → ℕ → ℕ) (s t k : ℕ) → s ≢ t → Arrives next (next s t) t k → Arrives next s t (suc k)
unfolding node
arrives_more next s t k ne a = record { there = sym (node_shift next s t k) ∙ a.there; not-before = λ j l. before j l }
  where
    before : (j : ℕ) → j < suc k → node next s t j ≢ t
    before zero l = ne
    before (suc j) l = λ e. a.not-before j (omega arith) (node_shift next s t j ∙ e)

pub walk_ends : (next : ℕ → ℕ → ℕ) (t : ℕ) (P : ℕ → Type 0) (rank : ℕ → ℕ) → ((u : ℕ) → P u → P (next u t))
    → ((u : ℕ) → P u → u ≢ t → rank (next u t) < rank u) → (n s : ℕ) → P s → rank s ≤ n → (k : ℕ) × (k ≤ n) × Arrives next s t k
walk_ends next t P rank keeps falls zero s h r = go (ℕ_discrete s t)
  where
    go : Dec (s ≡ t) → (k : ℕ) × (k ≤ 0) × Arrives next s t k
    go (yes e) = (0, omega arith, arrives_start next s t e)
    go (no ne) = absurd (omega (arith, falls s h ne))
walk_ends next t P rank keeps falls (suc n) s h r = go (ℕ_discrete s t) (λ q. walk_ends next t P rank keeps falls n (next s t) (keeps s h) q)
  where
    go : Dec (s ≡ t) → (rank (next s t) ≤ n → (k : ℕ) × (k ≤ n) × Arrives next (next s t) t k) → (k : ℕ) × (k ≤ suc n) × Arrives next s t k
    go (yes e) rest = (0, omega arith, arrives_start next s t e)
    go (no ne) rest = let (k, l, a) = rest (omega (arith, falls s h ne)) in (suc k, omega arith, arrives_more next s t k ne a)

-- a walk that needs n hops is not there before, and is there then
pub not_yet : (next : ℕ → ℕ → ℕ) (s t n k : ℕ) → Arrives next s t n → k ≤ n → node next s t k ≢ t → k < n
not_yet next s t n k a l h = let ne : k ≢ n = λ e. h (ap (node next s t) e ∙ a.there) in omega arith

pub now_there : (next : ℕ → ℕ → ℕ) (s t n k : ℕ) → Arrives next s t n → k ≤ n → node next s t k ≡ t → k ≡ n
now_there next s t n k a l h = go (ℕ_discrete k n)
  where
    go : Dec (k ≡ n) → k ≡ n
    go (yes e) = e
    go (no ne) = absurd (a.not-before k (omega arith) h)
