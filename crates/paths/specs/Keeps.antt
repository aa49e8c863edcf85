-- What it is to keep the rules, path by path (`Keeps`): there is no finding exactly when they are kept (`clean_keeps`, `keeps_clean` in proofs/Keeps).
-- Definitions; assumes nothing.
use Prim.Native.Nat.{ℕ, ◌≤◌, ◌<◌}
use Rattle.std.specs.Prelude.{◌≡◌, ◌≢◌, List, length, get_or}
use Rattle.std.proofs.Math.Bool.{true, false}
use Rattle.paths.specs.Rules.{Rules, span}
use Rattle.paths.specs.Fan.{PathBy, relay, hops}

-- each is a path, on which no relay stands twice; at a place that is not excepted no relay stands that is on an earlier path; at one that is
-- excepted no earlier path is a twin
pub record Keeps (r : Rules) (s : ℕ) (targets places counts : List ℕ) : Type 0 where
  pub path : (i : ℕ) → i < length targets → PathBy r s (get_or targets i 0) places counts i
  pub once : (i p q : ℕ) → i < length targets → p < q → q ≤ hops counts i → relay (span r) places i p ≢ relay (span r) places i q
  pub apart : (i j p q : ℕ) → i < j → j < length targets → p ≤ hops counts i → q ≤ hops counts j → r.excepted (hops counts j) q ≡ false
      → relay (span r) places i p ≢ relay (span r) places j q
  pub single : (i j q : ℕ) → i < j → j < length targets → q ≤ hops counts j → r.excepted (hops counts j) q ≡ true
      → r.twin (hops counts j) q (hops counts i) ≡ false
