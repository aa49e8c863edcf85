-- The steps of a plan, from the facts of the choices to the fan over numbers: `drafted`,
-- `heads_request`, `finished`. Assumes nothing.
use Rattle.std.specs.Prelude.{ℕ, ◌-◌, ◌^◌, ◌≤◌, ◌<◌, ◌≡◌, ◌⊎◌, ◌≢◌, List, [], ◌++◌}
use Rattle.std.specs.Int.Count.{ones}
use Rattle.bits.specs.Bit.{bit}
use Rattle.cube_math.specs.Doors.{Doors}
use Rattle.cube_math.specs.Request.{Request}
use Rattle.two_math.specs.Relays.{Relay, inside}
use Rattle.two_math.specs.Assemble.{TwoFan}
use Rattle.two_math.specs.Plan.{Role, Draft, Plan}
use Rattle.two_math.proofs.Plan.{plan_fan}
use Rattle.two_math.specs.Gates.{Gates}
use Rattle.two_math.specs.Sort.{Ask, Sorts, Keeps, Ends}
use Rattle.two_math.specs.Shut.{Shuts, gate-below, inner_shut, gate_shut, plan_gates}
use Rattle.two_math.specs.Leaves.{leaves_request}

module _ {m s0 p0 k : ℕ} {tb tp : ℕ → ℕ} {inner kept gated : ℕ} {gate : ℕ → ℕ} {straight keep base singles reps rows : ℕ} {ends : ℕ → ℕ}
    (ask : Ask m s0 p0 k tb tp) (sort : Sorts s0 k tb tp inner kept gated) (gates : Gates m s0 k tb tp gated gate)
    (keep-is : Keeps s0 tb kept gated gate straight keep) (end_is : Ends s0 k tb inner gated gate straight keep base singles reps rows ends)
    (taker : ℕ) (hops : ℕ → List ℕ) where
  module _ {shut : ℕ} (shut-is : Shuts m p0 keep rows shut) {leave row : ℕ → ℕ} {route tail : ℕ → List ℕ} {body : ℕ → List Relay} where
    pub drafted : Doors (2 ^ m) (2 ^ (2 ^ m) - 1) s0 shut rows ends hops
        → ((j : ℕ) → j < k → Role m s0 p0 k tb tp gated rows taker gate ends hops j (leave j) (row j) (route j) (tail j) (body j))
        → Draft m s0 p0 k tb tp gated rows taker gate ends hops shut leave row route tail body
    drafted fan role = record { differ = ask.differ; fan = fan; gates = plan_gates ask sort gates keep-is end_is shut-is taker hops; role = role }

    pub heads_request : Draft m s0 p0 k tb tp gated rows taker gate ends hops shut leave row route tail body
        → (walkers : ℕ) → ((j : ℕ) → bit j walkers ≡ 1 → (j < k) × (leave j ≢ p0)) → ones walkers ≤ m → Request (2 ^ m - 1) p0 0 walkers leave
    heads_request q walkers on few = leaves_request q (inner_shut ask sort gates keep-is end_is shut-is) (gate_shut ask sort gates keep-is end_is shut-is)
        ask.home-slot ask.slots (gate-below ask sort gates keep-is end_is) walkers on few

    pub finished : (walkers : ℕ) (head : ℕ → List ℕ) (paths : ℕ → List Relay) → Draft m s0 p0 k tb tp gated rows taker gate ends hops shut leave row route tail body
        → Doors m (2 ^ m - 1) p0 0 walkers leave head → ((j : ℕ) → j < k → (bit j walkers ≡ 1) ⊎ ((leave j ≡ p0) × (head j ≡ [])))
        → ((j : ℕ) → j < k → paths j ≡ inside s0 (head j) ++ (body j ++ inside (tb j) (tail j))) → TwoFan m s0 p0 k tb tp paths
    finished walkers head paths q heads walks path_is = plan_fan (plan q heads walks path_is)
      where
        plan : Draft m s0 p0 k tb tp gated rows taker gate ends hops shut leave row route tail body → Doors m (2 ^ m - 1) p0 0 walkers leave head
            → ((j : ℕ) → j < k → (bit j walkers ≡ 1) ⊎ ((leave j ≡ p0) × (head j ≡ []))) → ((j : ℕ) → j < k → paths j ≡ inside s0 (head j) ++ (body j ++ inside (tb j) (tail j)))
            → Plan m s0 p0 k tb tp gated rows taker gate ends hops shut walkers leave row head route tail body paths
        plan q heads walks path_is = record { draft = q; shut_in = 0; heads = heads; walks = walks; path_is = path_is }
