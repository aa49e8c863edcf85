-- How much room a fan takes in any mesh that is planned: 1,242 places, 64 counts and 32,768 bytes are enough for every request that is not refused (`enough`).
-- Assumes nothing.
use Rattle.std.specs.Prelude.{ℕ, ◌*◌, ◌≤◌, ◌≡◌, true}
use Rattle.std.proofs.Common.{arith, mul-le-mul_right}
use Rattle.paths.specs.Mesh.{width}
use Rattle.mesh.specs.Kinds.{kind_of, planned}
use Rattle.mesh.specs.Limits.{most_places, planned-links, planned-places}
use Rattle.line.specs.Written.{fan_room}

-- what k paths of a mesh take
pub record Enough (k w : ℕ) : Type 0 where
  pub counts : k ≤ 64
  pub places : k * w ≤ most_places
  pub bytes : fan_room k w ≤ 32768

enough_for : (k w : ℕ) → k ≤ 64 → k * w ≤ most_places → Enough k w
enough_for k w p q = record { counts = p; places = q; bytes = omega arith }

pub enough : (kind n k : ℕ) → planned kind n ≡ true → k ≤ ((kind_of kind).mesh n).links → Enough k (width ((kind_of kind).mesh n))
enough kind n k h g =
    let w = width ((kind_of kind).mesh n) in
    let all = mul-le-mul_right w g in
    enough_for k w (omega (arith, planned-links kind n h)) (omega (arith, all, planned-places kind n h))
