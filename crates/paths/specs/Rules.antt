-- What a set of paths is judged by (`Rules`): what a path may be, and where two paths may meet. A fan's rules are the first value
-- (`fan_rules`), and finding 24's exception stands there alone. Definitions; assumes nothing.
use Rattle.std.specs.Prelude.{ℕ, ◌+◌, Bool, false, eqb}
use Rattle.paths.specs.Mesh.{Mesh}

-- the mesh; the most hops of a path; whether the relay at place p of a path of h hops may stand on earlier paths too; and the test that such
-- a place must fail against an earlier path, of g hops
pub record Rules : Type 0 where
  pub mesh : Mesh
  pub limit : ℕ
  pub excepted : (h p : ℕ) → Bool
  pub twin : (h p g : ℕ) → Bool

-- the places that a path takes
abbrev pub span : Rules → ℕ
span r = r.limit + 1

-- of a fan the source is excepted, at place 0, and nothing more is asked of it there
abbrev pub fan_rules : Mesh → Rules
fan_rules m = record { mesh = m; limit = m.longest; excepted = λ h p. eqb p 0; twin = λ h p g. false }
