-- The rules that code has, as the definitions have them (`rules_of`): a fan's or a bundle's, in a mesh of a kind and a size. What a path takes is told
-- beside them, and asked for in Needs.antt. Definitions; assumes nothing.
use Rattle.paths.specs.Mesh.{Mesh}
use Rattle.paths.specs.Rules.{Rules, fan_rules}
use Rattle.paths.specs.Bundles.{bundle_rules}
use Rattle.mesh.specs.Kinds.{mesh_of}
use Rattle.judge_rows.specs.declared.Rules as code
use Rattle.judge_rows.specs.declared.Mode as code-mode
use Rattle.judge_rows.specs.declared.Mode.TheVariants as mode

abbrev pub rules_in : code-mode.Mode → Mesh → Rules
rules_in mode.Fan m = fan_rules m
rules_in mode.Bundle m = bundle_rules m

-- the mesh is the same in every mode
abbrev pub rules_of : code.Rules → Rules
rules_of r =
    let m = mesh_of r.mesh.kind r.mesh.size in
    record { mesh = m; limit = (rules_in r.mode m).limit; excepted = (rules_in r.mode m).excepted; twin = (rules_in r.mode m).twin }
