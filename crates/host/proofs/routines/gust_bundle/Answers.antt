-- What the planner tells and leaves.
use Rattle.std.proofs.Common.{ap, ◌∙◌, length}
use Rattle.answers.specs.Told.{value_of}
use Rattle.mesh.specs.Kinds.{kind_of, mesh_of}
use Rattle.mesh.specs.Says.{bundle_short}
use Rattle.host.specs.Laws.{bundle_in}
use Rattle.host.proofs.routines.gust_bundle.Goals as goal

pub returns : goal.returns
returns c =
    let a = c.args in
    bundle_in (kind_of a.kind) a.size a.source a.target (bundle_short (mesh_of a.kind a.size) (length a.places.now) (length a.counts.now)) c.plan-planned.ensures (c.value.ensures ∙ ap value_of c.links.ensures) c.of_checked.ensures
