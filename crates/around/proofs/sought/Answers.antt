-- `around::sought` meets its contract. Assumes nothing.
use Rattle.std.proofs.Common.{refl, ◌∙◌, arith}
use Rattle.around.specs.Needs.{ground, can_search, can_trace, nowhere, somewhere}
use Rattle.around.proofs.sought.Goals as goal

pub search-requires : goal.search-requires
search-requires c =
    let a = c.args in
    let R = c.start.ensures a.mesh.kind a.mesh.size c.links_in-links.result (ground c.requires.0 c.requires.1 c.links_in-links.ensures) c.relays_in.ensures c.requires.0.ends in
    (a.stopped.now, a.target, can_search c.requires.0 c.requires.1 c.links_in-links.ensures c.start.auto.lent R)

-- what the search comes to
pub returns-in_default : goal.returns-in_default
returns-in_default c =
    let a = c.args in
    let k = c.start.auto.lent in
    let R = c.start.ensures a.mesh.kind a.mesh.size c.links_in-links.result (ground c.requires.0 c.requires.1 c.links_in-links.ensures) c.relays_in.ensures c.requires.0.ends in
    let F = c.in_default.ensures a.stopped.now a.target (can_search c.requires.0 c.requires.1 c.links_in-links.ensures k R) in
    nowhere (c.search.auto.lent ∙ k) (F.none refl)

pub trace-requires : goal.trace-requires
trace-requires c =
    let a = c.args in
    let k = c.start.auto.lent in
    let R = c.start.ensures a.mesh.kind a.mesh.size c.links_in-links.result (ground c.requires.0 c.requires.1 c.links_in-links.ensures) c.relays_in.ensures c.requires.0.ends in
    let F = c.in-Some.ensures a.stopped.now a.target (can_search c.requires.0 c.requires.1 c.links_in-links.ensures k R) in
    (a.stopped.now, a.target, can_trace c.requires.0 c.requires.1 c.links_in-links.ensures (c.search.auto.lent ∙ k) F (omega arith))

pub returns : goal.returns
returns c =
    let a = c.args in
    let k = c.start.auto.lent in
    let R = c.start.ensures a.mesh.kind a.mesh.size c.links_in-links.result (ground c.requires.0 c.requires.1 c.links_in-links.ensures) c.relays_in.ensures c.requires.0.ends in
    let F = c.in-Some.ensures a.stopped.now a.target (can_search c.requires.0 c.requires.1 c.links_in-links.ensures k R) in
    let l = c.search.auto.lent ∙ k in
    somewhere l c.trace.auto.out (F.some c.in-Some.hops (omega arith)) (c.trace.ensures a.stopped.now a.target (can_trace c.requires.0 c.requires.1 c.links_in-links.ensures l F (omega arith)))
