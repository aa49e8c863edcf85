-- `bundle::lay_in` meets its contract: ends chosen, the fan to them, and its paths closed. Assumes nothing.
use Rattle.std.proofs.Common.{ℕ, ◌≤◌, arith, length, rules}
use Rattle.mesh.specs.Kinds.{kind_of, mesh_of}
use Rattle.mesh.specs.Limits.{ends-links, most_links}
use Rattle.mesh.specs.Requests.{Ends, ends-fine}
use Rattle.bundle.specs.Needs.{Layable}
use Rattle.bundle.specs.Laying.{many_places, lent_layable, lent_rows, lent_laid, part_long}
use Rattle.bundle.proofs.lay_in.Goals as goal

fine : {kind size s t places counts : ℕ} → Layable kind size s t places counts → Ends (kind_of kind) size s t
fine {kind} {size} {s} {t} h = ends-fine (kind_of kind) size s t h.clear

few : {kind size s t places counts : ℕ} → Layable kind size s t places counts → (mesh_of kind size).links ≤ most_links
few {kind} {size} {s} {t} h = ends-links kind size s t (fine h)

pub links_in-k-requires : goal.links_in-k-requires
links_in-k-requires c = (fine c.requires.0).known

pub places_in-w-requires : goal.places_in-w-requires
places_in-w-requires c = (fine c.requires.0).known

pub choose-requires : goal.choose-requires
choose-requires c =
    record { ends = fine c.requires.0; links = c.links_in-k.ensures; room = omega (arith, few c.requires.0, c.links_in-k.ensures, c.requires.1) }

pub slice_bounds-lay-end : goal.slice_bounds-lay-end
slice_bounds-lay-end c = omega (arith, few c.requires.0, c.links_in-k.ensures, c.requires.1, c.choose.auto.ends)

pub slice_bounds-lay-end-2 : goal.slice_bounds-lay-end-2
slice_bounds-lay-end-2 c =
    let room : c.links_in-k.result ≤ length c.choose.new.ends = omega (arith, few c.requires.0, c.links_in-k.ensures, c.requires.1, c.choose.auto.ends) in
    part_long _ _ room

pub offset_bounds-places-k : goal.offset_bounds-places-k
offset_bounds-places-k c =
    let links = few c.requires.0 in
    search rules

pub slice_bounds-lay-count : goal.slice_bounds-lay-count
slice_bounds-lay-count c =
    let room : c.links_in-k.result ≤ length c.choose.new.ends = omega (arith, few c.requires.0, c.links_in-k.ensures, c.requires.1, c.choose.auto.ends) in
    let a = c.args in
    many_places a.mesh.kind a.mesh.size a.source a.target _ _ _ a.places.now a.counts.now c.requires.0 c.links_in-k.ensures c.places_in-w.ensures room c.choose.ensures

pub slice_bounds-lay-start : goal.slice_bounds-lay-start
slice_bounds-lay-start c =
    let room : c.links_in-k.result ≤ length c.choose.new.ends = omega (arith, few c.requires.0, c.links_in-k.ensures, c.requires.1, c.choose.auto.ends) in
    let a = c.args in
    many_places a.mesh.kind a.mesh.size a.source a.target _ _ _ a.places.now a.counts.now c.requires.0 c.links_in-k.ensures c.places_in-w.ensures room c.choose.ensures

pub lay-requires : goal.lay-requires
lay-requires c =
    let room : c.links_in-k.result ≤ length c.choose.new.ends = omega (arith, few c.requires.0, c.links_in-k.ensures, c.requires.1, c.choose.auto.ends) in
    let a = c.args in
    lent_layable a.mesh.kind a.mesh.size a.source a.target _ _ _ a.places.now a.counts.now c.requires.0 c.links_in-k.ensures c.places_in-w.ensures room c.choose.ensures

pub close_all-requires : goal.close_all-requires
close_all-requires c =
    let room : c.links_in-k.result ≤ length c.choose.new.ends = omega (arith, few c.requires.0, c.links_in-k.ensures, c.requires.1, c.choose.auto.ends) in
    let a = c.args in
    lent_rows a.mesh.kind a.mesh.size a.source a.target _ _ _ a.places.now a.counts.now c.requires.0 c.links_in-k.ensures c.places_in-w.ensures room c.choose.ensures _ _ c.lay.ensures

pub returns : goal.returns
returns c =
    let room : c.links_in-k.result ≤ length c.choose.new.ends = omega (arith, few c.requires.0, c.links_in-k.ensures, c.requires.1, c.choose.auto.ends) in
    let a = c.args in
    lent_laid a.mesh.kind a.mesh.size a.source a.target _ _ _ a.places.now a.counts.now c.requires.0 c.links_in-k.ensures c.places_in-w.ensures room c.choose.ensures _ _ c.lay.ensures _ _ c.close_all.ensures c.close_all.auto.places c.close_all.auto.counts
