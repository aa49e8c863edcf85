-- `columns::bundle_paths` meets its contract. Assumes nothing.
use Rattle.std.proofs.Common.{ℕ, sym, ap, ◌∙◌, Bool}
use Rattle.scan.specs.Scan.{pick}
use Rattle.mesh.specs.Kinds.{mesh_of}
use Rattle.columns.proofs.bundle_paths.Goals as goal

pub links_in-requires : goal.links_in-requires
links_in-requires c = sym c.known.ensures ∙ c.if-known.true

pub returns-then-known : goal.returns-then-known
returns-then-known c =
    let a = c.args in
    c.links_in.ensures ∙ ap (λ (b : Bool). pick {A = ℕ} b (mesh_of a.mesh.kind a.mesh.size).links 0) (sym c.if-known.true ∙ c.known.ensures)

pub returns-else-known : goal.returns-else-known
returns-else-known c =
    let a = c.args in
    ap (λ (b : Bool). pick {A = ℕ} b (mesh_of a.mesh.kind a.mesh.size).links 0) (sym c.if-known.false ∙ c.known.ensures)
