-- `sheet_write::put_head` meets its contract: six pieces, one after another. Assumes nothing.
use Rattle.sheet_write.specs.Heads.{head-put}
use Rattle.sheet_write.proofs.put_head.Goals as goal

pub returns : goal.returns
returns c =
    let h = c.args.head in
    head-put c.args.version h.mesh.kind h.mesh.size h.source h.paths c.args.n c.args.out.now c.put.ensures c.put-2.ensures c.put-3.ensures c.put-4.ensures c.put-5.ensures
    c.put-6.ensures
