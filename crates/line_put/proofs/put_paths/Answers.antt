use Rattle.std.proofs.Common.{arith}
use Rattle.line_put.specs.Writes.{row_within, paths-start, path_room, path-more}
use Rattle.line_put.proofs.put_paths.Goals as goal

pub loop-i-init : goal.loop-i-init
loop-i-init c = paths-start _ _ _ _ _ _

pub overflow_add-end : goal.overflow_add-end
overflow_add-end c = let h = row_within c.requires.0 c.loop-i-test.true in omega arith

pub overflow_add-end-in-loop-i : goal.overflow_add-end-in-loop-i
overflow_add-end-in-loop-i c = let h = row_within c.requires.0 c.loop-i-test.true in omega arith

pub slice_bounds-put_path-end : goal.slice_bounds-put_path-end
slice_bounds-put_path-end c = let h = row_within c.requires.0 c.loop-i-test.true in omega arith

pub put_path-p-requires : goal.put_path-p-requires
put_path-p-requires c =
    path_room c.args.w c.args.places.now c.args.counts.now c.args.out.now c.args.at c.args.k c.loop-i.invariant c.loop-i-test.true c.requires.1

pub loop-i-preserved : goal.loop-i-preserved
loop-i-preserved c =
    path-more c.args.w c.args.places.now c.args.counts.now c.args.out.now c.args.at c.args.k c.loop-i.invariant c.loop-i-test.true c.put_path-p.ensures
