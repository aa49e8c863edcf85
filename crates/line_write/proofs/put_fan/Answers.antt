-- `line_write::put_fan` meets its contract: the head and the paths, one after the other. Assumes nothing.
use Rattle.line_write.specs.Rooms.{head-room, paths-room, fan-put}
use Rattle.line_write.proofs.put_fan.Goals as goal

pub put_head-p-requires : goal.put_head-p-requires
put_head-p-requires c =
    head-room c.args.k c.args.w c.args.places.now c.args.counts.now c.args.out.now c.requires (λ i. (c.type_inv.places i).fits) (λ i. (c.type_inv.counts i).fits) c.ranges.k.fits

pub put_paths-requires : goal.put_paths-requires
put_paths-requires c =
    paths-room c.args.k c.args.w c.args.places.now c.args.counts.now c.args.out.now c.requires (λ i. (c.type_inv.places i).fits) (λ i. (c.type_inv.counts i).fits) c.ranges.k.fits c.put_head-p.ensures

pub returns : goal.returns
returns c =
    fan-put c.args.k c.args.w c.args.places.now c.args.counts.now c.args.out.now c.requires (λ i. (c.type_inv.places i).fits) (λ i. (c.type_inv.counts i).fits) c.ranges.k.fits c.put_head-p.ensures c.put_paths.ensures
