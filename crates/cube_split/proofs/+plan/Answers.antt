use Rattle.std.proofs.Common.{arith}
use Rattle.cube_split.specs.Plan.{remains, none_left, lone-left, one_left, two-left, left_wide, left-all, rest-less, far-asked, far_ready, near-asked, both}
use Rattle.cube_split.proofs.+plan.Goals as goal

-- src/lib.rt:19:9
pub returns-then-left-eq0 : goal.returns-then-left-eq0
returns-then-left-eq0 t c = none_left _ _ _ _ _ _ c.requires _ _ c.sort-r.ensures c.if-left-eq0.true

-- src/lib.rt:24:9
pub single-requires : goal.single-requires
single-requires t c = lone-left _ _ _ _ _ _ c.requires _ _ c.sort-r.ensures _ c.lowest-x.ensures.set

-- src/lib.rt:25:9
pub returns-then-others-eq0 : goal.returns-then-others-eq0
returns-then-others-eq0 t c = one_left _ _ _ _ _ _ c.requires _ _ c.sort-r.ensures _ _ _ c.lowest-x.ensures.set c.flip-others.ensures c.if-others-eq0.true c.single.ensures

-- src/lib.rt:27:9
pub divide-c-requires : goal.divide-c-requires
divide-c-requires t c =
    let h = remains _ _ _ _ _ _ c.requires _ _ c.sort-r.ensures in
    let two = two-left _ _ _ _ _ _ c.requires _ _ c.sort-r.ensures _ _ c.lowest-x.ensures.set c.flip-others.ensures c.if-others-eq0.false in
    (h.rows, two, h.request, h.settled, h.new)

-- src/lib.rt:28:5
pub plan-requires : goal.plan-requires
plan-requires t c =
    let h = remains _ _ _ _ _ _ c.requires _ _ c.sort-r.ensures in
    let d = c.divide-c.ensures in
    (omega (arith, rest-less _ _ _ _ _ _ h _ _ _ _ _ _ _ d), far-asked _ _ _ _ _ _ h _ _ _ _ _ _ _ d)

-- src/lib.rt:29:9
pub bring-used-requires : goal.bring-used-requires
bring-used-requires t c =
    let q = c.requires in
    let a = c.sort-r.ensures in
    let h = remains _ _ _ _ _ _ q _ _ a in
    let two = two-left _ _ _ _ _ _ q _ _ a _ _ c.lowest-x.ensures.set c.flip-others.ensures c.if-others-eq0.false in
    let d = c.divide-c.ensures in
    (d.half.small, left_wide _ _ _ _ _ _ q _ _ a two, far_ready _ _ _ _ _ _ h _ _ _ _ _ _ _ d _ c.plan.ensures, d.half.far_some, d.stands.sub)

-- src/lib.rt:31:5
pub plan-requires-2 : goal.plan-requires-2
plan-requires-2 t c =
    let h = remains _ _ _ _ _ _ c.requires _ _ c.sort-r.ensures in
    let d = c.divide-c.ensures in (
      omega (arith, rest-less _ _ _ _ _ _ h _ _ _ _ _ _ _ d),
      near-asked _ _ _ _ _ _ h _ _ _ _ _ _ _ d _ c.plan.ensures _ _ c.bring-used.ensures _ c.less.ensures,
    )

-- src/lib.rt:11:1
pub returns : goal.returns
returns t c =
    let q = c.requires in
    let a = c.sort-r.ensures in
    let h = remains _ _ _ _ _ _ q _ _ a in
    let r = both _ _ _ _ _ _ h _ _ _ _ _ _ _ c.divide-c.ensures _ c.plan.ensures _ _ c.bring-used.ensures _ _ c.less.ensures c.plan-2.ensures in
    left-all _ _ _ _ _ _ q _ _ a _ r.0 r.1
