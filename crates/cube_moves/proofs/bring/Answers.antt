use Rattle.std.proofs.Common.{◌≡◌, refl, ap, ◌∙◌, arith, length}
use Rattle.cube_moves.specs.Bring.{ready_step, fetch_step, fetched_at}
use Rattle.cube_moves.proofs.bring.Goals as goal

pub bring_first-t-requires : goal.bring_first-t-requires
bring_first-t-requires c = c.requires

pub loop-j-init : goal.loop-j-init
loop-j-init c =
    rw c.into_iter-j-iterator.ensures.into_iter_gives
    (record {
      long = refl;
      ready = record {
        row = λ j o. omega (arith, c.bring_first-t.ensures.keeps.long, c.requires.2.row j (c.bring_first-t.ensures.sub j o));
        room = λ j o. omega (arith, ap length (c.bring_first-t.ensures.ahead j o), c.requires.2.room j (c.bring_first-t.ensures.sub j o));
        some = λ j o. omega (arith, ap length (c.bring_first-t.ensures.ahead j o), c.requires.2.some j (c.bring_first-t.ensures.sub j o));
      };
      goes = λ e k. k;
    })

pub bring_one-used-requires : goal.bring_one-used-requires
bring_one-used-requires c =
    let inv = c.loop-j.invariant in
    let o = c.in-Some.ensures.steps.0.set in
    (c.requires.0, inv.ready.row _ o, inv.ready.room _ o, inv.ready.some _ o)

pub loop-j-preserved : goal.loop-j-preserved
loop-j-preserved c =
    let inv = c.loop-j.invariant in
    let turn = c.in-Some.ensures.steps in
    let o = turn.0.set in
    record {
      long = c.bring_one-used.ensures.only.long ∙ inv.long;
      ready = ready_step _ _ _ inv.ready o c.bring_one-used.ensures turn.1;
      goes = λ e k. fetch_step _ _ _ _ _ _ _ _ _ _ _ _ _ _ (inv.goes e k) o c.bring_one-used.ensures turn.1;
    }

pub returns : goal.returns
returns c =
    let start : c.into_iter-j-iterator.result.0 ≡ c.bring_first-t.result.todo = rw c.into_iter-j-iterator.ensures.into_iter_gives refl in
    fetched_at _ _ _ _ _ _ _ c.in-None.ensures.steps (c.loop-j.invariant.goes _ (rw start c.bring_first-t.ensures))
