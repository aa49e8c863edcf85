use Rattle.std.proofs.Common.{ℕ, refl, ◌∙◌, ap, arith, eqb, length-set}
use Rattle.scan.specs.Scan.{pick}
use Rattle.bundle.specs.Ends.{chosen_none, chosen_more, chosen_all}
use Rattle.bundle.proofs.choose.Goals as goal

pub loop-i-init : goal.loop-i-init
loop-i-init c = record { bound = omega arith; pair = c.requires; long = refl; chosen = chosen_none _ _ _ _ _ refl }

pub near-requires : goal.near-requires
near-requires c =
    let p = c.loop-i.invariant.pair in
    record {
      size_value = p.ends.known;
      u_bound = p.ends.target;
      i_bound = omega (arith, c.loop-i-test.true, p.links);
    }

pub bounds-ends-i : goal.bounds-ends-i
bounds-ends-i c = let inv = c.loop-i.invariant in omega (arith, c.loop-i-test.true, inv.pair.room, inv.long)

pub loop-i-preserved : goal.loop-i-preserved
loop-i-preserved c =
    let a = c.args in
    let inv = c.loop-i.invariant in
    record {
      bound = omega (arith, c.loop-i-test.true);
      pair = inv.pair;
      long = simp length-set inv.long;
      chosen = chosen_more inv.chosen (omega (arith, c.loop-i-test.true, inv.pair.room, inv.long))
          (c.end_of.ensures ∙ ap (λ (x : ℕ). pick (eqb x a.source) a.target x) c.near.ensures);
    }

pub returns : goal.returns
returns c = let inv = c.loop-i.invariant in chosen_all (omega (arith, inv.bound, c.loop-i-test.false)) inv.chosen
