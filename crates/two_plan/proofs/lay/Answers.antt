-- `two_plan::lay` meets its contract: one of three ways, over filled places. Assumes nothing.
use Rattle.std.proofs.Common.{refl}
use Rattle.two_plan.specs.Sound.{drawn-from, ring_ready, ring-drawn, trip, some_out, few, home_yes, home_no}
use Rattle.two_plan.proofs.lay.Goals as goal
use Rattle.two_plan.proofs.lay.Goals.{else-targets-m-via-then-targets-m+else-all_home, else-targets-m-via-else-targets-m}

pub plan-requires : goal.plan-requires
plan-requires c = ring_ready c.requires _ refl c.fill.ensures c.if-m-eq1.true

pub returns-then-m-eq1 : goal.returns-then-m-eq1
returns-then-m-eq1 c = ring-drawn c.requires _ refl c.fill.ensures c.if-m-eq1.true c.plan.ensures

pub plan-requires-then-all_home : goal.plan-requires-then-all_home
plan-requires-then-all_home c = trip c.requires _ refl c.fill.ensures c.if-m-eq1.false c.if-targets-m.true (home_yes c.if-all_home.true c.all_home.ensures)

pub returns-then-all_home : goal.returns-then-all_home
returns-then-all_home c = drawn-from c.requires _ refl c.fill.ensures c.plan-then-all_home.ensures

pub general-requires : goal.general-requires
general-requires c = elim c.else-targets-m.branch [
  | else-targets-m-via-then-targets-m+else-all_home w ↦ some_out c.requires _ refl c.fill.ensures c.if-m-eq1.false (home_no w.if-all_home.false w.all_home.ensures)
  | else-targets-m-via-else-targets-m w ↦ few c.requires _ refl c.fill.ensures c.if-m-eq1.false w.if-targets-m.false
]

pub returns : goal.returns
returns c = drawn-from c.requires _ refl c.fill.ensures c.general.ensures
