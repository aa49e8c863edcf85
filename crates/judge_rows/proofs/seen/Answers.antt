-- `judge_rows::seen` meets its contract. Assumes nothing.
use Rattle.std.proofs.Common.{refl, arith}
use Rattle.paths.specs.Fan.{hops}
use Rattle.judge_rows.specs.Laws.{seen-on_this, seen-excepted, seen-before}
use Rattle.judge_rows.specs.Rules.{rules_of}
use Rattle.judge_rows.proofs.seen.Goals as goal

pub returns-then-among : goal.returns-then-among
returns-then-among c =
    let a = c.args in
    seen-on_this (rules_of a.rules) a.places.now a.counts.now a.i a.p c.requires.ruled.wide c.relay-x.ensures c.among.ensures c.if-among.true

pub bounds-counts-i : goal.bounds-counts-i
bounds-counts-i c = c.requires.counted

pub twinned-requires : goal.twinned-requires
unfolding hops
twinned-requires c = (omega (arith, c.requires.counted), refl)

pub returns-then-excepted : goal.returns-then-excepted
unfolding hops
returns-then-excepted c =
    let a = c.args in
    seen-excepted (rules_of a.rules) a.places.now a.counts.now a.i a.p c.requires.ruled.wide c.relay-x.ensures c.among.ensures c.if-among.false
    c.excepted.ensures c.if-excepted.true c.twinned.ensures

pub on_earlier-requires : goal.on_earlier-requires
on_earlier-requires c = c.requires.held

pub returns : goal.returns
unfolding hops
returns c =
    let a = c.args in
    seen-before (rules_of a.rules) a.places.now a.counts.now a.i a.p c.requires.ruled.wide c.relay-x.ensures c.among.ensures c.if-among.false
    c.excepted.ensures c.if-excepted.false c.on_earlier.ensures
