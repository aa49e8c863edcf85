-- `entries::store` meets its contract: each turn puts one entry more at the front. Assumes nothing.
use Rattle.std.proofs.Common.{ℕ, ◌≡◌, ◌++◌, ◌∙◌, ap, drop, refl, arith}
use Rattle.entries.specs.Says.{entries}
use Rattle.entries.specs.Gathered.{entry_at}
use Rattle.entries.specs.Filling.{none_yet, one_entry}
use Rattle.entries.proofs.store.Goals as goal

pub loop-i-init : goal.loop-i-init
loop-i-init c = none_yet (entry_at c.args.g) c.args.out.now

pub loop-i-preserved : goal.loop-i-preserved
loop-i-preserved c =
    one_entry (entry_at c.args.g) c.args.out.now c.loop-i.i c.loop-i.invariant (omega (arith, c.requires.fits)) c.entry.ensures

pub returns : goal.returns
returns c =
    let g = c.args.g in
    let all : c.loop-i.i ≡ g.k = omega arith in
    (refl, c.loop-i.invariant ∙ ap (λ (j : ℕ). entries (entry_at g) j ++ drop j c.args.out.now) all)
