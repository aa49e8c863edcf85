use Rattle.std.proofs.Common.{ℕ, ◌+◌, ◌*◌, ◌<◌, refl, ◌∙◌, List, arith, length, get_or, length-set, rules}
use Rattle.bundle.specs.Closing.{Closable, closed_none, closed-more, closed_all, row_closable}
use Rattle.bundle.proofs.close_all.Invariants.{Inv}
use Rattle.bundle.proofs.close_all.Goals as goal

-- row i can be closed
next : {w k : ℕ} {ends : List ℕ} {t : ℕ} {l m c d : List ℕ} {i : ℕ} → Inv w k ends t l m c d i → i < k → Closable w (i * (w + 1)) (k + i * w) (get_or d i 0) (length m)
next {w} {k} {ends} {t} {l} {m} {c} {d} {i} v h = row_closable v.rows h (omega (arith, v.rows.short i h, v.closed.kept i (omega arith)))

pub loop-i-init : goal.loop-i-init
loop-i-init c = record { bound = omega arith; rows = c.requires; long = refl; long_counts = refl; closed = closed_none _ _ _ _ _ _ _ refl }

pub overflow_add-w : goal.overflow_add-w
overflow_add-w c = let u = next c.loop-i.invariant c.loop-i-test.true in search rules

pub overflow_mul-i : goal.overflow_mul-i
overflow_mul-i c = let u = next c.loop-i.invariant c.loop-i-test.true in search rules

pub overflow_mul-i-in-loop-i : goal.overflow_mul-i-in-loop-i
overflow_mul-i-in-loop-i c = let u = next c.loop-i.invariant c.loop-i-test.true in search rules

pub overflow_add-k : goal.overflow_add-k
overflow_add-k c = let u = next c.loop-i.invariant c.loop-i-test.true in search rules

pub bounds-counts-i : goal.bounds-counts-i
bounds-counts-i c = let inv = c.loop-i.invariant in omega (arith, c.loop-i-test.true, inv.rows.counted, inv.long_counts)

pub bounds-ends-i : goal.bounds-ends-i
bounds-ends-i c = let inv = c.loop-i.invariant in omega (arith, c.loop-i-test.true, inv.rows.ended)

pub close-h-requires : goal.close-h-requires
close-h-requires c = next c.loop-i.invariant c.loop-i-test.true

pub bounds-counts-i-in-loop-i : goal.bounds-counts-i-in-loop-i
bounds-counts-i-in-loop-i c = let inv = c.loop-i.invariant in omega (arith, c.loop-i-test.true, inv.rows.counted, inv.long_counts)

pub loop-i-preserved : goal.loop-i-preserved
loop-i-preserved c =
    let inv = c.loop-i.invariant in
    let h = c.loop-i-test.true in
    let kept = c.close-h.auto.places in
    record {
      bound = omega (arith, h);
      rows = record { ended = inv.rows.ended; room = omega (arith, inv.rows.room, kept); counted = inv.rows.counted; short = inv.rows.short };
      long = kept ∙ inv.long;
      long_counts = simp length-set inv.long_counts;
      closed = closed-more inv.closed h (omega (arith, h, inv.rows.counted, inv.long_counts)) c.close-h.ensures;
    }

pub returns : goal.returns
returns c = let inv = c.loop-i.invariant in closed_all (omega (arith, inv.bound, c.loop-i-test.false)) inv.closed
