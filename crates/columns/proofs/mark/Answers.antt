use Rattle.std.proofs.Common.{ℕ, ◌+◌, ◌≡◌, ◌∙◌, ap, Bool, List, arith}
use Rattle.std.proofs.lemmas.List.{length-replicate}
use Rattle.marks.specs.Marks.{words}
use Rattle.scan.specs.Scan.{pick, count}
use Rattle.paths.specs.Whole.{failed, whole}
use Rattle.columns.specs.Says.{ahead, marks}
use Rattle.columns.specs.Laws.{marked_start, marked_more, count-start, count-more, count_most, flag-is}
use Rattle.columns.proofs.mark.Goals as goal

abbrev test : (w : ℕ) (places counts stopped cuts : List ℕ) → ℕ → Bool
test w places counts stopped cuts = whole w places counts (failed stopped cuts)

pub struck-requires : goal.struck-requires
struck-requires c = record { by_index = c.requires.held; d_bound = omega arith; hit_len = length-replicate {A = ℕ} words 0 }

pub struck-requires-2 : goal.struck-requires-2
struck-requires-2 c = record { by_index = c.requires.held; d_bound = omega arith; hit_len = length-replicate {A = ℕ} words 0 }

pub loop-i-init : goal.loop-i-init
loop-i-init c =
    let a = c.args in
    let t = test a.w a.places.now a.counts.now a.stopped.now a.cuts.now in
    record { filling = marked_start t a.out.now; counted = count-start t }

pub whole-requires : goal.whole-requires
whole-requires c =
    let l = c.loop-i-test.true in
    record { held = c.requires.held _ l; struck = c.struck.ensures _ l; struck_2 = c.struck-2.ensures _ l }

pub overflow_add-n : goal.overflow_add-n
overflow_add-n c =
    let a = c.args in
    let t = test a.w a.places.now a.counts.now a.stopped.now a.cuts.now in
    let i = c.loop-i.i in
    let one : c.from-one.result ≡ pick (t i) 1 0 = c.from-one.ensures ∙ flag-is c.whole.result ∙ ap (λ (b : Bool). pick b 1 0) c.whole.ensures in
    omega (arith, count-more t i c.loop-i.invariant.counted one, count_most t (i + 1), c.requires.room)

pub loop-i-preserved : goal.loop-i-preserved
loop-i-preserved c =
    let a = c.args in
    let v = c.loop-i.invariant in
    let t = test a.w a.places.now a.counts.now a.stopped.now a.cuts.now in
    let one : c.from-one.result ≡ pick (t c.loop-i.i) 1 0 = c.from-one.ensures ∙ flag-is c.whole.result ∙ ap (λ (b : Bool). pick b 1 0) c.whole.ensures in
    record { filling = marked_more t v.filling (omega (arith, c.requires.room)) one; counted = count-more t c.loop-i.i v.counted one }

pub returns : goal.returns
returns c =
    let a = c.args in
    let l = c.loop-i in
    let t = test a.w a.places.now a.counts.now a.stopped.now a.cuts.now in
    let all : l.i ≡ a.k = omega arith in
    record {
      value = l.invariant.counted ∙ ap (count t) all;
      out_after = l.invariant.filling.holds ∙ ap (λ (j : ℕ). ahead j (marks t j) a.out.now) all;
    }
