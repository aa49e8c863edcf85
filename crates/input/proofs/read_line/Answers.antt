use Rattle.std.proofs.Common.{◌≡◌, ◌<◌, ℕ, false, List, length, take, Result, Ok, Err, OnErr, inl, refl, arith}
use Rattle.std.specs.declared.option.Option.{Option}
use Rattle.std.specs.Io.KnownBytes.{Consumes}
use Rattle.scan.specs.Scan.{any}
use Rattle.std.proofs.KnownBytes.{Consumes-nil}
use Rattle.scan.specs.Laws.{false-any}
use Rattle.input.proofs.Filled.{filled_more, filled_kept}
use Rattle.input.specs.Buffers.{end_is, no_end_kept}
use Rattle.input.specs.Says.{is_end}
use Rattle.input.proofs.read_line.Goals as goal

pub returns-then-contains-clause-came : goal.returns-then-contains-clause-came
returns-then-contains-clause-came g c =
    let came = c.in_ok-got.ensures.within in
    record { within = came; enough = λ e. inl (end_is _ _ came c.contains.ensures.value c.if-contains.true) }

pub returns-then-contains-clause-bytes : goal.returns-then-contains-clause-bytes
returns-then-contains-clause-bytes g c =
    filled_more _ _ _ _ _ c.loop-n.n _ c.in_ok-got.ensures.before c.loop-n.invariant.bytes c.in_ok-got.ensures.bytes

pub loop-n-preserved : goal.loop-n-preserved
loop-n-preserved g c = record {
  within = c.in_ok-got.ensures.within;
  kept = omega arith;
  bytes = filled_more _ _ _ _ _ c.loop-n.n _ c.in_ok-got.ensures.before c.loop-n.invariant.bytes c.in_ok-got.ensures.bytes;
  no_end = end_is _ _ c.in_ok-got.ensures.within c.contains.ensures.value (cc);
}

pub loop-n-init : goal.loop-n-init
loop-n-init g c = record { within = omega arith; kept = refl; bytes = Consumes-nil _; no_end = false-any _ 0 0 (λ j a b. absurd (omega arith)) }

-- so many bytes had come before a read that failed
came_before : {T E : Type 0} (r : Result T E) (before after : Option (List ℕ)) (buf : List ℕ) (n : ℕ)
    → n < length buf → any (is_end buf) 0 n ≡ false → Consumes before after (take n buf)
    → OnErr r ((k : ℕ) × (k < length buf) × (any (is_end buf) 0 k ≡ false) × Consumes before after (take k buf))
came_before (Ok x) before after buf n room no_end bytes = tt
came_before (Err e) before after buf n room no_end bytes = (n, room, no_end, bytes)

pub returns-in_err-got-clause-err : goal.returns-in_err-got-clause-err
returns-in_err-got-clause-err g c =
    let e = c.in_err-got.ensures in
    came_before _ _ _ _ c.loop-n.n (omega arith) (no_end_kept c.loop-n.n _ _ e.before c.loop-n.invariant.no_end) (filled_kept _ _ _ _ _ c.loop-n.n e.before c.loop-n.invariant.bytes e.err)
