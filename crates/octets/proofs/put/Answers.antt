use Rattle.std.proofs.Common.{◌-◌, ◌+◌, ◌∙◌, ◌/◌, ◌%◌, ap, ℕ, set, arith}
use Rattle.std.proofs.lemmas.List.Edits.{sets}
use Rattle.octets.specs.Big.{big}
use Rattle.octets.specs.Turns.{put-step, put-none}
use Rattle.octets.proofs.put.Goals as goal

pub loop-i-preserved : goal.loop-i-preserved
loop-i-preserved c =
    let a = c.args in
    let l = c.loop-i in
    let less : ℕ = a.w - 1 - l.i in
    ap (λ (n : ℕ). sets (set l.out (a.at + less) (l.rest % 256)) a.at (big n (l.rest / 256))) (omega arith)
    ∙ put-step l.out a.out.now a.at (a.w - l.i) l.rest a.w a.value less (omega arith) l.invariant

pub returns : goal.returns
returns c = put-none c.loop-i.out c.args.at (c.args.w - c.loop-i.i) c.loop-i.rest (omega arith) c.loop-i.invariant
