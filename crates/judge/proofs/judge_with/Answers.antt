-- `judge::judge_with` meets its contract: what stands against the request, room last, else the first finding. Assumes nothing.
use Rattle.std.proofs.Common.{ℕ, List, refl, sym, ap, ◌∙◌}
use mathlib.Core.Option.{none}
use Rattle.std.proofs.lemmas.Result.{err_from_is_err_and}
use Rattle.mesh.specs.Kinds.{kind_of}
use Rattle.mesh.specs.Requests.{request_fine}
use Rattle.judge.specs.Says.{Asked, fan_asked, rule}
use Rattle.judge.specs.Asked.{told_refused, told-short, told_granted, by_lack, by_short, passed, passed_lent}
use Rattle.judge.proofs.judge_with.Goals as goal
use Rattle.judge.proofs.judge_with.Goals.{then-lacking-via-then-lacking, then-lacking-via-else-lacking+then-short}

abbrev asked : (kind n s : ℕ) (targets : List ℕ) → Asked
asked kind n s targets = fan_asked (kind_of kind) n s targets

pub returns-in_err-request : goal.returns-in_err-request
returns-in_err-request c =
    let a = c.args in
    let p = err_from_is_err_and c.from_residual.result c.from_residual.ensures.1 in
    rw (p.1, p.2) (told_refused (asked a.mesh.kind a.mesh.size a.source a.targets.now) a.places.now a.counts.now a.lacking c.in_err-request.ensures)

pub short-requires : goal.short-requires
short-requires c =
    let a = c.args in
    let fine = request_fine (kind_of a.mesh.kind) a.mesh.size a.source a.targets.now (sym c.in_ok-request.ensures) in
    (fine.known, fine.sound.few)

pub returns-then-lacking : goal.returns-then-lacking
returns-then-lacking c =
    let a = c.args in
    let q = asked a.mesh.kind a.mesh.size a.source a.targets.now in
    told-short q a.places.now a.counts.now a.lacking c.in_ok-request.ensures
    (elim c.then-lacking.branch [
      | then-lacking-via-then-lacking w ↦ by_lack q a.places.now a.counts.now a.lacking w.if-lacking.true
      | then-lacking-via-else-lacking+then-short w ↦ by_short q a.places.now a.counts.now a.lacking w.if-lacking.false w.short.ensures w.if-short.true
    ])

pub places_in-requires : goal.places_in-requires
places_in-requires c =
    let a = c.args in
    (request_fine (kind_of a.mesh.kind) a.mesh.size a.source a.targets.now (sym c.in_ok-request.ensures)).known

pub first_finding-requires : goal.first_finding-requires
first_finding-requires c =
    let a = c.args in
    let q = asked a.mesh.kind a.mesh.size a.source a.targets.now in
    let wanted = by_short q a.places.now a.counts.now a.lacking c.if-lacking.false c.short.ensures c.if-short.false in
    let l = passed_lent (passed q a.places.now a.counts.now a.lacking c.in_ok-request.ensures wanted) refl c.places_in.ensures in
    record {
      ruled = record { known = (request_fine (kind_of a.mesh.kind) a.mesh.size a.source a.targets.now (sym c.in_ok-request.ensures)).known; wide = c.places_in.ensures };
      room = l.0;
      counted = l.1;
    }

pub returns-in_err-first_finding : goal.returns-in_err-first_finding
returns-in_err-first_finding c =
    let a = c.args in
    let q = asked a.mesh.kind a.mesh.size a.source a.targets.now in
    let wanted = by_short q a.places.now a.counts.now a.lacking c.if-lacking.false c.short.ensures c.if-short.false in
    let r = c.from_residual-in_err-first_finding in
    let p = err_from_is_err_and r.result r.ensures.1 in
    rw (p.1, p.2) (ap (rule none) c.in_err-first_finding.ensures ∙ told_granted q a.places.now a.counts.now a.lacking c.in_ok-request.ensures wanted)

pub returns : goal.returns
returns c =
    let a = c.args in
    let q = asked a.mesh.kind a.mesh.size a.source a.targets.now in
    let wanted = by_short q a.places.now a.counts.now a.lacking c.if-lacking.false c.short.ensures c.if-short.false in
    ap (rule none) c.in_ok-first_finding.ensures ∙ told_granted q a.places.now a.counts.now a.lacking c.in_ok-request.ensures wanted
