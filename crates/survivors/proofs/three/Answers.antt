-- `survivors::three` meets its contract: what the judge finds, else the columns of the fan. Assumes nothing.
use Rattle.std.proofs.Common.{ℕ, List, Bool, ◌≡◌, refl, ap, ◌∙◌}
use Rattle.std.proofs.lemmas.Result.{err_from_is_err_and}
use Rattle.paths.specs.Whole.{failed}
use Rattle.mesh.specs.Kinds.{kind_of}
use Rattle.mesh.specs.Requests.{request_fine}
use Rattle.judge.specs.Says.{Ruling, Asked, fan_asked, asked_told}
use Rattle.survivors.specs.Says.{lacking}
use Rattle.survivors.specs.Laws.{fault_survived, judged_passed, ready, survived}
use Rattle.survivors.proofs.three.Goals as goal

abbrev asked : (kind n s : ℕ) (targets : List ℕ) → Asked
asked kind n s targets = fan_asked (kind_of kind) n s targets

-- what the judge told, with what code has of the columns' lengths
told : (q : Asked) (places counts ends hops wholes : List ℕ) (wanting : Bool) {flag : Bool} {r : Ruling} → r ≡ asked_told q places counts flag
    → flag ≡ lacking wanting q.targets ends hops wholes → r ≡ asked_told q places counts (lacking wanting q.targets ends hops wholes)
told q places counts ends hops wholes wanting e f = e ∙ ap (asked_told q places counts) f

pub returns-in_err-judge_with : goal.returns-in_err-judge_with
returns-in_err-judge_with c =
    let a = c.args in
    let q = asked a.mesh.kind a.mesh.size a.source a.targets.now in
    let p = err_from_is_err_and c.from_residual.result c.from_residual.ensures.1 in
    rw (p.1, p.2)
    (fault_survived a.lacking q a.places.now a.counts.now (failed a.stopped.now a.cuts.now) a.ends.now a.hops.now a.wholes.now _
    (told q a.places.now a.counts.now a.ends.now a.hops.now a.wholes.now a.lacking c.in_err-judge_with.ensures c.few-short.ensures))

pub places_in-w-requires : goal.places_in-w-requires
places_in-w-requires c =
    let a = c.args in
    let q = asked a.mesh.kind a.mesh.size a.source a.targets.now in
    let clean = told q a.places.now a.counts.now a.ends.now a.hops.now a.wholes.now a.lacking c.in_ok-judge_with.ensures c.few-short.ensures in
    (request_fine (kind_of a.mesh.kind) a.mesh.size a.source a.targets.now
    (judged_passed a.lacking q a.places.now a.counts.now (failed a.stopped.now a.cuts.now) a.ends.now a.hops.now a.wholes.now clean).faultless).known

pub fill-count-requires : goal.fill-count-requires
fill-count-requires c =
    let a = c.args in
    let q = asked a.mesh.kind a.mesh.size a.source a.targets.now in
    let clean = told q a.places.now a.counts.now a.ends.now a.hops.now a.wholes.now a.lacking c.in_ok-judge_with.ensures c.few-short.ensures in
    ready a.lacking q a.places.now a.counts.now (failed a.stopped.now a.cuts.now) a.ends.now a.hops.now a.wholes.now clean c.places_in-w.ensures refl

pub returns : goal.returns
returns c =
    let a = c.args in
    let q = asked a.mesh.kind a.mesh.size a.source a.targets.now in
    let clean = told q a.places.now a.counts.now a.ends.now a.hops.now a.wholes.now a.lacking c.in_ok-judge_with.ensures c.few-short.ensures in
    survived a.lacking q a.places.now a.counts.now (failed a.stopped.now a.cuts.now) a.ends.now a.hops.now a.wholes.now clean c.places_in-w.ensures refl c.fill-count.ensures
