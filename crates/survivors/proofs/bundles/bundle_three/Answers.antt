-- `survivors::bundles::bundle_three` meets its contract: what the judge finds, else the columns of the bundle. Assumes nothing.
use Rattle.std.proofs.Common.{ℕ, List, Bool, ◌≤◌, ◌≡◌, sym, ◌∙◌, arith, take, replicate, length-take-le}
use mathlib.Core.Option.{none}
use Rattle.std.proofs.lemmas.Result.{err_from_is_err_and}
use Rattle.answers.specs.Order.{first}
use Rattle.paths.specs.Whole.{Failed, failed}
use Rattle.mesh.specs.Kinds.{kind_of, mesh_of}
use Rattle.mesh.specs.Limits.{most_links, ends-links}
use Rattle.mesh.specs.Requests.{ends-fine}
use Rattle.judge.specs.Says.{ruling, Asked, bundle_asked, asked_told}
use Rattle.judge.specs.Asked.{ends-cut}
use Rattle.columns.specs.Says.{bundle_paths}
use Rattle.survivors.specs.Says.{lacking}
use Rattle.survivors.specs.Laws.{fault_survived, judged_passed, ready, survived, bundle_many, bundle_lacking}
use Rattle.survivors.proofs.bundles.bundle_three.Goals as goal

abbrev asked : (kind n s t : ℕ) → Asked
asked kind n s t = bundle_asked (kind_of kind) n s t

-- where nothing is found, no fault stands against what was asked, and there are no more paths than the array has ends
module _ (kind n s t : ℕ) (places counts : List ℕ) (fails : Failed) (ends hops wholes : List ℕ) (wanting : Bool) {k : ℕ} (many : k ≡ bundle_paths (kind_of kind) n)
    (clean : ruling 0 0 0 ≡ asked_told (asked kind n s t) places counts (lacking wanting (asked kind n s t).targets ends hops wholes)) where
  faultless : first (asked kind n s t).faults ≡ none
  faultless = (judged_passed wanting (asked kind n s t) places counts fails ends hops wholes clean).faultless

  few : k ≤ most_links
  few = omega (arith, bundle_many (kind_of kind) n s t many faultless, ends-links kind n s t (ends-fine (kind_of kind) n s t faultless))

  cut : take k (replicate most_links t) ≡ (asked kind n s t).targets
  cut = ends-cut (mesh_of kind n) t most_links (bundle_many (kind_of kind) n s t many faultless) few

pub returns-in_err-judge_bundle_with : goal.returns-in_err-judge_bundle_with
returns-in_err-judge_bundle_with c =
    let a = c.args in
    let p = err_from_is_err_and c.from_residual.result c.from_residual.ensures.1 in
    rw (p.1, p.2)
    (fault_survived a.lacking (asked a.mesh.kind a.mesh.size a.source a.target) a.places.now a.counts.now (failed a.stopped.now a.cuts.now) a.ends.now a.hops.now a.wholes.now _
    (c.in_err-judge_bundle_with.ensures
    ∙ bundle_lacking (kind_of a.mesh.kind) a.mesh.size a.source a.target c.bundle_paths-k.ensures a.lacking a.places.now a.counts.now a.ends.now a.hops.now a.wholes.now c.few-short.ensures))

pub bundle_places_in-w-requires : goal.bundle_places_in-w-requires
bundle_places_in-w-requires c =
    let a = c.args in
    let clean =
    c.in_ok-judge_bundle_with.ensures
    ∙ bundle_lacking (kind_of a.mesh.kind) a.mesh.size a.source a.target c.bundle_paths-k.ensures a.lacking a.places.now a.counts.now a.ends.now a.hops.now a.wholes.now c.few-short.ensures in
    (ends-fine (kind_of a.mesh.kind) a.mesh.size a.source a.target
    (faultless a.mesh.kind a.mesh.size a.source a.target a.places.now a.counts.now (failed a.stopped.now a.cuts.now) a.ends.now a.hops.now a.wholes.now a.lacking c.bundle_paths-k.ensures clean)).known

pub slice_bounds-targets-end : goal.slice_bounds-targets-end
slice_bounds-targets-end c =
    let a = c.args in
    let clean =
    c.in_ok-judge_bundle_with.ensures
    ∙ bundle_lacking (kind_of a.mesh.kind) a.mesh.size a.source a.target c.bundle_paths-k.ensures a.lacking a.places.now a.counts.now a.ends.now a.hops.now a.wholes.now c.few-short.ensures in
    few a.mesh.kind a.mesh.size a.source a.target a.places.now a.counts.now (failed a.stopped.now a.cuts.now) a.ends.now a.hops.now a.wholes.now a.lacking c.bundle_paths-k.ensures clean

pub slice_bounds-fill-end : goal.slice_bounds-fill-end
slice_bounds-fill-end c =
    let a = c.args in
    let clean =
    c.in_ok-judge_bundle_with.ensures
    ∙ bundle_lacking (kind_of a.mesh.kind) a.mesh.size a.source a.target c.bundle_paths-k.ensures a.lacking a.places.now a.counts.now a.ends.now a.hops.now a.wholes.now c.few-short.ensures in
    sym (length-take-le _ _
    (few a.mesh.kind a.mesh.size a.source a.target a.places.now a.counts.now (failed a.stopped.now a.cuts.now) a.ends.now a.hops.now a.wholes.now a.lacking c.bundle_paths-k.ensures clean))

pub fill-requires : goal.fill-requires
fill-requires c =
    let a = c.args in
    let clean =
    c.in_ok-judge_bundle_with.ensures
    ∙ bundle_lacking (kind_of a.mesh.kind) a.mesh.size a.source a.target c.bundle_paths-k.ensures a.lacking a.places.now a.counts.now a.ends.now a.hops.now a.wholes.now c.few-short.ensures in
    ready a.lacking (asked a.mesh.kind a.mesh.size a.source a.target) a.places.now a.counts.now (failed a.stopped.now a.cuts.now) a.ends.now a.hops.now a.wholes.now clean c.bundle_places_in-w.ensures
    (cut a.mesh.kind a.mesh.size a.source a.target a.places.now a.counts.now (failed a.stopped.now a.cuts.now) a.ends.now a.hops.now a.wholes.now a.lacking c.bundle_paths-k.ensures clean)

pub returns : goal.returns
returns c =
    let a = c.args in
    let clean =
    c.in_ok-judge_bundle_with.ensures
    ∙ bundle_lacking (kind_of a.mesh.kind) a.mesh.size a.source a.target c.bundle_paths-k.ensures a.lacking a.places.now a.counts.now a.ends.now a.hops.now a.wholes.now c.few-short.ensures in
    survived a.lacking (asked a.mesh.kind a.mesh.size a.source a.target) a.places.now a.counts.now (failed a.stopped.now a.cuts.now) a.ends.now a.hops.now a.wholes.now clean c.bundle_places_in-w.ensures
    (cut a.mesh.kind a.mesh.size a.source a.target a.places.now a.counts.now (failed a.stopped.now a.cuts.now) a.ends.now a.hops.now a.wholes.now a.lacking c.bundle_paths-k.ensures clean)
    c.fill.ensures
