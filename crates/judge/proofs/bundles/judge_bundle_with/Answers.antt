-- `judge::bundles::judge_bundle_with` meets its contract: what stands against the two ends, room last, else the first finding by a bundle's rules, with
-- the target as the end of each path. Assumes nothing.
use Rattle.std.proofs.Common.{ℕ, ◌≤◌, ◌≡◌, sym, ap, ◌∙◌, List, arith, take, replicate, length-take-le}
use mathlib.Core.Option.{none}
use Rattle.std.proofs.lemmas.Result.{err_from_is_err_and}
use Rattle.paths.specs.Finding.{finding_by}
use Rattle.mesh.specs.Kinds.{kind_of, mesh_of}
use Rattle.mesh.specs.Limits.{most_links, ends-links}
use Rattle.mesh.specs.Requests.{Ends, ends-fine}
use Rattle.judge.specs.Says.{rule, Asked, bundle_asked, asked_finding}
use Rattle.judge.specs.Asked.{told_refused, told-short, told_granted, by_lack, by_short, passed, passed_lent, bundle_cramped, ends-cut}
use Rattle.judge.proofs.bundles.judge_bundle_with.Goals as goal
use Rattle.judge.proofs.bundles.judge_bundle_with.Goals.{then-lacking-via-then-lacking, then-lacking-via-else-lacking+then-bundle_short}

abbrev asked : (kind n s t : ℕ) → Asked
asked kind n s t = bundle_asked (kind_of kind) n s t

pub returns-in_err-ends : goal.returns-in_err-ends
returns-in_err-ends c =
    let a = c.args in
    let p = err_from_is_err_and c.from_residual.result c.from_residual.ensures.1 in
    rw (p.1, p.2) (told_refused (asked a.mesh.kind a.mesh.size a.source a.target) a.places.now a.counts.now a.lacking c.in_err-ends.ensures)

pub bundle_short-requires : goal.bundle_short-requires
bundle_short-requires c = let a = c.args in (ends-fine (kind_of a.mesh.kind) a.mesh.size a.source a.target (sym c.in_ok-ends.ensures)).known

pub returns-then-lacking : goal.returns-then-lacking
returns-then-lacking c =
    let a = c.args in
    let q = asked a.mesh.kind a.mesh.size a.source a.target in
    let same = bundle_cramped (kind_of a.mesh.kind) a.mesh.size a.source a.target a.places.now a.counts.now in
    told-short q a.places.now a.counts.now a.lacking c.in_ok-ends.ensures
    (elim c.then-lacking.branch [
      | then-lacking-via-then-lacking w ↦ by_lack q a.places.now a.counts.now a.lacking w.if-lacking.true
      | then-lacking-via-else-lacking+then-bundle_short w ↦
          by_short q a.places.now a.counts.now a.lacking w.if-lacking.false (w.bundle_short.ensures ∙ sym same) w.if-bundle_short.true
    ])

pub bundle_places_in-requires : goal.bundle_places_in-requires
bundle_places_in-requires c = let a = c.args in (ends-fine (kind_of a.mesh.kind) a.mesh.size a.source a.target (sym c.in_ok-ends.ensures)).known

pub links_in-k-requires : goal.links_in-k-requires
links_in-k-requires c = let a = c.args in (ends-fine (kind_of a.mesh.kind) a.mesh.size a.source a.target (sym c.in_ok-ends.ensures)).known

-- no more links than the array has ends
few : (kind n s t : ℕ) {k : ℕ} → Ends (kind_of kind) n s t → k ≡ (mesh_of kind n).links → k ≤ most_links
few kind n s t fine e = omega (arith, ends-links kind n s t fine)

pub slice_bounds-targets-end : goal.slice_bounds-targets-end
slice_bounds-targets-end c =
    let a = c.args in
    few a.mesh.kind a.mesh.size a.source a.target (ends-fine (kind_of a.mesh.kind) a.mesh.size a.source a.target (sym c.in_ok-ends.ensures)) c.links_in-k.ensures

pub slice_bounds-first_finding-end : goal.slice_bounds-first_finding-end
slice_bounds-first_finding-end c =
    let a = c.args in
    sym (length-take-le _ _
    (few a.mesh.kind a.mesh.size a.source a.target (ends-fine (kind_of a.mesh.kind) a.mesh.size a.source a.target (sym c.in_ok-ends.ensures)) c.links_in-k.ensures))

pub first_finding-requires : goal.first_finding-requires
first_finding-requires c =
    let a = c.args in
    let q = asked a.mesh.kind a.mesh.size a.source a.target in
    let fine = ends-fine (kind_of a.mesh.kind) a.mesh.size a.source a.target (sym c.in_ok-ends.ensures) in
    let same = bundle_cramped (kind_of a.mesh.kind) a.mesh.size a.source a.target a.places.now a.counts.now in
    let wanted = by_short q a.places.now a.counts.now a.lacking c.if-lacking.false (c.bundle_short.ensures ∙ sym same) c.if-bundle_short.false in
    let cut = ends-cut (mesh_of a.mesh.kind a.mesh.size) a.target most_links c.links_in-k.ensures (few a.mesh.kind a.mesh.size a.source a.target fine c.links_in-k.ensures) in
    let l = passed_lent (passed q a.places.now a.counts.now a.lacking c.in_ok-ends.ensures wanted) cut c.bundle_places_in.ensures in
    record { ruled = record { known = fine.known; wide = c.bundle_places_in.ensures }; room = l.0; counted = l.1 }

-- what the search tells of the ends that were cut from the array
found_told : (kind n s t : ℕ) (places counts : List ℕ) {k : ℕ} → Ends (kind_of kind) n s t → k ≡ (mesh_of kind n).links
    → rule none (finding_by (asked kind n s t).rules s (take k (replicate most_links t)) places counts) ≡ rule none (asked_finding (asked kind n s t) places counts)
found_told kind n s t places counts fine e =
    ap (λ (l : List ℕ). rule none (finding_by (asked kind n s t).rules s l places counts)) (ends-cut (mesh_of kind n) t most_links e (few kind n s t fine e))

pub returns-in_err-first_finding : goal.returns-in_err-first_finding
returns-in_err-first_finding c =
    let a = c.args in
    let q = asked a.mesh.kind a.mesh.size a.source a.target in
    let fine = ends-fine (kind_of a.mesh.kind) a.mesh.size a.source a.target (sym c.in_ok-ends.ensures) in
    let same = bundle_cramped (kind_of a.mesh.kind) a.mesh.size a.source a.target a.places.now a.counts.now in
    let wanted = by_short q a.places.now a.counts.now a.lacking c.if-lacking.false (c.bundle_short.ensures ∙ sym same) c.if-bundle_short.false in
    let r = c.from_residual-in_err-first_finding in
    let p = err_from_is_err_and r.result r.ensures.1 in
    rw (p.1, p.2)
    (ap (rule none) c.in_err-first_finding.ensures
    ∙ found_told a.mesh.kind a.mesh.size a.source a.target a.places.now a.counts.now fine c.links_in-k.ensures
    ∙ told_granted q a.places.now a.counts.now a.lacking c.in_ok-ends.ensures wanted)

pub returns : goal.returns
returns c =
    let a = c.args in
    let q = asked a.mesh.kind a.mesh.size a.source a.target in
    let fine = ends-fine (kind_of a.mesh.kind) a.mesh.size a.source a.target (sym c.in_ok-ends.ensures) in
    let same = bundle_cramped (kind_of a.mesh.kind) a.mesh.size a.source a.target a.places.now a.counts.now in
    let wanted = by_short q a.places.now a.counts.now a.lacking c.if-lacking.false (c.bundle_short.ensures ∙ sym same) c.if-bundle_short.false in
    ap (rule none) c.in_ok-first_finding.ensures
    ∙ found_told a.mesh.kind a.mesh.size a.source a.target a.places.now a.counts.now fine c.links_in-k.ensures
    ∙ told_granted q a.places.now a.counts.now a.lacking c.in_ok-ends.ensures wanted
