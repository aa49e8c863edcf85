-- What the judge passes, beside distances and plain routes. No path of a fan that it passes has fewer hops than the distance that is told between its ends
-- (`judged_least`; of a bundle `judged_bundle_least`); and a plain route that is told, of two relays in a mesh of any size and kind, written over a slice of fillers, is a fan of one target that
-- it passes (`route-judged`). Assumes nothing.
use Prim.Native.Nat.{ℕ, zero, suc, ◌+◌, ◌*◌, ◌≤◌, ◌<◌}
use Rattle.std.specs.Prelude.{◌≡◌, refl, Bool, true, false, ◌≢◌, Result, Ok, ⊤, List, [], ◌∷◌, length, drop, get_or}
use Rattle.std.proofs.Common.{sym, ap, ◌∙◌, subst, length-append, length-drop, ne_eqb, le-ltb}
use Rattle.std.proofs.Math.Option.{none}
use native.Mathlib.Omega.{arith}
use Rattle.std.proofs.lemmas.Bool.{lt-leb}
use Rattle.scan.specs.Scan.{nowhere}
use Rattle.scan.specs.Laws.{none-seek, false-among}
use Rattle.answers.specs.Order.{is_out, is_same, is_again, first_at}
use Rattle.answers.specs.Told.{told}
use Rattle.paths.specs.Mesh.{width}
use Rattle.paths.specs.Fan.{filler, hops}
use Rattle.paths.specs.Walk.{node}
use Rattle.paths.specs.Walk as walk
use Rattle.paths.specs.Walks.{route-length}
use Rattle.paths.specs.Routed.{Routed}
use Rattle.mesh.specs.Kinds.{kind_of, mesh_of, known}
use Rattle.mesh.specs.Laws.{known-near}
use Rattle.mesh.specs.Says.{route_told, route_leaves}
use Rattle.mesh.specs.Plain.{Left, route-left, route-fan}
use Rattle.mesh.specs.Metric.{Far, told-fan, told_bundle}
use Rattle.judge.specs.Says.{verdict_told, judge_against, judge_told, bundle_told}
use Rattle.judge.specs.Judged.{judged-fan, fan-judged, judged_bundle}
use Rattle.judge.specs.declared.Fault.{Fault}

pub judged_least : (k n s : ℕ) (targets places counts : List ℕ) (lacking : Bool) (v : Result ⊤ Fault)
    → verdict_told v ≡ judge_told (kind_of k) n s targets places counts lacking → v ≡ Ok tt
    → (i d : ℕ) → i < length targets → Far k n s (get_or targets i 0) d → d ≤ hops counts i
judged_least k n s targets places counts lacking v says e i d h far =
    told-fan k n s (get_or targets i 0) d targets places counts i far (judged-fan (kind_of k) n s targets places counts lacking v says e).1 h refl

pub judged_bundle_least : (k n s t : ℕ) (places counts : List ℕ) (lacking : Bool) (v : Result ⊤ Fault)
    → verdict_told v ≡ bundle_told (kind_of k) n s t places counts lacking → v ≡ Ok tt
    → (i d : ℕ) → i < (mesh_of k n).links → Far k n s t d → d ≤ hops counts i
judged_bundle_least k n s t places counts lacking v says e i d h far =
    told_bundle k n s t d places counts i far (judged_bundle (kind_of k) n s t places counts lacking v says e).1 h

-- ---- a request of one target

module _ (k n s t : ℕ) (size : known k n ≡ true) (hs : s < (mesh_of k n).relays) (ht : t < (mesh_of k n).relays) (ne : s ≢ t) where
  -- no test of the one target holds
  one_none : (test : ℕ → Bool) → test 0 ≡ false → first_at (t ∷ []) test ≡ nowhere
  one_none test e = none-seek test 0 1 (λ j a b. let z : 0 ≡ j = omega arith in subst (λ (x : ℕ). test x ≡ false) z e)

  pub one-against : (places : List ℕ) (h : ℕ) → 0 < (mesh_of k n).links → width (mesh_of k n) ≤ length places
      → judge_against (kind_of k) n s (t ∷ []) places (h ∷ []) false ≡ none
  one-against places h some room =
      let wide : 1 * width (mesh_of k n) ≤ length places = omega arith in
      simp (
        size,
        lt-leb (mesh_of k n).relays s hs,
        le-ltb (mesh_of k n).links 1 some,
        one_none (is_out (mesh_of k n).relays (t ∷ [])) (lt-leb (mesh_of k n).relays t ht),
        one_none (is_same s (t ∷ [])) (ne_eqb t s (λ e. ne (sym e))),
        one_none (is_again (t ∷ [])) (false-among (t ∷ []) 0 0 t (λ j a b. absurd (omega arith))),
        le-ltb (length places) (1 * width (mesh_of k n)) wide,
      )

-- ---- a plain route that is told, of h hops

module _ (k n s t : ℕ) (out : List ℕ) (h : ℕ) (e : route_told (kind_of k) n s t out ≡ told 0 0 h) where
  abbrev left : Left k n s t out h e
  left = route-left k n s t out h e

  -- between two relays there is a first hop, so a link
  linked : s ≢ t → 0 < (mesh_of k n).links
  unfolding node
  linked ne = go h left.routed
    where
      go : (h : ℕ) → Routed (mesh_of k n) ((kind_of k).next n) s t h → 0 < (mesh_of k n).links
      go zero r = absurd (ne r.arrives.there)
      go (suc h) r =
          let (i, l, is) = (known-near k n left.size).all s ((kind_of k).next n s t) left.source (r.below 1 (omega arith)) (r.linked 0 (omega arith)) in
          omega arith

  long : length (route_leaves (kind_of k) n s t out) ≡ length out
  long =
      let route = walk.route ((kind_of k).next n) s t h in
      let whole : length route + length (drop (h + 1) out) ≡ length out = omega (arith, route-length ((kind_of k).next n) s t h, length-drop (h + 1) out, left.room) in
      ap length left.left ∙ length-append route (drop (h + 1) out) ∙ whole

  pub route-judged : s ≢ t → width (mesh_of k n) ≤ length out → ((p : ℕ) → h < p → p ≤ (mesh_of k n).longest → get_or out p 0 ≡ filler)
      → (v : Result ⊤ Fault) → verdict_told v ≡ judge_told (kind_of k) n s (t ∷ []) (route_leaves (kind_of k) n s t out) (h ∷ []) false → v ≡ Ok tt
  route-judged ne room filled v says =
      fan-judged (kind_of k) n s (t ∷ []) (route_leaves (kind_of k) n s t out) (h ∷ []) false v says
      (one-against k n s t left.size left.source left.target ne (route_leaves (kind_of k) n s t out) h (linked ne) (omega (arith, long)))
      (route-fan k n s t out h e filled)
