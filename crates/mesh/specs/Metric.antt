-- Distances that are told, over every kind: each is the length of a shortest way (`told_shortest`). So it is told the same from either end (`told_same`), 0
-- exactly between a relay and itself (`told_none`, `told-home`), at most the sum by way of any third relay (`told_by`), at most the hops of any path of a
-- fan or a bundle (`told-fan`, `told_bundle`), and at most the hops of the plain route that is told (`told-route`). Assumes nothing.
use Rattle.std.specs.Prelude.{ℕ, ◌+◌, ◌≤◌, ◌<◌, ◌≡◌, refl, Bool, true, false, List, ◌++◌, length, get_or}
use Rattle.std.proofs.Common.{sym, ap, ◌∙◌, subst, ltb-false}
use Rattle.std.proofs.Math.Option.{Option}
use Rattle.scan.specs.Laws.{true-false}
use Rattle.answers.specs.Order.{first, refuse-none, distance_faults, pair_faults}
use Rattle.answers.specs.Pairs.{pair_sound, pair-fine}
use Rattle.answers.specs.Told.{told, tell}
use Rattle.answers.specs.declared.Refusal.{Refusal}
use Rattle.answers.specs.declared.Refusal.TheVariants.{NoDistance}
use Rattle.paths.specs.Fan.{Fan, hops}
use Rattle.paths.specs.Bundles.{Bundle}
use Rattle.paths.specs.Ways.{Shortest, distance, shortest_one}
use Rattle.paths.specs.Metric.{shortest_back, shortest_none, shortest_home, shortest_by, fan_least, bundle_least}
use Rattle.paths.proofs.Routed.{routed-way}
use Rattle.two_parts.specs.Parts.{known_bounds}
use Rattle.two_distance.proofs.Moved.{distance_is}
use Rattle.mesh.specs.Kinds.{Kind, kind_of, mesh_of, known}
use Rattle.mesh.specs.Laws.{known_case, known-near, known-planned, served-fine}
use Rattle.mesh.specs.Requests.{served_sound}
use Rattle.mesh.specs.Says.{distance_faults_in, distance_told, route_told}
use Rattle.mesh.specs.Plain.{value_told, route-left}

module _ (k n : ℕ) where
  -- d is told of s and t
  abbrev pub Far : (s t d : ℕ) → Type 0
  Far s t d = distance_told (kind_of k) n s t ≡ told 0 0 d

  -- what is answered
  pub record Answered (s t : ℕ) : Type 0 where
    pub size : known k n ≡ true
    pub served : (kind_of k).planned ≡ true
    pub near : (kind_of k).undistanced n ≡ false
    pub source : s < (mesh_of k n).relays
    pub target : t < (mesh_of k n).relays

  pub far_answered : (s t d : ℕ) → Far s t d → Answered s t × (distance (mesh_of k n) s t ≡ d)
  far_answered s t d e =
      let v = value_told (first (distance_faults_in (kind_of k) n s t)) (distance (mesh_of k n) s t) d e in
      let (z, p, r) = served_sound (kind_of k) n (distance_faults ((kind_of k).undistanced n) ++ pair_faults (mesh_of k n).relays s t) v.0 in
      let b = refuse-none ((kind_of k).undistanced n) NoDistance (first (pair_faults (mesh_of k n).relays s t)) r in
      let (y, hs, ht) = pair_sound true (mesh_of k n).relays s t b.1 in
      (record { size = z; served = p; near = b.0; source = hs; target = ht }, v.1)

  answered_far : (s t : ℕ) → Answered s t → Far s t (distance (mesh_of k n) s t)
  answered_far s t a =
      ap (λ (o : Option Refusal). tell o 0 (distance (mesh_of k n) s t)) (sym (served-fine k n (distance_faults ((kind_of k).undistanced n) ++ pair_faults (mesh_of k n).relays s t) (sym (known-planned k n a.size a.served)) refl))
      ∙ ap (λ (y : Bool). tell (first (distance_faults y ++ pair_faults (mesh_of k n).relays s t)) 0 (distance (mesh_of k n) s t)) a.near
      ∙ ap (λ (o : Option Refusal). tell o 0 (distance (mesh_of k n) s t)) (sym (pair-fine (mesh_of k n).relays s t {r = true} {known = true} refl refl a.source a.target))

  answered_shortest : (s t : ℕ) → Answered s t → Shortest (mesh_of k n) s t (distance (mesh_of k n) s t)
  answered_shortest s t a =
      known_case k n a.size
      (λ j (K : Kind). K.undistanced n ≡ false → s < (K.mesh n).relays → t < (K.mesh n).relays → Shortest (K.mesh n) s t (distance (K.mesh n) s t))
      (λ c f hs ht. absurd (true-false refl f))
      (λ c f hs ht. distance_is n s t (known_bounds n c).0 (ltb-false 3 n f) hs ht)
      (λ c f hs ht. absurd (true-false refl f))
      a.near a.source a.target

  pub told_shortest : (s t d : ℕ) → Far s t d → Shortest (mesh_of k n) s t d
  told_shortest s t d e = let (a, is) = far_answered s t d e in subst (λ (j : ℕ). Shortest (mesh_of k n) s t j) is (answered_shortest s t a)

  pub told_same : (s t d : ℕ) → Far s t d → Far t s d
  told_same s t d e =
      let (a, is) = far_answered s t d e in
      let b : Answered t s = record { size = a.size; served = a.served; near = a.near; source = a.target; target = a.source } in
      let back = shortest_back (mesh_of k n) (known-near k n a.size).both t s (distance (mesh_of k n) t s) a.target a.source (answered_shortest t s b) in
      subst (λ (j : ℕ). Far t s j) (shortest_one (mesh_of k n) s t (distance (mesh_of k n) t s) d back (told_shortest s t d e)) (answered_far t s b)

  pub told_none : (s t d : ℕ) → Far s t d → d ≡ 0 → s ≡ t
  told_none s t d e z = shortest_none (mesh_of k n) s t d (told_shortest s t d e) z

  pub told-home : (s t d : ℕ) → Far s t d → s ≡ t → d ≡ 0
  told-home s t d e z = shortest_home (mesh_of k n) s t d (told_shortest s t d e) z

  pub told_by : (s v t d a b : ℕ) → Far s t d → Far s v a → Far v t b → d ≤ a + b
  told_by s v t d a b e x y =
      shortest_by (mesh_of k n) s v t d a b (told_shortest s t d e) (told_shortest s v a x) (told_shortest v t b y)

  pub told-fan : (s t d : ℕ) (targets places counts : List ℕ) (i : ℕ) → Far s t d → Fan (mesh_of k n) s targets places counts → i < length targets
      → get_or targets i 0 ≡ t → d ≤ hops counts i
  told-fan s t d targets places counts i e f h is = fan_least (mesh_of k n) s t d (told_shortest s t d e).least places counts i targets f h is

  pub told_bundle : (s t d : ℕ) (places counts : List ℕ) (i : ℕ) → Far s t d → Bundle (mesh_of k n) s t places counts → i < (mesh_of k n).links → d ≤ hops counts i
  told_bundle s t d places counts i e b h = bundle_least (mesh_of k n) s t d (told_shortest s t d e).least places counts i b h

  pub told-route : (s t d h : ℕ) (out : List ℕ) → Far s t d → route_told (kind_of k) n s t out ≡ told 0 0 h → d ≤ h
  told-route s t d h out e r =
      (told_shortest s t d e).least h (routed-way (mesh_of k n) ((kind_of k).next n) s t h (route-left k n s t out h r).routed)
