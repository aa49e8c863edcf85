-- Plain routes over every kind. In every mesh that there is, a route is one within the longest path (`known-routed`). So a route that is told visits no relay
-- twice (`route_once`), and what it leaves in a slice of fillers is a fan of one target (`route-fan`). Assumes nothing.
use Rattle.std.specs.Prelude.{ℕ, ◌+◌, ◌≤◌, ◌<◌, ◌≡◌, refl, true, List, [], ◌∷◌, ◌++◌, leb, length, drop, get_or}
use Rattle.std.proofs.Common.{sym, ap, ◌∙◌, subst, arith, leb-false}
use Rattle.std.proofs.Math.Option.{Option, none, some}
use Rattle.std.proofs.Math.ListN.{get_or-append}
use Rattle.std.proofs.lemmas.Bool.{eqb-false}
use Rattle.answers.specs.Order.{append-none, refuse-none, pair_faults, room_faults}
use Rattle.answers.specs.Pairs.{pair_sound}
use Rattle.answers.specs.Told.{told, tell, leaves, number, number_of, value_of}
use Rattle.answers.specs.Laws.{number-some}
use Rattle.answers.specs.declared.Refusal.{Refusal}
use Rattle.answers.specs.declared.Refusal.TheVariants.{NoRoom}
use Rattle.paths.specs.Fan.{filler, Fan}
use Rattle.paths.specs.Lists.{Fresh}
use Rattle.paths.specs.Walk as walk
use Rattle.paths.specs.Walks.{route-length}
use Rattle.paths.specs.Routed as paths
use Rattle.paths.specs.Routed.{Routed}
use Rattle.paths.proofs.Routed.{routed-fan}
use Rattle.cube.specs.Sizes.{known-most}
use Rattle.cube.specs.Route as cube
use Rattle.cube.specs.Once as cubes
use Rattle.two.specs.Next as two
use Rattle.two.proofs.Once as twos
use Rattle.meta_parts.specs.Meta as meta
use Rattle.meta_parts.specs.Sizes.{known-sized}
use Rattle.meta.specs.Next as metaWalk
use Rattle.meta.proofs.Once as metas
use Rattle.mesh.specs.Kinds.{Kind, kind_of, mesh_of, known}
use Rattle.mesh.specs.Laws.{known_case}
use Rattle.mesh.specs.Says.{size_faults_in, route_against, route_told, route_leaves}

-- a value is told only where nothing stands against it
pub value_told : (o : Option Refusal) (v d : ℕ) → tell o 0 v ≡ told 0 0 d → (o ≡ none) × (v ≡ d)
value_told none v d e = (refl, ap value_of e)
value_told (some why) v d e = absurd (eqb-false (number why) 0 (number-some why) (ap number_of e))

-- ---- in every mesh that there is

module _ (k n s t : ℕ) (h : known k n ≡ true) where
  pub known-routed : s < (mesh_of k n).relays → t < (mesh_of k n).relays → Routed (mesh_of k n) ((kind_of k).next n) s t ((kind_of k).hops n s t)
  known-routed = known_case k n h (λ j (K : Kind). s < (K.mesh n).relays → t < (K.mesh n).relays → Routed (K.mesh n) (K.next n) s t (K.hops n s t))
      (λ c hs ht. cubes.plain_routed n s t (omega (arith, known-most n refl c)) hs ht)
      (λ c hs ht. twos.plain_routed n s t hs ht)
      (λ c hs ht. metas.plain_routed (meta.class_bits n) (meta.part_bits n) (known-sized n refl c) t ht s hs)

  -- the route is the repetition of next hop
  pub known-route : (kind_of k).route n s t ≡ walk.route ((kind_of k).next n) s t ((kind_of k).hops n s t)
  unfolding cube.route two.route metaWalk.route
  known-route = known_case k n h (λ j (K : Kind). K.route n s t ≡ walk.route (K.next n) s t (K.hops n s t)) (λ c. refl) (λ c. refl) (λ c. refl)

  pub known_once : s < (mesh_of k n).relays → t < (mesh_of k n).relays → Fresh ((kind_of k).route n s t)
  known_once hs ht = subst Fresh (sym known-route) (paths.route-fresh ((kind_of k).next n) s t ((kind_of k).hops n s t) (known-routed hs ht).arrives)

-- ---- of a route that is told, of h hops

module _ (k n s t : ℕ) (out : List ℕ) (h : ℕ) (e : route_told (kind_of k) n s t out ≡ told 0 0 h) where
  -- what is told and left: the repetition of next hop, at the front of what was there
  pub record Left : Type 0 where
    pub size : known k n ≡ true
    pub source : s < (mesh_of k n).relays
    pub target : t < (mesh_of k n).relays
    pub room : h < length out
    pub routed : Routed (mesh_of k n) ((kind_of k).next n) s t h
    pub left : route_leaves (kind_of k) n s t out ≡ walk.route ((kind_of k).next n) s t h ++ drop (h + 1) out

  pub route-left : Left
  route-left =
      let hops = (kind_of k).hops n s t in
      let v = value_told (route_against (kind_of k) n s t (length out)) hops h e in
      let r = append-none (size_faults_in (kind_of k) n ++ pair_faults (mesh_of k n).relays s t) (room_faults (leb (length out) hops)) v.0 in
      let (z, hs, ht) = pair_sound (known k n) (mesh_of k n).relays s t r.0 in
      record {
        size = z;
        source = hs;
        target = ht;
        room = omega (arith, v.1, leb-false (length out) hops (refuse-none (leb (length out) hops) NoRoom none r.1).0);
        routed = subst (λ (j : ℕ). Routed (mesh_of k n) ((kind_of k).next n) s t j) v.1 (known-routed k n s t z hs ht);
        left = ap (λ (o : Option Refusal). leaves o out ((kind_of k).route n s t ++ drop (hops + 1) out)) v.0
            ∙ ap (λ (l : List ℕ). l ++ drop (hops + 1) out) (known-route k n s t z)
            ∙ ap (λ (j : ℕ). walk.route ((kind_of k).next n) s t j ++ drop (j + 1) out) v.1;
      }

  -- no relay twice
  pub route_once : (i j : ℕ) → i ≤ h → j ≤ h → get_or (route_leaves (kind_of k) n s t out) i 0 ≡ get_or (route_leaves (kind_of k) n s t out) j 0 → i ≡ j
  route_once i j a b same = paths.route_once ((kind_of k).next n) s t h route-left.routed.arrives i j a b (sym (front i a) ∙ same ∙ front j b)
    where
      front : (i : ℕ) → i ≤ h → get_or (route_leaves (kind_of k) n s t out) i 0 ≡ get_or (walk.route ((kind_of k).next n) s t h) i 0
      front i a =
          ap (λ (l : List ℕ). get_or l i 0) route-left.left
          ∙ get_or-append (walk.route ((kind_of k).next n) s t h) (drop (h + 1) out) 0 i (omega (arith, route-length ((kind_of k).next n) s t h))

  -- before fillers it is a fan of one
  pub route-fan : ((p : ℕ) → h < p → p ≤ (mesh_of k n).longest → get_or out p 0 ≡ filler) → Fan (mesh_of k n) s (t ∷ []) (route_leaves (kind_of k) n s t out) (h ∷ [])
  route-fan filled =
      subst (λ (places : List ℕ). Fan (mesh_of k n) s (t ∷ []) places (h ∷ [])) (sym route-left.left)
      (routed-fan (mesh_of k n) ((kind_of k).next n) s t h route-left.routed out filled)
