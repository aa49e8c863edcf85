-- What links, a next hop and a plain route tell, over any kind of mesh, and what is asked of two relays. Assumes nothing.
use Rattle.std.specs.Prelude.{ℕ, ◌+◌, ◌<◌, ◌≤◌, ◌≡◌, Bool, true, false, List, ◌++◌, leb, length, drop}
use Rattle.std.proofs.Common.{sym, ap, subst, ◌∙◌}
use Rattle.std.proofs.Math.Option.{Option, none}
use Rattle.answers.specs.Order.{first, room_faults}
use Rattle.answers.specs.Pairs.{pair_sound}
use Rattle.answers.specs.Told.{Told, tell, leaves}
use Rattle.answers.specs.declared.Refusal.{Refusal}
use Rattle.paths.specs.Mesh.{Mesh}
use Rattle.paths.specs.Routed.{Routed}
use Rattle.paths.specs.Walk as walk
use Rattle.paths.specs.Walks.{node-more}
use Rattle.requests.specs.Facts.{pair_faults_of}

-- two relays of a mesh that there is
pub record Between (known : Bool) (m : Mesh) (s t : ℕ) : Type 0 where
  pub there-is : known ≡ true
  pub source : s < m.relays
  pub target : t < m.relays

-- a pair against which nothing stands
pub between : (known : Bool) (m : Mesh) (s t : ℕ) → none ≡ first (pair_faults_of known m.relays s t) → Between known m s t
between known m s t e =
    let p = pair_sound known m.relays s t (sym e) in
    record { there-is = p.0; source = p.1; target = p.2 }

-- a relay on the way is one too
pub on_way : {known : Bool} {m : Mesh} {next : ℕ → ℕ → ℕ} {s t h k at : ℕ} → Between known m s t → Routed m next s t h → k ≤ h → at ≡ walk.node next s t k → Between known m at t
on_way {m = m} {k = k} b way l e = record {
  there-is = b.there-is;
  source = subst (λ (x : ℕ). x < m.relays) (sym e) (way.below k l);
  target = b.target;
}

-- one hop further
pub hop_on : (next : ℕ → ℕ → ℕ) (s t k : ℕ) {at to : ℕ} → at ≡ walk.node next s t k → to ≡ next at t → to ≡ walk.node next s t (k + 1)
hop_on next s t k e f = f ∙ ap (λ (x : ℕ). next x t) e ∙ node-more next s t k

abbrev pub linked_told : (known : Bool) (m : Mesh) (s t : ℕ) → Told Bool
linked_told known m s t = tell (first (pair_faults_of known m.relays s t)) false (m.linked s t)

abbrev pub next_told : (known : Bool) (m : Mesh) (next : ℕ → ℕ → ℕ) (s t : ℕ) → Told ℕ
next_told known m next s t = tell (first (pair_faults_of known m.relays s t)) 0 (next s t)

-- 1, 2, 5, and 8 where there are not more places than hops
abbrev pub route_against : (known : Bool) (m : Mesh) (hops s t places : ℕ) → Option Refusal
route_against known m hops s t places = first (pair_faults_of known m.relays s t ++ room_faults (leb places hops))

abbrev pub route_told : (known : Bool) (m : Mesh) (hops s t : ℕ) (out : List ℕ) → Told ℕ
route_told known m hops s t out = tell (route_against known m hops s t (length out)) 0 hops

-- the route at the front of what was there
abbrev pub routed : (next : ℕ → ℕ → ℕ) (hops s t : ℕ) (out : List ℕ) → List ℕ
routed next hops s t out = walk.route next s t hops ++ drop (hops + 1) out

abbrev pub route_leaves : (known : Bool) (m : Mesh) (next : ℕ → ℕ → ℕ) (hops s t : ℕ) (out : List ℕ) → List ℕ
route_leaves known m next hops s t out = leaves (route_against known m hops s t (length out)) out (routed next hops s t out)
