-- The ends of the fan that a bundle is made of, chosen one by one (`Chosen`): a request for them is one that nothing stands against (`ends_clear`). Assumes nothing.
use Rattle.std.specs.Prelude.{ℕ, ◌+◌, ◌≤◌, ◌<◌, ◌≡◌, refl, false, ◌≢◌, List, length, get_or, set, take}
use Rattle.std.proofs.Common.{sym, ap, ◌∙◌, subst, arith, get_or-set_same, get_or-set_other, get_or-take, length-take-le}
use Rattle.std.proofs.Math.Option.{none}
use Rattle.std.proofs.Math.Decide.{ℕ_discrete}
use Rattle.answers.specs.Order.{request_faults}
use Rattle.paths.specs.Mesh.{Mesh}
use Rattle.paths.specs.Links.{Links}
use Rattle.paths.specs.Bundle.{end_of, end-other, end_below, end_differ}
use Rattle.requests.specs.Sound.{Sound, sound_clear}
use Rattle.mesh.specs.Kinds.{kind_of, mesh_of}
use Rattle.mesh.specs.Laws.{known-near, known-planned, served-fine}
use Rattle.mesh.specs.Limits.{known-linked}
use Rattle.mesh.specs.Says.{planned_against}
use Rattle.mesh.specs.Requests.{Ends}

-- the first k numbers are the ends of the paths that come by the first k links of t
pub record Chosen (near : ℕ → ℕ → ℕ) (s t k : ℕ) (l : List ℕ) : Type 0 where
  pub is : (i : ℕ) → i < k → get_or l i 0 ≡ end_of near s t i

pub chosen_none : (near : ℕ → ℕ → ℕ) (s t k : ℕ) (l : List ℕ) → k ≡ 0 → Chosen near s t k l
chosen_none near s t k l e = record { is = λ i h. absurd (omega arith) }

pub chosen_more : {near : ℕ → ℕ → ℕ} {s t k x : ℕ} {l : List ℕ} → Chosen near s t k l → k < length l → x ≡ end_of near s t k → Chosen near s t (k + 1) (set l k x)
chosen_more {near} {s} {t} {k} {x} {l} a h e = record { is = λ i g. go i g (ℕ_discrete i k) }
  where
    go : (i : ℕ) → i < k + 1 → Dec (i ≡ k) → get_or (set l k x) i 0 ≡ end_of near s t i
    go i g (yes z) = ap (λ (y : ℕ). get_or (set l k x) y 0) z ∙ get_or-set_same l k x 0 h ∙ e ∙ ap (end_of near s t) (sym z)
    go i g (no ne) = get_or-set_other l k i x 0 ne ∙ a.is i (omega arith)

pub chosen_all : {near : ℕ → ℕ → ℕ} {s t i k : ℕ} {l : List ℕ} → i ≡ k → Chosen near s t i l → Chosen near s t k l
chosen_all {near} {s} {t} {i} {k} {l} e a = subst (λ (y : ℕ). Chosen near s t y l) e a

-- ---- a request for them

module _ (kind n s t k : ℕ) (e : Ends (kind_of kind) n s t) (links : k ≡ (mesh_of kind n).links) (l : List ℕ) (room : k ≤ length l) (c : Chosen ((kind_of kind).near n) s t k l) where
  abbrev m : Mesh
  m = mesh_of kind n

  abbrev near : ℕ → ℕ → ℕ
  near = (kind_of kind).near n

  laws : Links (mesh_of kind n) ((kind_of kind).near n)
  laws = known-near kind n e.known

  pub ends_many : length (take k l) ≡ (mesh_of kind n).links
  ends_many = length-take-le k l room ∙ links

  pub ends-each : (i : ℕ) → i < (mesh_of kind n).links → get_or (take k l) i 0 ≡ end_of ((kind_of kind).near n) s t i
  ends-each i h = let lt : i < k = omega arith in get_or-take k l i 0 lt ∙ c.is i lt

  away : s ≢ t
  away z = e.other (sym z)

  below : (i : ℕ) → i < length (take k l) → i < m.links
  below i h = omega (arith, ends_many)

  sound : Sound m.relays m.links s (take k l)
  sound = record {
    source = e.source;
    some-target = omega (arith, ends_many, known-linked kind n e.known);
    few = omega (arith, ends_many);
    below = λ i h. subst (λ (x : ℕ). x < m.relays) (sym (ends-each i (below i h))) (end_below m near laws s t e.source e.target away i (below i h));
    other = λ i h z. end-other m near laws s t e.source e.target away i (below i h) (sym (ends-each i (below i h)) ∙ z);
    differ = λ i j h g ne z. ne (end_differ m near laws s t e.source e.target away i j (below i h) (below j g)
        (sym (ends-each i (below i h)) ∙ z ∙ ends-each j (below j g)));
  }

  pub ends_clear : planned_against (kind_of kind) n s (take k l) false ≡ none
  ends_clear =
      sym (served-fine kind n (request_faults m.relays m.links s (take k l)) (sym (known-planned kind n e.known e.planned)) refl)
      ∙ sound_clear m.relays m.links s (take k l) sound
