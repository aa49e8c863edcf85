-- The plain route in the metacube of a size, as code walks it between two relays that nothing stands against: it arrives (`plain_arrives`, `arrives`), every relay on it is
-- one of the mesh (`on-way`), and it has 44 hops at most (`hops-few`). Assumes nothing.
use Rattle.std.specs.Prelude.{ℕ, ◌≤◌, ◌<◌, ◌≡◌}
use Rattle.std.proofs.Common.{sym, subst, arith}
use Rattle.paths.specs.Routed.{Routed}
use Rattle.paths.specs.Walk.{node, Arrives}
use Rattle.requests.specs.Ways.{Between}
use Rattle.meta_parts.specs.Meta.{known, class_bits, part_bits, metacube}
use Rattle.meta_parts.specs.Sizes.{longest-few}
use Rattle.meta_parts.specs.Needs.{Fine, fine-sized}
use Rattle.meta.specs.Needs.{fine}
use Rattle.meta.specs.Says.{next, hops}
use Rattle.meta.proofs.Once.{plain_routed}

pub plain_arrives : (n s t : ℕ) → Between (known n) (metacube n) s t → Routed (metacube n) (next n) s t (hops n s t)
plain_arrives n s t b = plain_routed (class_bits n) (part_bits n) (fine-sized (fine b)) t b.target s b.source

module _ {n s t : ℕ} (f : Fine n s t) where
  abbrev k : ℕ
  k = class_bits n

  abbrev m : ℕ
  m = part_bits n

  pub arrives : Arrives (next n) s t (hops n s t)
  arrives = (plain_routed k m (fine-sized f) t f.target s f.source).arrives

  pub hops-few : hops n s t ≤ 44
  hops-few = omega (arith, (plain_routed k m (fine-sized f) t f.target s f.source).short, longest-few (fine-sized f))

  pub on-way : {at i : ℕ} → i ≤ hops n s t → at ≡ node (next n) s t i → Fine n at t
  on-way {at} {i} l e = record {
    size = f.size;
    source = subst (λ (x : ℕ). x < (metacube n).relays) (sym e) ((plain_routed k m (fine-sized f) t f.target s f.source).below i l);
    target = f.target;
  }
