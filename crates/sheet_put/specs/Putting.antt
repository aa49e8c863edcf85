-- Why the functions that write paths keep their promises: the loops over relays (`Relayed`) and paths (`Laying`), and one path put together
-- (`path-put`). Assumes nothing.
use Prim.Native.Nat.{ℕ, zero, suc, ◌+◌, ◌*◌, ◌≤◌, ◌<◌}
use Rattle.std.specs.Prelude.{◌≡◌, refl, get_or}
use Rattle.std.proofs.Common.{sym, ◌∙◌, add-one, arith}
use Rattle.std.proofs.Math.Path.{ap, ap₂}
use mathlib.Core.List.{List, [], ◌∷◌, ◌++◌, append_assoc, append-nil}
use Rattle.std.proofs.Math.ListN.{length}
use Rattle.std.proofs.Math.Seq.{sets, length-sets}
use Rattle.octets.specs.Big.{big, big-length}
use Rattle.paths.specs.Fan.{hops}
use Rattle.paths.specs.Lists.{ahead, ahead-length}
use Rattle.paths.specs.Read.{read}
use Rattle.paths.specs.Places.{row_below}
use Rattle.sheet.specs.Format.{head, zone_bytes, relays_bytes, path_bytes, paths_bytes, paths_from, paths_of}
use Rattle.sheet.specs.Lengths.{zone_length, relays-length}
use Rattle.sheet.specs.Pieces.{after-put}
use Rattle.sheet_put.specs.Needs.{Paths}
use Rattle.sheet_put.specs.Total.{total, total-more, paths_of-more, paths-total, total_within}

pub ahead_more : (l : List ℕ) (from n : ℕ) → ahead l from (suc n) ≡ ahead l from n ++ (get_or l (from + n) 0 ∷ [])
unfolding ahead
ahead_more l from zero = ap (λ (i : ℕ). get_or l i 0 ∷ []) (omega arith)
ahead_more l from (suc n) =
    ap (λ (r : List ℕ). get_or l from 0 ∷ r) (ahead_more l (suc from) n)
    ∙ ap (λ (i : ℕ). get_or l from 0 ∷ (ahead l (suc from) n ++ (get_or l i 0 ∷ []))) (omega arith)

relays-more : (l : List ℕ) (x : ℕ) → relays_bytes (l ++ (x ∷ [])) ≡ relays_bytes l ++ big 8 x
unfolding relays_bytes
relays-more [] x = append-nil (big 8 x)
relays-more (y ∷ l) x = ap (λ (r : List ℕ). big 8 y ++ r) (relays-more l x) ∙ sym (append_assoc (big 8 y) (relays_bytes l) (big 8 x))

pub record Relayed (places : List ℕ) (from n at : ℕ) (out₀ out : List ℕ) (i : ℕ) : Type 0 where
  pub within : i ≤ n
  pub long : length out ≡ length out₀
  pub is : out ≡ sets out₀ at (relays_bytes (ahead places from i))

pub relayed_starts : (places : List ℕ) (from n at : ℕ) (out : List ℕ) → Relayed places from n at out out 0
unfolding relays_bytes ahead
relayed_starts places from n at out = record { within = omega arith; long = refl; is = refl }

pub relayed_more : {places : List ℕ} {from n at : ℕ} {out₀ out out₁ : List ℕ} {i x : ℕ} → Relayed places from n at out₀ out i → i < n → x ≡ get_or places (from + i) 0
    → out₁ ≡ sets out (at + i * 8) (big 8 x) → Relayed places from n at out₀ out₁ (i + 1)
relayed_more {places} {from} {n} {at} {out₀} {out} {out₁} {i} {x} v l e p = record {
  within = omega arith;
  long = ap length p ∙ length-sets out (at + i * 8) (big 8 x) ∙ v.long;
  is =
      p ∙ ap (λ (o : List ℕ). sets o (at + i * 8) (big 8 x)) v.is
      ∙ after-put run (big 8 x) out₀ at (at + i * 8) (omega (arith, relays-length (ahead places from i), ahead-length places from i))
      ∙ ap (λ (y : ℕ). sets out₀ at (run ++ big 8 y)) e
      ∙ ap (sets out₀ at) (sym (relays-more (ahead places from i) (get_or places (from + i) 0)) ∙ ap relays_bytes (sym (ahead_more places from i) ∙ ap (ahead places from) (sym (add-one i))));
}
  where
    run : List ℕ
    run = relays_bytes (ahead places from i)

pub relayed_ends : {places : List ℕ} {from n at : ℕ} {out₀ out : List ℕ} {i : ℕ} → Relayed places from n at out₀ out i → n ≤ i → out ≡ sets out₀ at (relays_bytes (ahead places from n))
relayed_ends {places} {from} {n} {at} {out₀} {out} {i} v l = v.is ∙ ap (λ (j : ℕ). sets out₀ at (relays_bytes (ahead places from j))) (omega (arith, v.within))

pub path-put : (v zone : ℕ) (places : List ℕ) (from h at : ℕ) (out₀ : List ℕ) {head₁ : ℕ} {out₁ out₂ out₃ : List ℕ} → head₁ ≡ head v → out₁ ≡ sets out₀ at (big 2 h) → out₂ ≡ sets out₁ (at + 2) (zone_bytes v zone)
    → out₃ ≡ sets out₂ (at + head₁) (relays_bytes (ahead places from h)) → out₃ ≡ sets out₀ at (path_bytes v zone (ahead places from h))
unfolding path_bytes
path-put v zone places from h at out₀ {head₁} {out₁} {out₂} {out₃} e p q r =
    let run = relays_bytes (ahead places from h) in
    r ∙ ap₂ (λ (o : List ℕ) (i : ℕ). sets o (at + i) run) q e
    ∙ after-put (zone_bytes v zone) run out₁ (at + 2) (at + head v) (omega (arith, zone_length v zone))
    ∙ ap (λ (o : List ℕ). sets o (at + 2) (zone_bytes v zone ++ run)) p
    ∙ after-put (big 2 h) (zone_bytes v zone ++ run) out₀ at (at + 2) (omega (arith, big-length 2 h))
    ∙ ap (λ (n : ℕ). sets out₀ at (big 2 n ++ (zone_bytes v zone ++ run))) (sym (ahead-length places from h))

pub record Laying (v w : ℕ) (places counts zones : List ℕ) (k at : ℕ) (out₀ out : List ℕ) (to i : ℕ) : Type 0 where
  pub asked : Paths w k (length places) counts
  pub within : i ≤ k
  pub room : at + total v counts k ≤ length out₀
  pub to_is : to ≡ at + total v counts i
  pub long : length out ≡ length out₀
  pub is : out ≡ sets out₀ at (paths_bytes v zones (paths_of w places counts i))

pub laying_starts : {v w : ℕ} {places counts zones : List ℕ} {k at : ℕ} {out : List ℕ} → Paths w k (length places) counts → at + total v counts k ≤ length out → Laying v w places counts zones k at out out at 0
unfolding total paths_bytes paths_from
laying_starts {at = at} a r = record { asked = a; within = omega arith; room = r; to_is = omega arith; long = refl; is = refl }

module _ {v w : ℕ} {places counts zones : List ℕ} {k at : ℕ} {out₀ out : List ℕ} {to i : ℕ} (q : Laying v w places counts zones k at out₀ out to i) where
  -- the next path: where it stands, and its room
  pub laying_room : i < k → (i * w + 1 + get_or counts i 0 ≤ length places) × (to + head v + get_or counts i 0 * 8 ≤ length out) × (i < length counts) × (get_or counts i 0 ≤ 206)
  unfolding hops
  laying_room l = (
    omega (arith, row_below w l, q.asked.room, q.asked.within i l),
    omega (arith, total_within v counts k i l, q.room, q.to_is, q.long),
    omega (arith, q.asked.headed.counted),
    q.asked.headed.short i l,
  )

  pub laying_more : {h zone head₁ : ℕ} {out₁ : List ℕ} → i < k → head₁ ≡ head v → h ≡ get_or counts i 0 → zone ≡ get_or zones i 0
      → out₁ ≡ sets out to (path_bytes v zone (ahead places (i * w + 1) h)) → Laying v w places counts zones k at out₀ out₁ (to + (head₁ + h * 8)) (i + 1)
  unfolding hops
  laying_more {h} {zone} {head₁} {out₁} l f e z p = record {
    asked = q.asked;
    within = omega arith;
    room = q.room;
    to_is = ap₂ (λ (x y : ℕ). to + (x + y * 8)) f e ∙ omega (arith, q.to_is, total-more v counts i, ap (total v counts) (add-one i));
    long = ap length p ∙ length-sets out to (path_bytes v zone (ahead places (i * w + 1) h)) ∙ q.long;
    is =
        p ∙ ap₂ (λ (x y : ℕ). sets out to (path_bytes v x (ahead places (i * w + 1) y))) z e
        ∙ ap (λ (o : List ℕ). sets o to (path_bytes v (get_or zones i 0) (read w places counts i))) q.is
        ∙ after-put run (path_bytes v (get_or zones i 0) (read w places counts i)) out₀ at to (q.to_is ∙ ap (λ (j : ℕ). at + j) (sym (paths-total v w places counts zones i)))
        ∙ ap (sets out₀ at) (sym (paths_of-more v w places counts zones i) ∙ ap (λ (j : ℕ). paths_bytes v zones (paths_of w places counts j)) (sym (add-one i)));
  }
    where
      run : List ℕ
      run = paths_bytes v zones (paths_of w places counts i)

  pub laying_ends : k ≤ i → out ≡ sets out₀ at (paths_bytes v zones (paths_of w places counts k))
  laying_ends l = q.is ∙ ap (λ (j : ℕ). sets out₀ at (paths_bytes v zones (paths_of w places counts j))) (omega (arith, q.within))
