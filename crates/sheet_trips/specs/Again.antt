-- Bytes that were read are written again: relays (`relays_again`), the paths of a sheet that nothing stands against (`paths_again`), and an
-- accepted sheet whole (`sheet_again`); so sheets that hold the same fan are the same (`same-sheet`). Assumes nothing.
use Prim.Native.Nat.{ℕ, zero, suc, ◌+◌, ◌*◌, ◌≤◌}
use Rattle.std.specs.Prelude.{◌≡◌, Bool, true, false, not, eqb, length}
use Rattle.std.proofs.Math.Path.{refl, sym, ap, ap₂}
use Rattle.std.proofs.Common.{◌∙◌, length-drop, take-append-drop, take-add, drop-drop, drop-cons, eqb-true}
use mathlib.Core.List.{List, [], ◌∷◌, ◌++◌, append_assoc}
use Rattle.std.proofs.Math.Option.{none}
use native.Mathlib.Omega.{arith}
use Rattle.std.proofs.Math.ListN.{take, drop}
use Rattle.std.proofs.Math.Seq.{drop-length}
use Rattle.std.proofs.lemmas.Bool.{not-false}
use Rattle.scan.specs.Scan.{pick}
use Rattle.octets.specs.Big.{Bytes, big, number, big-number}
use Rattle.sheet.specs.Flaws.{flawed-none}
use Rattle.sheet.specs.Format.{HEAD, fields, zoned, head, zone_bytes, relays_bytes, path_bytes, paths_bytes, body_of, sheet_of, version_at, kind_at, size_at, count_at, source_at, hops_at, after, zone_at, relays_at, paths_at, zones_at}
use Rattle.sheet.specs.Lengths.{relays-count, paths-length}
use Rattle.sheet.specs.declared.Flaw.TheVariants as flaw
use Rattle.sheet_take.specs.Looking.{looked-first}
use Rattle.sheet_take.specs.Says.{looked}
use Rattle.sheet_check.specs.Says.{mesh_at, sheet_paths, sheet_zones}
use Rattle.sheet_trips.specs.Accepted.{Accepted}

-- after the last path the bytes end
pub looked-end : (v longest : ℕ) (l : List ℕ) (at i : ℕ) → looked v longest l at i 0 ≡ none → at ≡ length l
unfolding looked
looked-end v longest l at i e = eqb-true at (length l) (not-false _ (flawed-none (not (eqb at (length l))) flaw.LeftOver none e).0)

-- a path's head, in two parts
head_is : (v : ℕ) → head v ≡ 2 + pick (zoned v) 4 0
head_is v = go (zoned v)
  where
    go : (z : Bool) → pick z 6 2 ≡ 2 + pick z 4 0
    go true = refl
    go false = refl

module _ (l : List ℕ) (b : Bytes l) where
  -- n bytes and what follows them, after a place
  take_more : (at n k : ℕ) → take n (drop at l) ++ take k (drop (at + n) l) ≡ take (n + k) (drop at l)
  take_more at n k = ap (λ (r : List ℕ). take n (drop at l) ++ take k r) (sym (drop-drop n at l)) ∙ sym (take-add n k (drop at l))

  take_rest : (at n : ℕ) → take n (drop at l) ++ drop (at + n) l ≡ drop at l
  take_rest at n = ap (λ (r : List ℕ). take n (drop at l) ++ r) (sym (drop-drop n at l)) ∙ take-append-drop n (drop at l)

  pub relays_again : (at n : ℕ) → at + n * 8 ≤ length l → relays_bytes (relays_at l at n) ≡ take (n * 8) (drop at l)
  unfolding relays_bytes relays_at
  relays_again at zero h = refl
  relays_again at (suc n) h =
      let more : 8 + n * 8 ≡ suc n * 8 = omega arith in
      ap₂ ◌++◌ (big-number l b at 8 (omega arith)) (relays_again (at + 8) n (omega arith)) ∙ take_more at 8 (n * 8) ∙ ap (λ (i : ℕ). take i (drop at l)) more

  zone_again : (at : ℕ) (z : Bool) → at + pick z 4 0 ≤ length l → pick z (big 4 (pick z (number l at 4) 0)) [] ≡ take (pick z 4 0) (drop at l)
  zone_again at true h = big-number l b at 4 h
  zone_again at false h = refl

  path_again : (v at : ℕ) → after v l at ≤ length l → path_bytes v (zone_at v l at) (relays_at l (at + head v) (hops_at l at)) ≡ take (head v + hops_at l at * 8) (drop at l)
  unfolding path_bytes
  path_again v at h =
      let n = hops_at l at in
      let z : ℕ = pick (zoned v) 4 0 in
      let rest : at + head v ≡ at + 2 + z = omega (arith, head_is v) in
      let all : 2 + (z + n * 8) ≡ head v + n * 8 = omega (arith, head_is v) in
      ap (λ (c : ℕ). big 2 c ++ (zone_bytes v (zone_at v l at) ++ relays_bytes (relays_at l (at + head v) n))) (relays-count l (at + head v) n)
      ∙ ap₂ ◌++◌ (big-number l b at 2 (omega (arith, rest)))
      (ap₂ ◌++◌ (zone_again (at + 2) (zoned v) (omega (arith, rest))) (relays_again (at + head v) n h ∙ ap (λ (i : ℕ). take (n * 8) (drop i l)) rest) ∙ take_more (at + 2) z (n * 8))
      ∙ take_more at 2 (z + n * 8) ∙ ap (λ (i : ℕ). take i (drop at l)) all

  -- the paths, with their zones, are all that follows
  pub paths_again : (v longest at i k : ℕ) → looked v longest l at i k ≡ none → paths_bytes v (zones_at v l at k) (paths_at v l at k) ≡ drop at l
  unfolding paths_bytes paths_at zones_at
  paths_again v longest at i zero e = sym (drop-length l) ∙ ap (λ (j : ℕ). drop j l) (sym (looked-end v longest l at i e))
  paths_again v longest at i (suc k) e =
      let r = looked-first v longest l at i k e in
      let past : after v l at ≡ at + (head v + hops_at l at * 8) = omega arith in
      ap₂ ◌++◌ (path_again v at r.0.within) (paths_again v longest (after v l at) (suc i) k r.1 ∙ ap (λ (j : ℕ). drop j l) past)
      ∙ take_rest at (head v + hops_at l at * 8)

  -- ---- a sheet

  module _ (v places counts targets : ℕ) (a : Accepted v l places counts targets) where
    body_again : body_of v (kind_at l) (size_at l) (source_at l) (sheet_zones v l) (sheet_paths v l) ≡ drop 4 l
    unfolding body_of
    body_again =
        let long = a.long in
        append_assoc (fields v (kind_at l) (size_at l) (length (sheet_paths v l))) (big 8 (source_at l)) (paths_bytes v (sheet_zones v l) (sheet_paths v l))
        ∙ ap (λ (r : List ℕ). fields v (kind_at l) (size_at l) (length (sheet_paths v l)) ++ r)
        (ap₂ ◌++◌ (big-number l b 8 8 (omega arith)) (paths_again v (mesh_at l).longest HEAD 0 (count_at l) a.looks) ∙ take_rest 8 8)
        ∙ ap₂ (λ (v k : ℕ). v ∷ kind_at l ∷ size_at l ∷ k ∷ drop 8 l) (sym a.version) (paths-length v l HEAD (count_at l))
        ∙ sym (drop-cons l 4 0 (omega arith) ∙ ap (λ (r : List ℕ). version_at l ∷ r) (drop-cons l 5 0 (omega arith)
        ∙ ap (λ (r : List ℕ). kind_at l ∷ r) (drop-cons l 6 0 (omega arith) ∙ ap (λ (r : List ℕ). size_at l ∷ r) (drop-cons l 7 0 (omega arith)))))

    pub sheet_again : sheet_of v (kind_at l) (size_at l) (source_at l) (sheet_zones v l) (sheet_paths v l) ≡ l
    unfolding sheet_of
    sheet_again =
        let long = a.long in
        ap (λ (r : List ℕ). big 4 (length r) ++ r) body_again
        ∙ ap (λ (n : ℕ). big 4 n ++ drop 4 l) (length-drop 4 l ∙ sym a.counted)
        ∙ ap (λ (r : List ℕ). r ++ drop 4 l) (big-number l b 0 4 (omega arith)) ∙ take_rest 0 4

-- sheets of a version that hold the same fan with the same zones are the same
pub same-sheet : (v : ℕ) (l r : List ℕ) → Bytes l → Bytes r → (p c t q d u : ℕ) → Accepted v l p c t → Accepted v r q d u → kind_at l ≡ kind_at r → size_at l ≡ size_at r
    → source_at l ≡ source_at r → sheet_paths v l ≡ sheet_paths v r → sheet_zones v l ≡ sheet_zones v r → l ≡ r
same-sheet v l r b e p c t q d u a f kind size source paths zones =
    sym (sheet_again l b v p c t a) ∙ ap₂ (λ (x y : ℕ). sheet_of v x y (source_at l) (sheet_zones v l) (sheet_paths v l)) kind size
    ∙ ap₂ (λ (x : ℕ) (ps : List (List ℕ)). sheet_of v (kind_at r) (size_at r) x (sheet_zones v l) ps) source paths
    ∙ ap (λ (zs : List ℕ). sheet_of v (kind_at r) (size_at r) (source_at r) zs (sheet_paths v r)) zones ∙ sheet_again r e v q d u f
