-- With m + 1 targets one path leaves by p0, so at most m walk in the source's block (`someone`, `few-walk`). Assumes nothing.
use Rattle.std.specs.Prelude.{ℕ, ◌+◌, ◌-◌, ◌^◌, ◌≤◌, ◌<◌, ◌≡◌, ◌⊎◌, ◌≢◌, List, ◌∷◌}
use Rattle.std.proofs.Common.{sym, ap, ◌∙◌, inl, inr, ⊎_elim, arith}
use Rattle.std.specs.Int.Count.{ones, ones-ones}
use Rattle.bits.specs.Bit.{bit, flip}
use Rattle.bits.specs.Laws.{clash, flip-other, ones_clear, same_or, flip-eq}
use Rattle.cube_math.specs.Paths.{in_cast}
use Rattle.cube_math.specs.Masks.{ones_mono}
use Rattle.cube_math.specs.Plain.{bit-full}
use Rattle.two_math.specs.Relays.{Relay}
use Rattle.two_math.specs.Plan.{Draft, Rides, IsRole, member, way, way_end}
use Rattle.two_math.specs.Gates.{Gates}
use Rattle.two_math.specs.Sort.{Ask, Sorts, Keeps, Ends}
use Rattle.two_math.specs.Shut.{Shuts, by_p0}
use Rattle.two_math.specs.Leaves.{door_is}

-- at most m of the targets leave by other slots
pub few-walk : (m p0 k walkers : ℕ) (leave : ℕ → ℕ) → k ≤ m + 1 → ((j : ℕ) → bit j walkers ≡ 1 → (j < k) × (leave j ≢ p0)) → (k ≤ m) ⊎ ((j : ℕ) × (j < k) × (leave j ≡ p0)) → ones walkers ≤ m
few-walk m p0 k walkers leave few on some = ⊎_elim
    (λ h. omega (arith, ones_mono walkers (2 ^ k - 1) (λ i o. bit-full k i (on i o).0), ones-ones k))
    (λ x. omega (
      arith,
      ones_mono walkers (flip (2 ^ k - 1) x.0) (λ i o. flip-other (2 ^ k - 1) x.0 i (λ e. (on i o).1 (ap leave e ∙ x.2)) ∙ bit-full k i (on i o).0),
      ones_clear x.0 (2 ^ k - 1) (bit-full k x.0 x.1),
      ones-ones k,
    )) some

module _ {m s0 p0 k : ℕ} {tb tp : ℕ → ℕ} {inner kept gated : ℕ} {gate : ℕ → ℕ} {straight keep base singles reps rows : ℕ} {ends : ℕ → ℕ}
    (ask : Ask m s0 p0 k tb tp) (sort : Sorts s0 k tb tp inner kept gated)
    (keep-is : Keeps s0 tb kept gated gate straight keep) (end_is : Ends s0 k tb inner gated gate straight keep base singles reps rows ends)
    {taker : ℕ} {hops : ℕ → List ℕ} {shut : ℕ} {leave row : ℕ → ℕ} {route tail : ℕ → List ℕ} {body : ℕ → List Relay}
    (q : Draft m s0 p0 k tb tp gated rows taker gate ends hops shut leave row route tail body) where
  -- whose block path leaves by p0
  pub leaves_by : (j x : ℕ) (l : List ℕ) → Rides q j → bit x rows ≡ 1 → ends (row j) ≡ ends x → hops x ≡ flip s0 p0 ∷ l → leave j ≡ p0
  leaves_by j x l r o e first =
      let same : row j ≡ x = ⊎_elim (λ z. z) (λ ne. absurd (q.fan.apart (row j) x (member q j r) o ne (ends x)
      (in_cast (hops (row j)) e (way_end (way q (row j) (member q j r)))) (way_end (q.fan.each x o)))) (same_or (row j) x) in
      let v = (way q (row j) (member q j r)).door in
      let at : hops (row j) ≡ flip s0 p0 ∷ l = ap hops same ∙ first in
      let head : flip s0 v.dim ≡ flip s0 p0 = cons_head (flip s0 v.dim) (flip s0 p0) v.rest l (sym v.first ∙ at) in
      sym (door_is q j r) ∙ flip-eq s0 v.dim p0 head
    where
      cons_head : (x y : ℕ) (l r : List ℕ) → x ∷ l ≡ y ∷ r → x ≡ y
      cons_head x y l r e = cc

  pub single_leaves : (x : ℕ) (l : List ℕ) → bit x singles ≡ 1 → hops x ≡ flip s0 p0 ∷ l → (j : ℕ) × (j < k) × (leave j ≡ p0)
  single_leaves x l s first = let p = end_is.single_on x s in (x, p.0, by p.0 p.1 p.2 (q.role x p.0))
    where
      by : x < k → bit x inner ≡ 0 → bit x straight ≡ 0 → IsRole q x → leave x ≡ p0
      by h i t (inl d) = absurd (sort.inner_off x h i d.here)
      by h i t (inr (inl d)) = leaves_by x x l (inl d) (end_is.row_single x s) (d.end ∙ sym (end_is.end_direct x s d.ungated)) first
      by h i t (inr (inr (o, inl d))) = leaves_by x x l (inr (o, inl d)) (end_is.row_single x s) (d.end ∙ sym (end_is.end-gate x s o)) first
      by h i t (inr (inr (o, inr (inl d)))) = absurd (keep-is.straight_off x o t d.at-gate)
      by h i t (inr (inr (o, inr (inr d)))) = d.leaves

  pub straight_leaves : (j : ℕ) → bit j straight ≡ 1 → gate j ≡ p0 → (j : ℕ) × (j < k) × (leave j ≡ p0)
  straight_leaves j o e = let s = keep-is.straight_on j o in let g = sort.gated_on j s.0 in (j, g.0, by s.0 s.1 g.1 (q.role j g.0))
    where
      by : bit j gated ≡ 1 → flip (tb j) (gate j) ≡ s0 → tb j ≢ s0 → IsRole q j → leave j ≡ p0
      by b f t (inl d) = absurd (t d.here)
      by b f t (inr (inl d)) = absurd (clash d.ungated b)
      by b f t (inr (inr (p, inl d))) = absurd ((q.fan.each (row j) d.member).away (in_cast (hops (row j)) (d.end ∙ f) (way_end (q.fan.each (row j) d.member))))
      by b f t (inr (inr (p, inr (inl d)))) = d.leaves ∙ e
      by b f t (inr (inr (p, inr (inr d)))) = d.leaves

  -- if the block path of a crowd leaves by p0, someone must have taken it over
  pub someone : Gates m s0 k tb tp gated gate → Shuts m p0 keep rows shut → rows ≢ 0
      → ((r : ℕ) (l : List ℕ) → bit r reps ≡ 1 → hops (base + r) ≡ flip s0 p0 ∷ l → (j : ℕ) × (j < k) × (leave j ≡ p0)) → (j : ℕ) × (j < k) × (leave j ≡ p0)
  someone gates shut-is some taken = ⊎_elim (λ x. by x.0 x.2 x.3 (end_is.row_from x.0 x.1)) (λ s. straight_leaves s.0 s.1 s.2)
      (by_p0 ask sort gates keep-is end_is shut-is q.fan some)
    where
      by : (x : ℕ) (l : List ℕ) → hops x ≡ flip s0 p0 ∷ l → (bit x singles ≡ 1) ⊎ ((r : ℕ) × (bit r reps ≡ 1) × (x ≡ base + r)) → (j : ℕ) × (j < k) × (leave j ≡ p0)
      by x l first (inl s) = single_leaves x l s first
      by x l first (inr (r, o, e)) = taken r l o (ap hops (sym e) ∙ first)
