-- What a caller of the planners learns, told as the mathematics of doors tells it: the paths, read back as lists, are a fan through doors
-- (`through_doors`). Assumes nothing.
use Rattle.std.specs.Prelude.{ℕ, zero, suc, ◌+◌, ◌-◌, ◌*◌, ◌^◌, ◌<◌, ◌≡◌, refl, ◌≢◌, List, [], ◌∷◌, length, get_or}
use Rattle.std.proofs.Common.{sym, ◌∙◌, ⊎_elim, arith}
use Rattle.std.proofs.Math.Path.{ap, subst}
use Rattle.bits.specs.Bit.{bit, flip}
use Rattle.bits.specs.Laws.{lt-or-le, flip_turns}
use Rattle.paths.specs.Mesh.{width}
use Rattle.paths.specs.Fan.{relay, hops, Fan}
use Rattle.paths.specs.Lists.{Chain, ahead, ahead-cons}
use Rattle.paths.specs.Read.{read, in_path, fan_lists}
use Rattle.cube.specs.Cube.{cube}
use Rattle.cube.specs.Links.{flip-linked}
use Rattle.cube_math.specs.Doors.{Walk, Door, Doors}
use Rattle.cube_math.specs.Masks.{less, bit-less}
use Rattle.cube_math.specs.Choose.{less-on}
use Rattle.cube_math.specs.Plain.{bit-full, bit_high, full-below}
use Rattle.cube_plan.specs.Says.{Through}

chain_walk : (n u t : ℕ) (l : List ℕ) → u < 2 ^ n → Chain (cube n) u t l → Walk (2 ^ n - 1) u t l
chain_walk n u t [] lt c = c
chain_walk n u t (v ∷ l) lt c =
    let i = flip-linked n u v lt c.0 c.1 in
    (i.0, bit-full n i.0 i.1, sym i.2, chain_walk n v t l c.0 c.2)

module _ (n s doors : ℕ) (targets places counts : List ℕ) (source : s < 2 ^ n) (other : (j : ℕ) → j < length targets → get_or targets j 0 ≢ s)
    (f : Fan (cube n) s targets places counts) (g : Through n s doors targets places counts) where
  abbrev k : ℕ
  k = length targets

  abbrev path : ℕ → List ℕ
  path i = read (width (cube n)) places counts i

  -- a path has a hop, since its target is not s
  some_hop : (j : ℕ) → j < k → 0 < hops counts j
  some_hop j h = go (hops counts j) refl
    where
      go : (c : ℕ) → hops counts j ≡ c → 0 < hops counts j
      go zero e = absurd (other j h (sym (f.path j h).ends ∙ ap (relay (width (cube n)) places j) e ∙ (f.path j h).starts))
      go (suc c) e = omega arith

  -- the relay behind a door of s is one of the cube, so the door is one of the n
  door_within : (d : ℕ) → flip s d < 2 ^ n → bit d (2 ^ n - 1) ≡ 1
  door_within d lt = ⊎_elim (bit-full n d) (λ h. absurd (flip_turns s d (bit_high n d (flip s d) lt h ∙ sym (bit_high n d s source h)))) (lt-or-le d n)

  door-of : (j : ℕ) → j < k → Door (2 ^ n - 1) s (less (2 ^ n - 1) doors) (path j)
  unfolding relay
  door-of j h =
      let d = g.first_hop j h in
      let below : flip s d.0 < 2 ^ n = subst (λ (x : ℕ). x < 2 ^ n) d.2 ((f.path j h).linked 0 (some_hop j h)).0 in
      record {
        dim = d.0;
        within = door_within d.0 below;
        ajar = omega (arith, bit-less d.0 (2 ^ n - 1) doors, door_within d.0 below, d.1);
        rest = ahead places (suc (j * width (cube n) + 1)) (hops counts j - 1);
        first = ahead-cons places (j * width (cube n) + 1) (hops counts j) (some_hop j h)
            ∙ ap (λ (x : ℕ). x ∷ ahead places (suc (j * width (cube n) + 1)) (hops counts j - 1)) d.2;
      }

  pub through_doors : Doors n (2 ^ n - 1) s (less (2 ^ n - 1) doors) (2 ^ k - 1) (λ j. get_or targets j 0) path
  through_doors =
      let lists = fan_lists (cube n) s targets places counts f in
      record {
        each = λ j o. let h = full-below k j o in record {
          walk = chain_walk n s (get_or targets j 0) (path j) source (lists.chain j h);
          short = lists.short j h;
          away = (lists.fresh j h).0;
          fresh = (lists.fresh j h).1;
          door = door-of j h;
          shuns = λ i b x.
              let p = in_path (cube n) s targets places counts f j (flip s i) x in
              let d = less-on i (2 ^ n - 1) doors b in
              sym p.2 ∙ ap (relay (width (cube n)) places j) (g.shuns j (suc p.0) i h p.1 (full-below n i d.0) d.1 p.2) ∙ (f.path j h).ends;
        };
        apart = λ i j o b. lists.apart i j (full-below k i o) (full-below k j b);
      }
