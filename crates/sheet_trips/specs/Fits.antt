-- The paths of a fan fit a sheet (`fan_fits`): each has a hop at least, no more than the longest, and relays of 64 bits. Assumes nothing.
use Prim.Native.Nat.{ℕ, zero, suc, ◌+◌, ◌*◌, ◌^◌, ◌≤◌, ◌<◌}
use Rattle.std.specs.Prelude.{◌≡◌, ◌≢◌, List, length, get_or}
use Rattle.std.proofs.Common.{sym, ap, ◌∙◌, subst, arith}
use Rattle.std.proofs.Math.Decide.{dec_lt}
use Rattle.paths.specs.Fan.{relay, hops, Fan}
use Rattle.paths.specs.Fan as fan
use Rattle.paths.specs.Lists.{ahead, ahead-length}
use Rattle.paths.specs.Mesh.{Mesh, width}
use Rattle.paths.specs.Read.{read}
use Rattle.sheet.specs.Format.{paths_from, paths_of}
use Rattle.sheet_trips.specs.There.{Words, FitPath, Fit}

-- numbers from a place on
words-ahead : (l : List ℕ) (from n : ℕ) → ((p : ℕ) → p < n → get_or l (from + p) 0 < 2 ^ 64) → Words (ahead l from n)
unfolding ahead
words-ahead l from zero h = tt
words-ahead l from (suc n) h = (
  subst (λ (i : ℕ). get_or l i 0 < 2 ^ 64) first (h 0 (omega arith)),
  words-ahead l (suc from) n (λ p g. subst (λ (i : ℕ). get_or l i 0 < 2 ^ 64) (later p) (h (suc p) (omega arith))),
)
  where
    first : from + 0 ≡ from
    first = omega arith

    later : (p : ℕ) → from + suc p ≡ suc from + p
    later p = omega arith

module _ (m : Mesh) (s : ℕ) (targets places counts : List ℕ) (narrow : m.relays ≤ 2 ^ 64) (f : Fan m s targets places counts)
    (other : (j : ℕ) → j < length targets → get_or targets j 0 ≢ s) where
  fit_path : (i : ℕ) → i < length targets → FitPath m.longest (read (width m) places counts i)
  unfolding relay
  fit_path i h = record {
    some_hop = omega (arith, long, moves (dec_lt 0 (hops counts i)));
    short = omega (arith, long, a.short);
    words = words-ahead places (i * width m + 1) (hops counts i) (λ p g. word p (a.linked p g).0);
  }
    where
      a : fan.Path m s (get_or targets i 0) places counts i
      a = f.path i h

      long : length (read (width m) places counts i) ≡ hops counts i
      long = ahead-length places (i * width m + 1) (hops counts i)

      -- a path of no hops would end at the source
      moves : Dec (0 < hops counts i) → 0 < hops counts i
      moves (yes l) = l
      moves (no l) = absurd (other i h (sym a.ends ∙ ap (relay (width m) places i) none_left ∙ a.starts))
        where
          none_left : hops counts i ≡ 0
          none_left = omega arith

      word : (p : ℕ) → relay (width m) places i (p + 1) < m.relays → get_or places (i * width m + 1 + p) 0 < 2 ^ 64
      word p g = let place : i * width m + (p + 1) ≡ i * width m + 1 + p = omega arith in subst (λ (j : ℕ). get_or places j 0 < 2 ^ 64) place (omega arith)

  fit_from : (i n : ℕ) → i + n ≤ length targets → Fit m.longest (paths_from (width m) places counts i n)
  unfolding paths_from
  fit_from i zero h = tt
  fit_from i (suc n) h = (fit_path i (omega arith), fit_from (suc i) n (omega arith))

  pub fan_fits : Fit m.longest (paths_of (width m) places counts (length targets))
  fan_fits = fit_from 0 (length targets) (omega arith)
