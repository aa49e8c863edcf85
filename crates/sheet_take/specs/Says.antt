-- What looking through a sheet's paths tells, path by path and then of bytes left over (`looked`), and what taking them out of it leaves in the lent
-- slices (`TakenPaths`). Assumes nothing.
use Rattle.std.specs.Prelude.{ℕ, zero, suc, ◌+◌, ◌*◌, ◌≡◌, Bool, true, not, List, eqb, ltb, length, Result, Ok, Err}
use Rattle.std.proofs.Math.Option.{Option, none, some}
use Rattle.std.proofs.lemmas.List.Edits.{sets}
use Rattle.scan.specs.Scan.{pick}
use Rattle.sheet.specs.Format.{HEAD, hops_at, after, paths_at, places_of, counts_of, targets_of}
use Rattle.sheet.specs.Says.{flawed}
use Rattle.sheet.specs.declared.Flaw.{Flaw}
use Rattle.sheet.specs.declared.Flaw.TheVariants as flaw

-- 34
abbrev pub bad_hops : (longest hops : ℕ) → Bool
bad_hops longest h = pick (eqb h 0) true (ltb longest h)

-- the paths of version v one after another, k from path i on, which begins at the place `at`: 30, 34, and 36 after the last
unfoldable pub looked : (v longest : ℕ) (l : List ℕ) (at i k : ℕ) → Option Flaw
looked v longest l at i zero = flawed (not (eqb at (length l))) flaw.LeftOver none
looked v longest l at i (suc k) =
    flawed (ltb (length l) (at + 2)) flaw.Cut
    (flawed (bad_hops longest (hops_at l at)) (flaw.Hops i)
    (flawed (ltb (length l) (after v l at)) flaw.Cut
    (looked v longest l (after v l at) (suc i) k)))

-- what is wrong with path i, which begins at the place `at`: 30, 34
abbrev pub wrong_at : (v longest : ℕ) (l : List ℕ) (at i : ℕ) → Option Flaw
wrong_at v longest l at i =
    flawed (ltb (length l) (at + 2)) flaw.Cut
    (flawed (bad_hops longest (hops_at l at)) (flaw.Hops i)
    (flawed (ltb (length l) (after v l at)) flaw.Cut none))

-- what is wrong, and where the next path begins, which is 0 where something is
pub data Strode : Type 0 where
  strode : Option Flaw → ℕ → Strode

abbrev pub tell_stride : Option Flaw → ℕ → Strode
tell_stride none to = strode none to
tell_stride (some f) to = strode (some f) 0

abbrev pub stride_told : Result ℕ Flaw → Strode
stride_told (Ok to) = tell_stride none to
stride_told (Err f) = tell_stride (some f) 0

-- the paths' rows, their hops and their last relays
pub record TakenPaths (v : ℕ) (l : List ℕ) (s longest k : ℕ) (places counts targets places₁ counts₁ targets₁ : List ℕ) : Type 0 where
  pub wide : length (places_of s longest (paths_at v l HEAD k)) ≡ k * (longest + 1)
  pub placed : places₁ ≡ sets places 0 (places_of s longest (paths_at v l HEAD k))
  pub counted : counts₁ ≡ sets counts 0 (counts_of (paths_at v l HEAD k))
  pub aimed : targets₁ ≡ sets targets 0 (targets_of s (paths_at v l HEAD k))
