-- Why the paths taken out of a sheet are its paths: one row (`row_taken`), and the loop over them (`Taking`). Assumes nothing.
use Rattle.std.specs.Prelude.{ℕ, zero, suc, ◌+◌, ◌-◌, ◌*◌, ◌≤◌, ◌<◌, ◌≡◌, refl, List, [], ◌∷◌, ◌++◌, length, set, replicate}
use Rattle.std.proofs.Common.{sym, ap, ap₂, ◌∙◌, subst, append_assoc, append-nil, zero-add, suc-mul, add-one, arith, length-append, length-set}
use Rattle.std.proofs.lemmas.List.Edits.{sets}
use Rattle.std.proofs.Math.Seq.{length-sets}
use Rattle.scan.specs.Runs.{sets_append}
use Rattle.octets.specs.Big.{number}
use Rattle.paths.specs.Fan.{filler}
use Rattle.paths.specs.Places.{row_below}
use Rattle.sheet.specs.Format.{HEAD, head, hops_at, after, relays_at, paths_at, row, places_of, counts_of, last_of, targets_of}
use Rattle.sheet.specs.Lengths.{relays-count, paths-length, row-length, counts-length, targets-length}
use Rattle.sheet_take.specs.Along.{Along, offset, along_starts, along-fine, along-more}
use Rattle.sheet_take.specs.Looking.{Fine}
use Rattle.sheet_take.specs.Needs.{Taken}
use Rattle.sheet_take.specs.Says.{TakenPaths}

pub row_taken : (s longest to h : ℕ) (l path : List ℕ) {l₁ l₂ : List ℕ} → length path ≡ h → l₁ ≡ sets (set l to s) (to + 1) path → l₂ ≡ sets l₁ (to + 1 + h) (replicate (longest - h) filler)
    → l₂ ≡ sets l to (row s longest path)
unfolding row
row_taken s longest to h l path {l₁} {l₂} e p q =
    q ∙ ap (λ (x : List ℕ). sets x (to + 1 + h) (replicate (longest - h) filler)) (p ∙ ap (λ (i : ℕ). sets (set l to s) i path) (add-one to))
    ∙ ap₂ (λ (i n : ℕ). sets (sets l to (s ∷ path)) i (replicate n filler)) place (ap (λ (n : ℕ). longest - n) (sym e))
    ∙ sym (sets_append l to (s ∷ path) (replicate (longest - length path) filler))
  where
    place : to + 1 + h ≡ to + suc (length path)
    place = omega (arith, e)

places-more : (s longest : ℕ) (ps : List (List ℕ)) (p : List ℕ) → places_of s longest (ps ++ (p ∷ [])) ≡ places_of s longest ps ++ row s longest p
unfolding places_of
places-more s longest [] p = append-nil (row s longest p)
places-more s longest (q ∷ ps) p = ap (λ (r : List ℕ). row s longest q ++ r) (places-more s longest ps p) ∙ sym (append_assoc (row s longest q) (places_of s longest ps) (row s longest p))

counts-more : (ps : List (List ℕ)) (p : List ℕ) → counts_of (ps ++ (p ∷ [])) ≡ counts_of ps ++ (length p ∷ [])
unfolding counts_of
counts-more [] p = refl
counts-more (q ∷ ps) p = ap (λ (r : List ℕ). length q ∷ r) (counts-more ps p)

targets-more : (s : ℕ) (ps : List (List ℕ)) (p : List ℕ) → targets_of s (ps ++ (p ∷ [])) ≡ targets_of s ps ++ (last_of s p ∷ [])
unfolding targets_of
targets-more s [] p = refl
targets-more s (q ∷ ps) p = ap (λ (r : List ℕ). last_of s q ∷ r) (targets-more s ps p)

-- the last relay of a path with hops
last_is : (l : List ℕ) (s at h : ℕ) → last_of s (relays_at l at (suc h)) ≡ number l (at + h * 8) 8
unfolding last_of relays_at
last_is l s at zero = ap (λ (p : ℕ). number l p 8) (omega arith)
last_is l s at (suc h) = last_is l (number l at 8) (at + 8) h ∙ ap (λ (p : ℕ). number l p 8) (omega arith)

pub last-relay : (l : List ℕ) (s from h : ℕ) → 0 < h → last_of s (relays_at l from h) ≡ number l (from + h * 8 - 8) 8
last-relay l s from zero e = absurd (omega arith)
last-relay l s from (suc h) e = last_is l s from h ∙ ap (λ (p : ℕ). number l p 8) (omega arith)

-- the path that begins at the place `at`
abbrev path_at : ℕ → List ℕ → ℕ → List ℕ
path_at v l at = relays_at l (at + head v) (hops_at l at)

paths-more : (v : ℕ) (l : List ℕ) (at i : ℕ) → paths_at v l at (suc i) ≡ paths_at v l at i ++ (path_at v l (offset v l at i) ∷ [])
unfolding paths_at offset
paths-more v l at zero = refl
paths-more v l at (suc i) = ap (λ (r : List (List ℕ)). path_at v l at ∷ r) (paths-more v l (after v l at) i)

-- the first i paths are taken
pub record Taking (v : ℕ) (l : List ℕ) (s longest k : ℕ) (places₀ counts₀ targets₀ places counts targets : List ℕ) (at i : ℕ) : Type 0 where
  pub asked : Taken v l longest k (length places₀) (length counts₀) (length targets₀)
  pub along : Along v longest l k at i
  pub long : length places ≡ length places₀
  pub long_counts : length counts ≡ length counts₀
  pub long_targets : length targets ≡ length targets₀
  pub taken : TakenPaths v l s longest i places₀ counts₀ targets₀ places counts targets

pub taking_starts : {v : ℕ} {l : List ℕ} {longest k : ℕ} {places counts targets : List ℕ} (s : ℕ) → Taken v l longest k (length places) (length counts) (length targets)
    → Taking v l s longest k places counts targets places counts targets HEAD 0
unfolding places_of counts_of targets_of paths_at
taking_starts {v} {l} {longest} {k} s a = record {
  asked = a;
  along = along_starts a.sound;
  long = refl;
  long_counts = refl;
  long_targets = refl;
  taken = record { wide = omega arith; placed = refl; counted = refl; aimed = refl };
}

module _ {v : ℕ} {l : List ℕ} {s longest k : ℕ} {places₀ counts₀ targets₀ places counts targets : List ℕ} {at i : ℕ}
    (q : Taking v l s longest k places₀ counts₀ targets₀ places counts targets at i) (h : i < k) where
  -- the next path has its bytes and its places
  pub next-fine : Fine v longest l at
  next-fine = along-fine q.along h

  pub next-room : (i * (longest + 1) + longest < length places) × (i < length counts) × (i < length targets) × (longest ≤ 206)
  next-room = (
    omega (arith, row_below (longest + 1) h, q.asked.room, q.long),
    omega (arith, q.asked.counted, q.long_counts),
    omega (arith, q.asked.aimed, q.long_targets),
    q.asked.small,
  )

  abbrev ps : List (List ℕ)
  ps = paths_at v l HEAD i

  abbrev next : List ℕ
  next = path_at v l at

  more : paths_at v l HEAD (i + 1) ≡ ps ++ (next ∷ [])
  more = ap (paths_at v l HEAD) (add-one i) ∙ paths-more v l HEAD i ∙ ap (λ (p : ℕ). ps ++ (path_at v l p ∷ [])) (sym q.along.at_is)

  -- a piece after what was put at the front
  piece : (a b l₀ : List ℕ) {n : ℕ} → length a ≡ n → sets (sets l₀ 0 a) n b ≡ sets l₀ 0 (a ++ b)
  piece a b l₀ e = ap (λ (p : ℕ). sets (sets l₀ 0 a) p b) (sym e ∙ sym (zero-add (length a))) ∙ sym (sets_append l₀ 0 a b)

  pub taking_more : {from hops x : ℕ} (head₁ : ℕ) {places₁ : List ℕ} → from ≡ at + head v → hops ≡ hops_at l at → places₁ ≡ sets places (i * (longest + 1)) (row s longest (relays_at l from hops))
      → from ≡ at + head₁ → x ≡ number l (at + (head₁ + hops * 8) - 8) 8
      → Taking v l s longest k places₀ counts₀ targets₀ places₁ (set counts i hops) (set targets i x) (at + (head₁ + hops * 8)) (i + 1)
  taking_more {from} {hops} {x} head₁ {places₁} f e p g t = record {
    asked = q.asked;
    along = along-more q.along h next-at;
    long = ap length p ∙ length-sets places (i * (longest + 1)) (row s longest (relays_at l from hops)) ∙ q.long;
    long_counts = length-set counts i hops ∙ q.long_counts;
    long_targets = length-set targets i x ∙ q.long_targets;
    taken = record {
      wide =
          ap (λ (y : List (List ℕ)). length (places_of s longest y)) more ∙ ap length (places-more s longest ps next)
          ∙ length-append (places_of s longest ps) (row s longest next)
          ∙ ap₂ (λ (y z : ℕ). y + z) q.taken.wide (row-length s longest next short) ∙ one-row;
      placed =
          p ∙ ap₂ (λ (y z : ℕ). sets places (i * (longest + 1)) (row s longest (relays_at l y z))) f e
          ∙ ap (λ (y : List ℕ). sets y (i * (longest + 1)) (row s longest next)) q.taken.placed
          ∙ piece (places_of s longest ps) (row s longest next) places₀ q.taken.wide
          ∙ ap (sets places₀ 0) (sym (ap (places_of s longest) more ∙ places-more s longest ps next));
      counted =
          ap₂ (λ (y : List ℕ) (z : ℕ). set y i z) q.taken.counted (e ∙ sym (relays-count l (at + head v) (hops_at l at)))
          ∙ piece (counts_of ps) (length next ∷ []) counts₀ (counts-length ps ∙ paths-length v l HEAD i)
          ∙ ap (sets counts₀ 0) (sym (ap counts_of more ∙ counts-more ps next));
      aimed =
          ap₂ (λ (y : List ℕ) (z : ℕ). set y i z) q.taken.aimed last
          ∙ piece (targets_of s ps) (last_of s next ∷ []) targets₀ (targets-length s ps ∙ paths-length v l HEAD i)
          ∙ ap (sets targets₀ 0) (sym (ap (targets_of s) more ∙ targets-more s ps next));
    };
  }
    where
      end : at + (head₁ + hops * 8) ≡ from + hops * 8
      end = omega arith

      next-at : at + (head₁ + hops * 8) ≡ after v l at
      next-at = end ∙ ap₂ (λ (x y : ℕ). x + y * 8) f e

      short : length next ≤ longest
      short = omega (arith, relays-count l (at + head v) (hops_at l at), next-fine.short)

      one-row : i * (longest + 1) + (longest + 1) ≡ (i + 1) * (longest + 1)
      one-row = sym (ap (λ (n : ℕ). n * (longest + 1)) (add-one i) ∙ suc-mul i (longest + 1))

      last : x ≡ last_of s next
      last = t ∙ ap (λ (y : ℕ). number l (y - 8) 8) end ∙ ap₂ (λ (x y : ℕ). number l (x + y * 8 - 8) 8) f e ∙ sym (last-relay l s (at + head v) (hops_at l at) next-fine.some-hops)

pub taking_ends : {v : ℕ} {l : List ℕ} {s longest k : ℕ} {places₀ counts₀ targets₀ places counts targets : List ℕ} {at i : ℕ} → Taking v l s longest k places₀ counts₀ targets₀ places counts targets at i → k ≤ i
    → TakenPaths v l s longest k places₀ counts₀ targets₀ places counts targets
taking_ends {v} {l} {s} {longest} {k} {places₀} {counts₀} {targets₀} {places} {counts} {targets} {at} {i} q h =
    let all : i ≡ k = omega (arith, q.along.within) in
    subst (λ (n : ℕ). TakenPaths v l s longest n places₀ counts₀ targets₀ places counts targets) all q.taken
