-- Paths and how they are lent. Paths laid out in slices are read back (`paths-lent`); and the paths that are read from a fan's slices lie in
-- them as they are laid out: their places (`places-of`), counts (`counts_of_lem`) and targets (`targets_of_lem`). Assumes nothing.
use Prim.Native.Nat.{ℕ, zero, suc, ◌+◌, ◌-◌, ◌*◌, ◌≤◌, ◌<◌}
use Rattle.std.specs.Prelude.{◌≡◌, replicate}
use Rattle.std.proofs.Math.Path.{refl, sym, ap, ap₂}
use Rattle.std.proofs.Common.{◌∙◌, length-append, take-add, drop_at, drop-drop, drop-cons, get_or-take, get_or-drop, get_or-append-add, length-take-le}
use mathlib.Core.List.{List, [], ◌∷◌, ◌++◌, append_assoc}
use Rattle.std.proofs.Math.Nat.{suc-mul}
use native.Mathlib.Omega.{arith}
use Rattle.std.proofs.Math.Decide.{dec_lt}
use Rattle.std.proofs.Math.ListN.{length, get_or, take, drop, length-drop, get_or-append, get_or-eq_default}
use Rattle.std.proofs.lemmas.List.{get_or-replicate}
use Rattle.std.proofs.Math.Seq.{drop-length, ext_get_or}
use Rattle.paths.specs.Fan.{filler, relay, hops, Path, Fan}
use Rattle.paths.specs.Lists.{ahead, ahead-length, ahead-at}
use Rattle.paths.specs.Mesh.{Mesh, width}
use Rattle.paths.specs.Read.{read}
use Rattle.sheet.specs.Format.{row, places_of, counts_of, last_of, targets_of, paths_from, paths_of}
use Rattle.sheet.specs.Lengths.{row-length}

-- no path has more than so many hops
abbrev pub Within : (longest : ℕ) → List (List ℕ) → Type 0
Within longest [] = Unit
Within longest (p ∷ l) = (length p ≤ longest) × Within longest l

-- ---- how many

pub places-length : (s longest : ℕ) (ps : List (List ℕ)) → Within longest ps → length (places_of s longest ps) ≡ length ps * (longest + 1)
unfolding places_of
places-length s longest [] h = omega arith
places-length s longest (p ∷ l) h =
    length-append (row s longest p) (places_of s longest l)
    ∙ omega (arith, row-length s longest p h.0, places-length s longest l h.1, suc-mul (length l) (longest + 1))

-- ---- laid out, and read back

-- where a stands in l, followed by b, b stands after it
pub drop_past : (l a b : List ℕ) (at n : ℕ) → drop at l ≡ a ++ b → length a ≡ n → drop (at + n) l ≡ b
drop_past l a b at n e f = sym (drop-drop n at l) ∙ ap (drop n) e ∙ drop_at a b n f

pub drop-first : (l b : List ℕ) (x at : ℕ) → drop at l ≡ x ∷ b → get_or l at 0 ≡ x
drop-first l b x at e = ap (λ (i : ℕ). get_or l i 0) (omega arith) ∙ sym (get_or-drop at l 0 0) ∙ ap (λ (r : List ℕ). get_or r 0 0) e

pub drop-next : (l b : List ℕ) (x at : ℕ) → drop at l ≡ x ∷ b → drop (suc at) l ≡ b
drop-next l b x at e = let next : suc at ≡ at + 1 = omega arith in ap (λ (i : ℕ). drop i l) next ∙ drop_past l (x ∷ []) b at 1 e refl

pub ahead-there : (l p c : List ℕ) (from : ℕ) → drop from l ≡ p ++ c → ahead l from (length p) ≡ p
unfolding ahead
ahead-there l [] c from e = refl
ahead-there l (x ∷ p) c from e =
    ap₂ (λ (y : ℕ) (r : List ℕ). y ∷ r) (drop-first l (p ++ c) x from e) (ahead-there l p c (suc from) (drop-next l (p ++ c) x from e))

-- path i, where it and its count stand
read-there : (s longest : ℕ) (p : List ℕ) → length p ≤ longest → (places counts x y : List ℕ) (i : ℕ) → drop (i * (longest + 1)) places ≡ row s longest p ++ x
    → drop i counts ≡ length p ∷ y → read (longest + 1) places counts i ≡ p
unfolding row hops
read-there s longest p h places counts x y i e f =
    let w = longest + 1 in
    let fill = replicate (longest - length p) filler in
    let next : i * w + 1 ≡ suc (i * w) = omega arith in
    ap (ahead places (i * w + 1)) (drop-first counts y (length p) i f)
    ∙ ahead-there places p (fill ++ x) (i * w + 1)
    (ap (λ (j : ℕ). drop j places) next ∙ drop-next places (p ++ fill ++ x) s (i * w) e ∙ append_assoc p fill x)

paths-there : (s longest : ℕ) (ps : List (List ℕ)) → Within longest ps → (places counts x y : List ℕ) (i : ℕ) → drop (i * (longest + 1)) places ≡ places_of s longest ps ++ x
    → drop i counts ≡ counts_of ps ++ y → paths_from (longest + 1) places counts i (length ps) ≡ ps
unfolding paths_from places_of counts_of
paths-there s longest [] h places counts x y i e f = refl
paths-there s longest (p ∷ l) h places counts x y i e f =
    let w = longest + 1 in
    let first : drop (i * w) places ≡ row s longest p ++ (places_of s longest l ++ x) = e ∙ append_assoc (row s longest p) (places_of s longest l) x in
    let next : suc i * w ≡ i * w + w = omega (arith, suc-mul i w) in
    ap₂ (λ (q : List ℕ) (r : List (List ℕ)). q ∷ r)
    (read-there s longest p h.0 places counts (places_of s longest l ++ x) (counts_of l ++ y) i first f)
    (paths-there s longest l h.1 places counts x y (suc i)
    (ap (λ (j : ℕ). drop j places) next ∙ drop_past places (row s longest p) (places_of s longest l ++ x) (i * w) w first (row-length s longest p h.0))
    (drop-next counts (counts_of l ++ y) (length p) i f))

-- paths that are laid out, whatever stands after them
pub paths-lent : (s longest : ℕ) (ps : List (List ℕ)) → Within longest ps → (x y : List ℕ)
    → paths_of (longest + 1) (places_of s longest ps ++ x) (counts_of ps ++ y) (length ps) ≡ ps
paths-lent s longest ps h x y =
    let at : 0 * (longest + 1) ≡ 0 = omega arith in
    paths-there s longest ps h (places_of s longest ps ++ x) (counts_of ps ++ y) x y 0 (ap (λ (j : ℕ). drop j (places_of s longest ps ++ x)) at) refl

-- ---- read from a fan's slices, and laid out

-- the default does not matter inside a list
inside : (l : List ℕ) (j d e : ℕ) → j < length l → get_or l j d ≡ get_or l j e
inside [] j d e h = absurd (omega arith)
inside (x ∷ l) zero d e h = refl
inside (x ∷ l) (suc j) d e h = inside l j d e (omega arith)

-- what stands at a place of a row
pub row_at : (s longest : ℕ) (p : List ℕ) (j : ℕ) → length p ≤ longest → j ≤ longest → get_or (row s longest p) j 0 ≡ get_or (s ∷ p) j filler
unfolding row
row_at s longest p j h g = go (dec_lt j (length (s ∷ p)))
  where
    go : Dec (j < length (s ∷ p)) → get_or ((s ∷ p) ++ replicate (longest - length p) filler) j 0 ≡ get_or (s ∷ p) j filler
    go (yes l) = get_or-append (s ∷ p) (replicate (longest - length p) filler) 0 j l ∙ inside (s ∷ p) j 0 filler l
    go (no l) =
        let fill = replicate (longest - length p) filler in
        let r = j - length (s ∷ p) in
        let at : j ≡ length (s ∷ p) + r = omega arith in
        ap (λ (i : ℕ). get_or ((s ∷ p) ++ fill) i 0) at ∙ get_or-append-add (s ∷ p) fill r 0
        ∙ get_or-replicate (longest - length p) r filler 0 (omega arith) ∙ sym (get_or-eq_default (s ∷ p) filler {n = j} (omega arith))

-- the last of a list
pub last-at : (x : ℕ) (p : List ℕ) → last_of x p ≡ get_or (x ∷ p) (length p) filler
unfolding last_of
last-at x [] = refl
last-at x (y ∷ p) = last-at y p

module _ (m : Mesh) (s : ℕ) (places counts : List ℕ) where
  abbrev w : ℕ
  w = width m

  abbrev path : ℕ → List ℕ
  path i = read w places counts i

  path_long : (i : ℕ) → length (path i) ≡ hops counts i
  path_long i = ahead-length places (i * w + 1) (hops counts i)

  -- what stands at a place of a path
  pub path-at : (i t j : ℕ) → Path m s t places counts i → j ≤ m.longest → relay w places i j ≡ get_or (s ∷ path i) j filler
  unfolding relay
  path-at i t zero a h = a.starts
  path-at i t (suc j) a h = go (dec_lt j (hops counts i))
    where
      go : Dec (j < hops counts i) → relay w places i (suc j) ≡ get_or (path i) j filler
      go (yes l) = ap (λ (k : ℕ). get_or places k 0) (omega arith) ∙ sym (ahead-at places (i * w + 1) (hops counts i) filler j l)
      go (no l) = a.filled (suc j) (omega arith) h ∙ sym (get_or-eq_default (path i) filler {n = j} (omega (arith, path_long i)))

  -- the row of a path
  row_of : (i t : ℕ) → Path m s t places counts i → i * w + w ≤ length places → row s m.longest (path i) ≡ take w (drop (i * w) places)
  unfolding relay
  row_of i t a h =
      let few : length (path i) ≤ m.longest = omega (arith, path_long i, a.short) in
      let long = row-length s m.longest (path i) few in
      ext_get_or 0 (row s m.longest (path i)) (take w (drop (i * w) places))
      (long ∙ sym (length-take-le w (drop (i * w) places) (omega (arith, length-drop (i * w) places))))
      (λ j g. row_at s m.longest (path i) j few (omega (arith, long)) ∙ sym (path-at i t j a (omega (arith, long)))
      ∙ sym (get_or-drop (i * w) places j 0) ∙ sym (get_or-take w (drop (i * w) places) j 0 (omega (arith, long))))

  -- n paths from path i on
  abbrev from : ℕ → ℕ → List (List ℕ)
  from i n = paths_from w places counts i n

  abbrev Paths : (targets : List ℕ) (i n : ℕ) → Type 0
  Paths targets i n = (j : ℕ) → i ≤ j → j < i + n → Path m s (get_or targets j 0) places counts j

  within_from : (targets : List ℕ) (i n : ℕ) → Paths targets i n → Within m.longest (from i n)
  unfolding paths_from
  within_from targets i zero a = tt
  within_from targets i (suc n) a =
      (omega (arith, path_long i, (a i (omega arith) (omega arith)).short), within_from targets (suc i) n (λ j h g. a j (omega arith) (omega arith)))

  places-from : (targets : List ℕ) (i n : ℕ) → Paths targets i n → i * w + n * w ≤ length places → places_of s m.longest (from i n) ≡ take (n * w) (drop (i * w) places)
  unfolding paths_from places_of
  places-from targets i zero a h = let none : 0 ≡ 0 * w = omega arith in ap (λ (k : ℕ). take k (drop (i * w) places)) none
  places-from targets i (suc n) a h =
      let more : w + n * w ≡ suc n * w = omega (arith, suc-mul n w) in
      let next : i * w + w ≡ suc i * w = omega (arith, suc-mul i w) in
      ap₂ ◌++◌ (row_of i (get_or targets i 0) (a i (omega arith) (omega arith)) (omega arith))
      (places-from targets (suc i) n (λ j l g. a j (omega arith) (omega arith)) (omega arith)
      ∙ ap (take (n * w)) (ap (λ (k : ℕ). drop k places) (sym next) ∙ sym (drop-drop w (i * w) places)))
      ∙ sym (take-add w (n * w) (drop (i * w) places)) ∙ ap (λ (k : ℕ). take k (drop (i * w) places)) more

  counts-from : (i n : ℕ) → i + n ≤ length counts → counts_of (from i n) ≡ take n (drop i counts)
  unfolding paths_from counts_of hops
  counts-from i zero h = refl
  counts-from i (suc n) h =
      ap₂ (λ (x : ℕ) (l : List ℕ). x ∷ l) (path_long i) (counts-from (suc i) n (omega arith))
      ∙ ap (take (suc n)) (sym (drop-cons counts i 0 (omega arith)))

  path-last : (i t : ℕ) → Path m s t places counts i → last_of s (path i) ≡ t
  path-last i t a =
      last-at s (path i) ∙ ap (λ (j : ℕ). get_or (s ∷ path i) j filler) (path_long i) ∙ sym (path-at i t (hops counts i) a a.short) ∙ a.ends

  targets-from : (targets : List ℕ) (i n : ℕ) → Paths targets i n → i + n ≡ length targets → targets_of s (from i n) ≡ drop i targets
  unfolding paths_from targets_of
  targets-from targets i zero a e = let all : length targets ≡ i = omega arith in sym (drop-length targets) ∙ ap (λ (k : ℕ). drop k targets) all
  targets-from targets i (suc n) a e =
      ap₂ (λ (x : ℕ) (l : List ℕ). x ∷ l) (path-last i (get_or targets i 0) (a i (omega arith) (omega arith)))
      (targets-from targets (suc i) n (λ j l g. a j (omega arith) (omega arith)) (omega arith))
      ∙ sym (drop-cons targets i 0 (omega arith))

  -- ---- all of them

  module _ (targets : List ℕ) (f : Fan m s targets places counts) where
    abbrev k : ℕ
    k = length targets

    each : Paths targets 0 k
    each j h g = f.path j (omega arith)

    pub within_of : Within m.longest (paths_of w places counts k)
    within_of = within_from targets 0 k each

    pub places-of : k * w ≤ length places → places_of s m.longest (paths_of w places counts k) ≡ take (k * w) places
    places-of h = let at : 0 * w ≡ 0 = omega arith in places-from targets 0 k each (omega arith) ∙ ap (λ (i : ℕ). take (k * w) (drop i places)) at

    pub counts_of_lem : k ≤ length counts → counts_of (paths_of w places counts k) ≡ take k counts
    counts_of_lem h = counts-from 0 k (omega arith)

    pub targets_of_lem : targets_of s (paths_of w places counts k) ≡ targets
    targets_of_lem = targets-from targets 0 k each (omega arith)
