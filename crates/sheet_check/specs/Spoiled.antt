-- What the judge can tell of a sheet (`judged_case`): 0, the request's 2, 5, 6, 7, and of the findings 22 and 24 alone. Kind, size and how many paths were looked
-- at before, and room is made for them, so that 1, 3, 4 and 8 are not told; hops were looked at too, the source is put at place 0, the targets are the last
-- relays, and filler stands after them, so that 20, 21, 23 and 25 are not. So what is told as a flaw is what the judge says (`flaw_told`), and a check tells no
-- other number than those of `check_numbers` (`check_numbers_lem`). Assumes nothing.
use Prim.Native.Nat.{ℕ, zero, suc, ◌+◌, ◌-◌, ◌*◌, ◌≤◌, ◌<◌}
use Rattle.std.specs.Prelude.{◌≡◌, Bool, ◌≢◌, List, [], ◌∷◌, eqb, leb, ltb, length, get_or}
use Rattle.std.proofs.Math.Path.{refl, ap}
use Rattle.std.proofs.Common.{sym, ◌∙◌, arith, le-ltb, eq-eqb, ne_eqb}
use Rattle.std.proofs.Math.Bool.{true, false, not}
use Rattle.std.proofs.Math.Option.{Option, none, some}
use Rattle.std.proofs.Math.ListN.{get_or-eq_default}
use Rattle.scan.specs.Laws.{true-false, nowhere_at, none-seek}
use Rattle.scan.specs.Scan.{Spot, nowhere, at, seek, any, among, has}
use Rattle.answers.specs.Order.{refuse, refuse-at, first_at, is_out, is_same, is_again}
use Rattle.answers.specs.declared.Refusal.{Refusal}
use Rattle.answers.specs.declared.Refusal.TheVariants.{UnknownSize, SourceOut, NoTarget, TooMany, TargetOut, TargetIsSource, TargetAgain, NoRoom}
use Rattle.paths.specs.Fan.{filler, relay, hops}
use Rattle.paths.specs.Finding.{Finding, clean, found, report, report-at, unlinked_at, seen_at, unfilled, unfilled_at, finding_of, finding_from, finding_by, finding}
use Rattle.paths.specs.Mesh.{Mesh, width}
use Rattle.paths.specs.Rules.{fan_rules}
use Rattle.mesh.specs.Kinds.{kind_of, mesh_of, known, planned}
use Rattle.mesh.specs.Says.{short}
use Rattle.judge.specs.Alike.{enough}
use Rattle.judge.specs.Says.{Ruling, ruling, number_of, rule, judge_against}
use Rattle.sheet.specs.Format.{HEAD, version_at, kind_at, size_at, count_at, source_at, hops_at, after, places_of, counts_of, targets_of}
use Rattle.sheet.specs.Laid.{path_at, within_at, laid-hops, laid_end, laid-at}
use Rattle.sheet.specs.Lengths.{paths-length, counts-length, targets-length}
use Rattle.sheet.specs.Lent.{Within, places-length, last-at}
use Rattle.sheet.specs.Says.{flaw_number, flaw_path, flaw_place, flawed, before, lone, read_number}
use Rattle.sheet.specs.declared.Flaw.{Flaw}
use Rattle.sheet.specs.declared.Flaw.TheVariants as flaw
use Rattle.sheet_take.specs.Looking.{looked_within}
use Rattle.sheet_take.specs.Says.{bad_hops, looked}
use Rattle.sheet_check.specs.Bodied.{body-known, body-some, body-few}
use Rattle.sheet_check.specs.Needs.{Bodied}
use Rattle.sheet_check.specs.Says.{cut, bad_count, ruling_of, flaw_in, ruled, mesh_at, sheet_paths, head_against, sheet_ruling, paths_against, check_against, sheet_told}

-- paths that a sheet can hold
pub record Held (kind size : ℕ) (ps : List (List ℕ)) : Type 0 where
  pub known-mesh : known kind size ≡ true
  pub some-path : length ps ≢ 0
  pub few : length ps ≤ (mesh_of kind size).links
  pub within : Within (mesh_of kind size).longest ps

module _ (kind size s : ℕ) (ps : List (List ℕ)) (h : Held kind size ps) where
  abbrev m : Mesh
  m = mesh_of kind size

  abbrev w : ℕ
  w = width m

  abbrev targets : List ℕ
  targets = targets_of s ps

  abbrev places : List ℕ
  places = places_of s m.longest ps

  abbrev counts : List ℕ
  counts = counts_of ps

  -- ---- the request

  how_many : length targets ≡ length ps
  how_many = targets-length s ps

  roomy : short m (length targets) (length places) (length counts) ≡ false
  roomy =
      enough m (length targets) (length places) (length counts)
      (omega (arith, places-length s m.longest ps h.within, ap (λ (k : ℕ). k * w) how_many)) (omega (arith, counts-length ps, how_many))

  refusal_case : (P : Option Refusal → Type 0) → P none → P (some SourceOut) → ((p : ℕ) → P (some (TargetOut p))) → ((p : ℕ) → P (some (TargetIsSource p)))
      → ((p : ℕ) → P (some (TargetAgain p))) → P (judge_against (kind_of kind) size s targets places counts false)
  refusal_case P nothing source out same again =
      go (not (known kind size)) (eqb (length targets) 0) (ltb m.links (length targets)) (short m (length targets) (length places) (length counts))
      (ap not h.known-mesh) (ne_eqb (length targets) 0 (λ z. h.some-path (sym how_many ∙ z))) (le-ltb m.links (length targets) (omega (arith, how_many, h.few))) roomy
      (leb m.relays s) (first_at targets (is_out m.relays targets)) (first_at targets (is_same s targets)) (first_at targets (is_again targets))
    where
      go : (a c d e : Bool) → a ≡ false → c ≡ false → d ≡ false → e ≡ false → (b : Bool) (x y z : Spot)
          → P (refuse a UnknownSize (refuse b SourceOut (refuse c NoTarget (refuse d TooMany
          (refuse-at x TargetOut (refuse-at y TargetIsSource (refuse-at z TargetAgain (refuse e NoRoom none))))))))
      go true c d e i j k l b x y z = absurd (true-false refl i)
      go false true d e i j k l b x y z = absurd (true-false refl j)
      go false false true e i j k l b x y z = absurd (true-false refl k)
      go false false false true i j k l b x y z = absurd (true-false refl l)
      go false false false false i j k l true x y z = source
      go false false false false i j k l false (at p) y z = out p
      go false false false false i j k l false nowhere (at p) z = same p
      go false false false false i j k l false nowhere nowhere (at p) = again p
      go false false false false i j k l false nowhere nowhere nowhere = nothing

  -- ---- the paths

  module _ (i : ℕ) (l : i < length ps) where
    hops_is : hops counts i ≡ length (path_at ps i)
    unfolding hops
    hops_is = laid-hops ps i l

    hops-few : hops counts i ≤ m.longest
    hops-few = omega (arith, hops_is, within_at m.longest ps h.within i l)

    stands : (j : ℕ) → j ≤ m.longest → relay w places i j ≡ get_or (s ∷ path_at ps i) j filler
    unfolding relay
    stands j g = laid-at s m.longest ps h.within i j l g

    -- 20, 21, 23, 25
    not_long : ltb m.longest (hops counts i) ≡ false
    not_long = le-ltb m.longest (hops counts i) hops-few

    starts : not (eqb (relay w places i 0) s) ≡ false
    starts = ap not (eq-eqb (relay w places i 0) s (stands 0 (omega arith)))

    ends : not (eqb (relay w places i (hops counts i)) (get_or targets i 0)) ≡ false
    ends =
        ap not (eq-eqb (relay w places i (hops counts i)) (get_or targets i 0)
        (stands (hops counts i) hops-few ∙ ap (λ (j : ℕ). get_or (s ∷ path_at ps i) j filler) hops_is ∙ sym (last-at s (path_at ps i)) ∙ sym (laid_end s ps i l)))

    filled : unfilled_at (fan_rules m) places counts i ≡ nowhere
    unfolding unfilled_at unfilled
    filled = none-seek (unfilled w places i) (hops counts i + 1) (m.longest - hops counts i)
        (λ j a b. ap not (eq-eqb (relay w places i j) filler
        (stands j (omega (arith, hops-few)) ∙ get_or-eq_default (s ∷ path_at ps i) filler {n = j} (omega (arith, hops_is)))))

  finding_case : (P : Finding → Type 0) → P clean → ((i p : ℕ) → P (found 22 i p)) → ((i p : ℕ) → P (found 24 i p)) → P (finding m s targets places counts)
  unfolding finding_by finding_from finding_of
  finding_case P nothing unlinked seen = from 0 (length targets) (omega (arith, how_many))
    where
      one : (i q : ℕ) (a b : Bool) (x : Spot) (d : Bool) (y z : Spot) → a ≡ false → b ≡ false → d ≡ false → z ≡ nowhere → (rest : Finding) → P rest
          → P (report a (found 20 i 0) (report b (found 21 i 0) (report-at x (found 22 i) (report d (found 23 i q) (report-at y (found 24 i) (report-at z (found 25 i) rest))))))
      one i q true b x d y z e f g k rest r = absurd (true-false refl e)
      one i q false true x d y z e f g k rest r = absurd (true-false refl f)
      one i q false false (at p) d y z e f g k rest r = unlinked i p
      one i q false false nowhere true y z e f g k rest r = absurd (true-false refl g)
      one i q false false nowhere false (at p) z e f g k rest r = seen i p
      one i q false false nowhere false nowhere (at p) e f g k rest r = absurd (nowhere_at k refl)
      one i q false false nowhere false nowhere nowhere e f g k rest r = r

      from : (i n : ℕ) → i + n ≤ length ps → P (finding_from (fan_rules m) s targets places counts i n)
      from i zero l = nothing
      from i (suc n) l =
          let here : i < length ps = omega arith in
          one i (hops counts i) _ _ (unlinked_at (fan_rules m) places counts i) _ (seen_at (fan_rules m) places counts i) _ (not_long i here) (starts i here) (ends i here) (filled i here)
          (finding_from (fan_rules m) s targets places counts (suc i) n) (from (suc i) n (omega arith))

  -- ---- both

  pub judged_case : (P : Ruling → Type 0) → P (ruling 0 0 0) → P (ruling 2 0 0) → ((p : ℕ) → P (ruling 5 0 p)) → ((p : ℕ) → P (ruling 6 0 p)) → ((p : ℕ) → P (ruling 7 0 p))
      → ((i p : ℕ) → P (ruling 22 i p)) → ((i p : ℕ) → P (ruling 24 i p)) → P (ruling_of kind size s ps)
  judged_case P nothing source out same again unlinked seen =
      refusal_case (λ (o : Option Refusal). P (rule o (finding m s targets places counts)))
      (finding_case (λ (f : Finding). P (rule none f)) nothing unlinked seen) source out same again

-- ---- sheets

module _ (v : ℕ) (l : List ℕ) where
  -- the paths after a head with nothing wrong, looked through
  module _ (e : head_against v l ≡ none) (g : looked v (mesh_at l).longest l HEAD 0 (count_at l) ≡ none) where
    sheet-held : Held (kind_at l) (size_at l) (sheet_paths v l)
    sheet-held =
        let b : Bodied v l (kind_at l) (size_at l) (source_at l) (count_at l) = record { head = e; kind_is = refl; size_is = refl; source_is = refl; count_is = refl } in
        let many = paths-length v l HEAD (count_at l) in
        record {
          known-mesh = body-known b;
          some-path = λ z. body-some b (sym many ∙ z);
          few = omega (arith, many, body-few b);
          within = looked_within v (mesh_at l).longest l HEAD 0 (count_at l) g;
        }

    sheet_case : (P : Ruling → Type 0) → P (ruling 0 0 0) → P (ruling 2 0 0) → ((p : ℕ) → P (ruling 5 0 p)) → ((p : ℕ) → P (ruling 6 0 p)) → ((p : ℕ) → P (ruling 7 0 p))
        → ((i p : ℕ) → P (ruling 22 i p)) → ((i p : ℕ) → P (ruling 24 i p)) → P (sheet_ruling v l)
    sheet_case P = judged_case (kind_at l) (size_at l) (source_at l) (sheet_paths v l) sheet-held P

    -- what is told as a flaw is what the judge says: number, path and place
    pub flaw_told : number_of (sheet_ruling v l) ≢ 0 → ruling (flaw_number (flaw_in (sheet_ruling v l))) (flaw_path (flaw_in (sheet_ruling v l))) (flaw_place (flaw_in (sheet_ruling v l))) ≡ sheet_ruling v l
    flaw_told =
        sheet_case (λ (r : Ruling). number_of r ≢ 0 → ruling (flaw_number (flaw_in r)) (flaw_path (flaw_in r)) (flaw_place (flaw_in r)) ≡ r)
        (λ ne. absurd (ne refl)) (λ ne. refl) (λ p ne. refl) (λ p ne. refl) (λ p ne. refl) (λ i p ne. refl) (λ i p ne. refl)

-- ---- every number that a check can tell

abbrev pub check_numbers : List ℕ
check_numbers = 0 ∷ 30 ∷ 31 ∷ 32 ∷ 33 ∷ 37 ∷ 34 ∷ 36 ∷ 2 ∷ 5 ∷ 6 ∷ 7 ∷ 22 ∷ 24 ∷ []

-- one of them is told where so much stands against a sheet
abbrev pub Listed : List ℕ → Option Flaw → Type 0
Listed l o = has check_numbers (read_number (sheet_told l o)) ≡ true

module _ (v : ℕ) (l : List ℕ) where
  pub listed-head : Listed l (head_against v l)
  unfolding has among any seek
  listed-head = go (cut l) (not (eqb (version_at l) v)) (not (planned (kind_at l) (size_at l))) (bad_count (mesh_at l).links (count_at l)) (lone (kind_at l) (count_at l))
    where
      go : (a b c d e : Bool) → Listed l (flawed a flaw.Cut (flawed b flaw.Version (flawed c flaw.NoMesh (flawed d flaw.Paths (flawed e flaw.Lone none)))))
      go true b c d e = refl
      go false true c d e = refl
      go false false true d e = refl
      go false false false true e = refl
      go false false false false true = refl
      go false false false false false = refl

  listed-looked : (longest from i k : ℕ) → Listed l (looked v longest l from i k)
  unfolding looked has among any seek
  listed-looked longest from i zero = go (not (eqb from (length l)))
    where
      go : (a : Bool) → Listed l (flawed a flaw.LeftOver none)
      go true = refl
      go false = refl
  listed-looked longest from i (suc k) = go (ltb (length l) (from + 2)) (bad_hops longest (hops_at l from)) (ltb (length l) (after v l from)) (looked v longest l (after v l from) (suc i) k) (listed-looked longest (after v l from) (suc i) k)
    where
      go : (a b c : Bool) (rest : Option Flaw) → Listed l rest → Listed l (flawed a flaw.Cut (flawed b (flaw.Hops i) (flawed c flaw.Cut rest)))
      go true b c rest r = refl
      go false true c rest r = refl
      go false false true rest r = refl
      go false false false rest r = r

  listed-ruled : head_against v l ≡ none → looked v (mesh_at l).longest l HEAD 0 (count_at l) ≡ none → Listed l (ruled (sheet_ruling v l))
  unfolding has among any seek
  listed-ruled e g = sheet_case v l e g (λ (r : Ruling). Listed l (ruled r)) refl refl (λ p. refl) (λ p. refl) (λ p. refl) (λ i p. refl) (λ i p. refl)

  listed-before : (a b : Option Flaw) → Listed l a → (a ≡ none → Listed l b) → Listed l (before a b)
  listed-before none b x y = y refl
  listed-before (some f) b x y = x

  pub check_numbers_lem : Listed l (check_against v l)
  check_numbers_lem =
      listed-before (head_against v l) (paths_against v l) listed-head
      (λ e. listed-before (looked v (mesh_at l).longest l HEAD 0 (count_at l)) (ruled (sheet_ruling v l)) (listed-looked (mesh_at l).longest HEAD 0 (count_at l)) (λ g. listed-ruled e g))
