-- Main theorem `write_read`: a fan with its zones that is written in version v, and is no lone path of a two-level mesh, reads back the same, request, places, counts and
-- the zones that the version has. Assumes nothing.
use Rattle.std.specs.Prelude.{ℕ, ◌+◌, ◌*◌, ◌^◌, ◌≤◌, ◌<◌, ◌≡◌, true, false, List, [], length, take}
use Rattle.std.proofs.Common.{sym, ap, ap₂, ◌∙◌, subst, append-nil, mul-le-mul, arith, get_or-take, length-take-le}
use Rattle.std.proofs.Math.Option.{none}
use Rattle.paths.specs.Mesh.{Mesh, width}
use Rattle.mesh.specs.Kinds.{kind_of, mesh_of, planned}
use Rattle.mesh.specs.Limits.{planned-links, known-width, known-relays}
use Rattle.mesh.specs.Requests.{Fine}
use Rattle.judge.specs.Says.{number_of, judge_told}
use Rattle.sheet.specs.Format.{HEAD, head, paths_bytes, sheet_of, version_at, kind_at, size_at, count_at, source_at, paths_at, zones_at, zones_of, places_of, counts_of, targets_of, paths_of}
use Rattle.sheet.specs.Judging.{Judged, judged, judged-told, judged-fine, judged-same}
use Rattle.sheet.specs.Lengths.{head_bounds, paths_from-length, bytes_of}
use Rattle.sheet.specs.Lent.{within_of, places-of, counts_of_lem, targets_of_lem}
use Rattle.sheet.specs.Most.{bytes_most}
use Rattle.sheet.specs.Says.{lone}
use Rattle.sheet_take.specs.Says.{looked}
use Rattle.sheet_check.specs.Says.{mesh_at, sheet_paths, sheet_targets, sheet_places, sheet_counts, sheet_zones}
use Rattle.sheet_read.specs.Says.{read_against}
use Rattle.sheet_trips.specs.Accepted.{Accepted, accepts}
use Rattle.sheet_trips.specs.Fits.{fan_fits}
use Rattle.sheet_trips.specs.There.{Fit, Narrow, Head, paths_at-there, zones_at-there, looked-there, head-there}

-- what the judge tells of a request and slices: 0 of a fan
abbrev ruling : (kind size s : ℕ) (targets places counts : List ℕ) → ℕ
ruling kind size s targets places counts = number_of (judge_told (kind_of kind) size s targets places counts false)

-- what is read of the sheet of a fan
pub record ReadsBack (v : ℕ) (zones : List ℕ) (kind size s : ℕ) (targets places counts l : List ℕ) : Type 0 where
  pub version_is : version_at l ≡ v
  pub kind_is : kind_at l ≡ kind
  pub size_is : size_at l ≡ size
  pub source_is : source_at l ≡ s
  pub count_is : count_at l ≡ length targets
  pub paths_are : sheet_paths v l ≡ paths_of (width (mesh_of kind size)) places counts (length targets)
  pub targets_are : sheet_targets v l ≡ targets
  pub places_are : sheet_places v l ≡ take (length targets * width (mesh_of kind size)) places
  pub counts_are : sheet_counts v l ≡ take (length targets) counts
  pub zones_are : sheet_zones v l ≡ zones_of v zones (length targets)
  -- nothing stands against it where there is room
  pub no_flaw : (p c t : ℕ) → length targets * width (mesh_of kind size) ≤ p → length targets ≤ c → length targets ≤ t → read_against v l p c t ≡ none

module _ (v : ℕ) (zones : List ℕ) (narrow-zones : Narrow zones) (kind size s : ℕ) (targets places counts : List ℕ) (p : planned kind size ≡ true) (e : number_of (judge_told (kind_of kind) size s targets places counts false) ≡ 0)
    (several : lone kind (length targets) ≡ false) where
  abbrev m : Mesh
  m = mesh_of kind size

  abbrev w : ℕ
  w = width m

  abbrev k : ℕ
  k = length targets

  abbrev ps : List (List ℕ)
  ps = paths_of w places counts k

  is_judged : Judged (kind_of kind) size s targets places counts
  is_judged = judged (kind_of kind) size s targets places counts e

  fine : Fine (kind_of kind) size s targets
  fine = judged-fine (kind_of kind) size s targets is_judged

  few-hops : m.longest ≤ 206
  few-hops = omega (arith, known-width kind size fine.known)

  narrow : m.relays ≤ 2 ^ 64
  narrow = omega (arith, known-relays kind size fine.known)

  fits : Fit m.longest ps
  fits = fan_fits m s targets places counts narrow is_judged.fan fine.sound.other

  how_many : length ps ≡ k
  how_many = paths_from-length w places counts 0 k

  few_bytes : 12 + bytes_of v ps < 256 ^ 4
  few_bytes =
      let within = within_of m s places counts targets is_judged.fan in
      let few : length ps ≤ 32 = omega (arith, how_many, fine.sound.few, planned-links kind size p) in
      let path : head v + 8 * m.longest ≤ 1654 = omega (arith, few-hops, (head_bounds v).1) in
      omega (arith, bytes_most v m.longest ps within, mul-le-mul few path)

  -- the places and counts that are read
  taken : Judged (kind_of kind) size s targets (take (k * w) places) (take k counts)
  taken =
      let room = length-take-le (k * w) places is_judged.room in
      let counted = length-take-le k counts is_judged.counted in
      judged-same (kind_of kind) size s targets places counts (take (k * w) places) (take k counts) is_judged (omega (arith, room)) (omega (arith, counted))
      (λ j g. get_or-take (k * w) places j 0 g) (λ j g. get_or-take k counts j 0 g)

  module _ (l : List ℕ) (h : Head v kind size s (length ps) (paths_bytes v zones ps) l) where
    same-mesh : mesh_at l ≡ m
    same-mesh = ap₂ mesh_of h.kind_is h.size_is

    same_count : count_at l ≡ k
    same_count = h.count_is ∙ how_many

    same-paths : sheet_paths v l ≡ ps
    same-paths =
        ap (paths_at v l HEAD) h.count_is
        ∙ paths_at-there v m.longest (omega (arith, few-hops)) l ps zones [] HEAD fits h.long (h.after_it ∙ sym (append-nil (paths_bytes v zones ps)))

    same_zones : sheet_zones v l ≡ zones_of v zones k
    same_zones =
        ap (zones_at v l HEAD) h.count_is
        ∙ zones_at-there v m.longest (omega (arith, few-hops)) l ps zones [] HEAD fits narrow-zones h.long (h.after_it ∙ sym (append-nil (paths_bytes v zones ps)))
        ∙ ap (zones_of v zones) how_many

    same-targets : sheet_targets v l ≡ targets
    same-targets = ap₂ targets_of h.source_is same-paths ∙ targets_of_lem m s places counts targets is_judged.fan

    same-places : sheet_places v l ≡ take (k * w) places
    same-places =
        ap₂ (λ (u : ℕ) (n : Mesh). places_of u n.longest (sheet_paths v l)) h.source_is same-mesh ∙ ap (places_of s m.longest) same-paths
        ∙ places-of m s places counts targets is_judged.fan is_judged.room

    same-counts : sheet_counts v l ≡ take k counts
    same-counts = ap counts_of same-paths ∙ counts_of_lem m s places counts targets is_judged.fan is_judged.counted

    looks : looked v (mesh_at l).longest l HEAD 0 (count_at l) ≡ none
    looks =
        ap₂ (λ (n : Mesh) (c : ℕ). looked v n.longest l HEAD 0 c) same-mesh h.count_is
        ∙ looked-there v m.longest (omega (arith, few-hops)) l ps zones HEAD 0 fits h.long h.after_it

    -- the judge finds in what is read what it found before
    is_fan : number_of (judge_told (kind_of (kind_at l)) (size_at l) (source_at l) (sheet_targets v l) (sheet_places v l) (sheet_counts v l) false) ≡ 0
    is_fan =
        ap₂ (λ (x y : ℕ). ruling x y (source_at l) (sheet_targets v l) (sheet_places v l) (sheet_counts v l)) h.kind_is h.size_is
        ∙ ap₂ (λ (x : ℕ) (t : List ℕ). ruling kind size x t (sheet_places v l) (sheet_counts v l)) h.source_is same-targets
        ∙ ap₂ (ruling kind size s targets) same-places same-counts
        ∙ judged-told (kind_of kind) size s targets (take (k * w) places) (take k counts) taken

    is_accepted : (q c t : ℕ) → k * w ≤ q → k ≤ c → k ≤ t → Accepted v l q c t
    is_accepted q c t a b d = record {
      long = h.long;
      counted = h.counted;
      version = h.version;
      known-mesh = ap₂ planned h.kind_is h.size_is ∙ p;
      some-path = λ z. omega (arith, z, same_count, fine.sound.some-target);
      few = subst (λ (n : Mesh). count_at l ≤ n.links) (sym same-mesh) (omega (arith, same_count, fine.sound.few));
      not-lone = ap₂ lone h.kind_is same_count ∙ several;
      room = subst (λ (n : Mesh). count_at l * width n ≤ q) (sym same-mesh) (subst (λ (c : ℕ). c * w ≤ q) (sym same_count) a);
      room-counts = omega (arith, same_count);
      room-targets = omega (arith, same_count);
      looks = looks;
      is_fan = is_fan;
    }

    reads_back : ReadsBack v zones kind size s targets places counts l
    reads_back = record {
      version_is = h.version;
      kind_is = h.kind_is;
      size_is = h.size_is;
      source_is = h.source_is;
      count_is = same_count;
      paths_are = same-paths;
      targets_are = same-targets;
      places_are = same-places;
      counts_are = same-counts;
      zones_are = same_zones;
      no_flaw = λ q c t a b d. accepts v l q c t (is_accepted q c t a b d);
    }

  pub write_read : ReadsBack v zones kind size s targets places counts (sheet_of v kind size s zones ps)
  write_read = reads_back (sheet_of v kind size s zones ps) (head-there v kind size s zones ps (omega (arith, fine.sound.source, narrow)) few_bytes)
