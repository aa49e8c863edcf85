-- Main theorem `read_write`: an accepted sheet of version v, read into lent slices, zones too, writes back to the same bytes. Assumes nothing.
use Rattle.std.specs.Prelude.{ℕ, ◌*◌, ◌≤◌, ◌≡◌, false, List, ◌++◌, length}
use Rattle.std.proofs.Common.{sym, ap, ◌∙◌, arith, length-append}
use Rattle.std.proofs.Math.Option.{none}
use Rattle.std.proofs.Math.ListN.{get_or-append}
use Rattle.scan.specs.Scan.{nowhere}
use Rattle.octets.specs.Big.{Bytes}
use Rattle.paths.specs.Mesh.{width}
use Rattle.mesh.specs.Kinds.{kind_of}
use Rattle.judge.specs.Says.{number_of, judge_told}
use Rattle.sheet.specs.Format.{HEAD, paths_bytes, sheet_of, kind_at, size_at, count_at, source_at, paths_of}
use Rattle.sheet.specs.Judging.{Judged, judged, judged-told, judged-same}
use Rattle.sheet.specs.Lengths.{paths-length, zones_length, counts-length, targets-length}
use Rattle.sheet.specs.Lent.{Within, places-length, paths-lent}
use Rattle.sheet.specs.Says.{lone}
use Rattle.sheet_put.specs.Stray.{stray_in}
use Rattle.sheet_write.specs.Says.{bytes_in, ruled, unknown, writes_against}
use Rattle.sheet_write.specs.Writing.{fan-ruled}
use Rattle.sheet_take.specs.Looking.{looked_within}
use Rattle.sheet_check.specs.Says.{mesh_at, sheet_paths, sheet_targets, sheet_places, sheet_counts, sheet_zones}
use Rattle.sheet_read.specs.Says.{read_against}
use Rattle.sheet_trips.specs.Accepted.{Accepted, accepted, write_grants}
use Rattle.sheet_trips.specs.Again.{sheet_again}
use Rattle.sheet_trips.specs.Zones.{zones_front, sheet-same, read_unstray}

-- what is written of slices that hold what was read of l, and more after it
pub record WritesBack (v : ℕ) (l more others zones out : List ℕ) : Type 0 where
  pub bytes_are : bytes_in v zones (kind_at l) (size_at l) (source_at l) (length (sheet_targets v l)) (sheet_places v l ++ more) (sheet_counts v l ++ others) ≡ l
  -- nothing stands against it where there is room
  pub no_flaw : length l ≤ length out
      → writes_against v false zones (kind_at l) (size_at l) (source_at l) (sheet_targets v l) (sheet_places v l ++ more) (sheet_counts v l ++ others) out ≡ none

-- what was read, and more after it
module _ (v : ℕ) (l : List ℕ) (p c t : ℕ) (e : read_against v l p c t ≡ none) where
  pub is_accepted : Accepted v l p c t
  is_accepted = accepted v l p c t e

  abbrev k : ℕ
  k = length (sheet_targets v l)

  abbrev w : ℕ
  w = width (mesh_at l)

  within : Within (mesh_at l).longest (sheet_paths v l)
  within = looked_within v (mesh_at l).longest l HEAD 0 (count_at l) is_accepted.looks

  how_many : length (sheet_paths v l) ≡ k
  how_many = sym (targets-length (source_at l) (sheet_paths v l))

  pub as_told : k ≡ count_at l
  as_told = sym how_many ∙ paths-length v l HEAD (count_at l)

  pub several : lone (kind_at l) k ≡ false
  several = ap (lone (kind_at l)) as_told ∙ is_accepted.not-lone

  places_long : length (sheet_places v l) ≡ k * w
  places_long = places-length (source_at l) (mesh_at l).longest (sheet_paths v l) within ∙ ap (λ (n : ℕ). n * w) how_many

  counts_long : length (sheet_counts v l) ≡ k
  counts_long = counts-length (sheet_paths v l) ∙ how_many

  module _ (more others : List ℕ) where
    abbrev places : List ℕ
    places = sheet_places v l ++ more

    abbrev counts : List ℕ
    counts = sheet_counts v l ++ others

    pub same-paths : paths_of w places counts k ≡ sheet_paths v l
    same-paths = ap (paths_of w places counts) (sym how_many) ∙ paths-lent (source_at l) (mesh_at l).longest (sheet_paths v l) within more others

    -- the judge does not look at what follows
    pub same-fan : Judged (kind_of (kind_at l)) (size_at l) (source_at l) (sheet_targets v l) places counts
    same-fan =
        let K = kind_of (kind_at l) in
        let n = size_at l in
        let s = source_at l in
        let found = judged K n s (sheet_targets v l) (sheet_places v l) (sheet_counts v l) is_accepted.is_fan in
        judged-same K n s (sheet_targets v l) (sheet_places v l) (sheet_counts v l) places counts found
        (omega (arith, places_long, length-append (sheet_places v l) more)) (omega (arith, counts_long, length-append (sheet_counts v l) others))
        (λ j h. get_or-append (sheet_places v l) more 0 j (omega (arith, places_long)))
        (λ j h. get_or-append (sheet_counts v l) others 0 j (omega (arith, counts_long)))

    pub is_fan : number_of (judge_told (kind_of (kind_at l)) (size_at l) (source_at l) (sheet_targets v l) places counts false) ≡ 0
    is_fan = judged-told (kind_of (kind_at l)) (size_at l) (source_at l) (sheet_targets v l) places counts same-fan

  -- zones that were read, and more after them
  module _ (lent : List ℕ) where
    abbrev after_them : List ℕ
    after_them = sheet_zones v l ++ lent

    pub lent-front : paths_bytes v after_them (sheet_paths v l) ≡ paths_bytes v (sheet_zones v l) (sheet_paths v l)
    lent-front =
        zones_front v after_them (sheet_zones v l) (sheet_paths v l)
        (λ i h. get_or-append (sheet_zones v l) lent 0 i (omega (arith, zones_length v l HEAD (count_at l), paths-length v l HEAD (count_at l))))

    pub lent_stray : stray_in v after_them k ≡ nowhere
    lent_stray = ap (stray_in v after_them) as_told ∙ read_unstray v l HEAD (count_at l) lent

-- zones that give the same bytes, and none of which is in the way
module _ (v : ℕ) (version : unknown v ≡ false) (l : List ℕ) (b : Bytes l) (p c t : ℕ) (e : read_against v l p c t ≡ none) (more others zones : List ℕ)
    (front : paths_bytes v zones (sheet_paths v l) ≡ paths_bytes v (sheet_zones v l) (sheet_paths v l)) (no_stray : stray_in v zones (length (sheet_targets v l)) ≡ nowhere) where
  abbrev held : List ℕ
  held = sheet_places v l ++ more

  abbrev hops : List ℕ
  hops = sheet_counts v l ++ others

  same_bytes : bytes_in v zones (kind_at l) (size_at l) (source_at l) (length (sheet_targets v l)) held hops ≡ l
  same_bytes =
      ap (sheet_of v (kind_at l) (size_at l) (source_at l) zones) (same-paths v l p c t e more others)
      ∙ sheet-same v (kind_at l) (size_at l) (source_at l) zones (sheet_zones v l) (sheet_paths v l) front
      ∙ sheet_again l b v p c t (is_accepted v l p c t e)

  pub read_write : (out : List ℕ) → WritesBack v l more others zones out
  read_write out = record {
    bytes_are = same_bytes;
    no_flaw = λ h.
        write_grants (lone (kind_at l) (length (sheet_targets v l))) (unknown v) (stray_in v zones (length (sheet_targets v l))) (ruled (kind_at l) (size_at l) (source_at l) (sheet_targets v l) held hops)
        (length (bytes_in v zones (kind_at l) (size_at l) (source_at l) (length (sheet_targets v l)) held hops)) (length out)
        (record {
          several = several v l p c t e;
          known = version;
          is_fan = fan-ruled false (kind_at l) (size_at l) (source_at l) (sheet_targets v l) held hops (is_accepted v l p c t e).known-mesh (is_fan v l p c t e more others);
          unzoned = no_stray;
          fits = omega (arith, ap length same_bytes);
        });
  }
