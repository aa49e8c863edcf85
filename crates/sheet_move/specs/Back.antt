-- Main theorem `move_back`: a sheet that was moved to the other version, and is moved back, is the same bytes; so from version 1 to 2 and back (`up_down`), and from 2 to 1 and back
-- (`down_up`). Moving on from version 1 gives each path zone 0 (`up_zones`). Assumes nothing.
use Rattle.std.specs.Prelude.{ℕ, ◌*◌, ◌≤◌, ◌≡◌, refl, List, [], ◌++◌, length, get_or, take, drop, Result, Ok}
use Rattle.std.proofs.Common.{sym, ap, ap₂, ◌∙◌, subst, append-nil, arith, take_at, le-ltb}
use Rattle.std.proofs.Math.Option.{Option, none}
use Rattle.std.proofs.Math.Seq.{take-length}
use Rattle.scan.specs.Scan.{nowhere}
use Rattle.octets.specs.Big.{Bytes}
use Rattle.paths.specs.Mesh.{width}
use Rattle.sheet.specs.Flaws.{before-none, none-flawed, none_before}
use Rattle.sheet.specs.Format.{VERSION, ZONED, HEAD, sheet_of, kind_at, size_at, count_at, source_at, zones_of, paths_of}
use Rattle.sheet.specs.Lengths.{zones_length}
use Rattle.sheet.specs.Says.{settled, tell_written}
use Rattle.sheet.specs.declared.Flaw.{Flaw}
use Rattle.sheet.specs.declared.Flaw.TheVariants as flaw
use Rattle.sheet_put.specs.Stray.{stray_in}
use Rattle.sheet_write.specs.Says.{stray_flaw}
use Rattle.sheet_check.specs.Says.{mesh_at, sheet_paths, sheet_targets, sheet_places, sheet_counts, sheet_zones, check_against}
use Rattle.sheet_read.specs.Says.{read_against}
use Rattle.sheet_trips.specs.Accepted.{Accepted, stray_none}
use Rattle.sheet_trips.specs.Again.{sheet_again}
use Rattle.sheet_trips.specs.Trips.{wrote_fine}
use Rattle.sheet_trips.specs.TripsRead.{ReadsBack, write_read}
use Rattle.sheet_trips.specs.TripsWrite.{is_accepted, as_told, several, same-paths, is_fan}
use Rattle.sheet_trips.specs.Zones.{none_read, read_unstray, read_narrow, zones_read}
use Rattle.sheet_move.specs.Moving.{check_reads, reads_check}
use Rattle.sheet_move.specs.Says.{moved_bytes, lay_against, moves_against, Moved}
use Rattle.sheet_move.specs.Unique.{moved_unique}

-- moving on from version 1 gives each path zone 0
pub up_zones : (l : List ℕ) (i : ℕ) → get_or (sheet_zones VERSION l) i 0 ≡ 0
up_zones l i = none_read VERSION l HEAD (count_at l) i refl

module _ (v u : ℕ) (l : List ℕ) (b : Bytes l) (out : List ℕ) (n : ℕ) (out₁ : List ℕ) (q : Moved v u l out (Ok n) out₁) where
  abbrev bytes : List ℕ
  bytes = moved_bytes v u l

  fine : (moves_against v u l out ≡ none) × (n ≡ length bytes)
  fine = wrote_fine (moves_against v u l out) n (length bytes) q.told

  sound : (check_against v l ≡ none) × (lay_against v u l out ≡ none)
  sound = before-none (check_against v l) (lay_against v u l out) fine.0

  in_place : stray_in u (sheet_zones v l) (count_at l) ≡ nowhere
  in_place = stray_none (stray_in u (sheet_zones v l) (count_at l)) (before-none (stray_flaw (stray_in u (sheet_zones v l) (count_at l))) _ sound.1).0

  -- it stands at the front
  pub moved_is : take n out₁ ≡ bytes
  moved_is =
      ap (take n) (q.held ∙ ap (λ (o : Option Flaw). settled o (bytes ++ drop (length bytes) out) out) fine.0) ∙ take_at bytes (drop (length bytes) out) n (sym fine.1)

  -- it is read back, in room enough
  abbrev room : ℕ
  room = count_at l * width (mesh_at l)

  readable : read_against v l room (count_at l) (count_at l) ≡ none
  readable = check_reads v l room (count_at l) (count_at l) (omega arith) (omega arith) (omega arith) sound.0

  a : Accepted v l room (count_at l) (count_at l)
  a = is_accepted v l room (count_at l) (count_at l) readable

  paths_are : paths_of (width (mesh_at l)) (sheet_places v l ++ []) (sheet_counts v l ++ []) (length (sheet_targets v l)) ≡ sheet_paths v l
  paths_are = same-paths v l room (count_at l) (count_at l) readable [] []

  back : ReadsBack u (sheet_zones v l) (kind_at l) (size_at l) (source_at l) (sheet_targets v l) (sheet_places v l ++ []) (sheet_counts v l ++ []) bytes
  back =
      subst (λ ps. ReadsBack u (sheet_zones v l) (kind_at l) (size_at l) (source_at l) (sheet_targets v l) (sheet_places v l ++ []) (sheet_counts v l ++ [])
      (sheet_of u (kind_at l) (size_at l) (source_at l) (sheet_zones v l) ps)) paths_are
      (write_read u (sheet_zones v l) (read_narrow v l b HEAD (count_at l)) (kind_at l) (size_at l) (source_at l) (sheet_targets v l) (sheet_places v l ++ []) (sheet_counts v l ++ [])
      a.known-mesh (is_fan v l room (count_at l) (count_at l) readable [] []) (several v l room (count_at l) (count_at l) readable))

  many : length (sheet_targets v l) ≡ count_at l
  many = as_told v l room (count_at l) (count_at l) readable

  zones_are : sheet_zones u bytes ≡ sheet_zones v l
  zones_are =
      let long = zones_length v l HEAD (count_at l) in
      back.zones_are ∙ ap (zones_of u (sheet_zones v l)) many ∙ zones_read u (sheet_zones v l) (count_at l) in_place (omega (arith, long))
      ∙ ap (λ (k : ℕ). take k (sheet_zones v l)) (sym long) ∙ take-length (sheet_zones v l)

  -- the sheet in its first version again
  again : moved_bytes u v bytes ≡ l
  again =
      ap₂ (λ (x y : ℕ). sheet_of v x y (source_at bytes) (sheet_zones u bytes) (sheet_paths u bytes)) back.kind_is back.size_is
      ∙ ap₂ (λ (x : ℕ) (y : List ℕ). sheet_of v (kind_at l) (size_at l) x y (sheet_paths u bytes)) back.source_is zones_are
      ∙ ap (sheet_of v (kind_at l) (size_at l) (source_at l) (sheet_zones v l)) (back.paths_are ∙ paths_are)
      ∙ sheet_again l b v room (count_at l) (count_at l) a

  checked : check_against u bytes ≡ none
  checked = reads_check u bytes _ _ _ (back.no_flaw (length (sheet_targets v l) * width (mesh_at l)) (length (sheet_targets v l)) (length (sheet_targets v l)) (omega arith) (omega arith) (omega arith))

  unstray : stray_in v (sheet_zones u bytes) (count_at bytes) ≡ nowhere
  unstray =
      ap₂ (stray_in v) (zones_are ∙ sym (append-nil (sheet_zones v l))) (back.count_is ∙ many) ∙ read_unstray v l HEAD (count_at l) []

  pub move_back : (out₂ : List ℕ) → length l ≤ length out₂ → (r : Result ℕ Flaw) (out₃ : List ℕ) → Moved u v (take n out₁) out₂ r out₃
      → (r ≡ Ok (length l)) × (out₃ ≡ l ++ drop (length l) out₂)
  move_back out₂ h r out₃ p =
      let nothing : moves_against u v bytes out₂ ≡ none
      = none_before checked (none_before (ap stray_flaw unstray) (none-flawed flaw.NoRoom (le-ltb (length out₂) (length (moved_bytes u v bytes)) (omega (arith, ap length again))) refl)) in
      moved_unique u v bytes out₂ r (Ok (length l)) out₃ (l ++ drop (length l) out₂)
      (subst (λ (x : List ℕ). Moved u v x out₂ r out₃) moved_is p)
      (record {
        told = sym (ap₂ (λ (o : Option Flaw) (x : List ℕ). tell_written o (length x)) nothing again);
        held = sym (ap₂ (λ (o : Option Flaw) (x : List ℕ). settled o (x ++ drop (length x) out₂) out₂) nothing again);
      })

-- from version 1 to 2, and back
pub up_down : (l : List ℕ) → Bytes l → (out : List ℕ) (n : ℕ) (out₁ : List ℕ) → Moved VERSION ZONED l out (Ok n) out₁
    → (out₂ : List ℕ) → length l ≤ length out₂ → (r : Result ℕ Flaw) (out₃ : List ℕ) → Moved ZONED VERSION (take n out₁) out₂ r out₃
    → (r ≡ Ok (length l)) × (out₃ ≡ l ++ drop (length l) out₂)
up_down = move_back VERSION ZONED

-- and from version 2 to 1, which is done where every zone is 0, and back
pub down_up : (l : List ℕ) → Bytes l → (out : List ℕ) (n : ℕ) (out₁ : List ℕ) → Moved ZONED VERSION l out (Ok n) out₁
    → (out₂ : List ℕ) → length l ≤ length out₂ → (r : Result ℕ Flaw) (out₃ : List ℕ) → Moved VERSION ZONED (take n out₁) out₂ r out₃
    → (r ≡ Ok (length l)) × (out₃ ≡ l ++ drop (length l) out₂)
down_up = move_back ZONED VERSION
