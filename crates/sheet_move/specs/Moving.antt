-- Why a move keeps its promise: what is wrong with the sheet is told (`move_flawed`), what was checked can be taken (`move_asked`, `zones_asked`) and written (`move_sheeted`), and what is
-- written is the sheet in the other version (`move_done`). Assumes nothing.
use Rattle.std.specs.Prelude.{ℕ, ◌+◌, ◌-◌, ◌*◌, ◌≤◌, ◌≡◌, Bool, true, List, ◌++◌, ltb, length, drop, Result, Ok, Err}
use Rattle.std.proofs.Common.{sym, ap, ap₂, ◌∙◌, subst, arith, le-ltb}
use Rattle.std.proofs.Math.Option.{Option, none}
use Rattle.std.proofs.Math.ListN.{get_or-append}
use Rattle.std.proofs.lemmas.List.Edits.{sets}
use Rattle.scan.specs.Scan.{pick, Spot}
use Rattle.paths.specs.Mesh.{Mesh, width}
use Rattle.mesh.specs.Kinds.{mesh_of}
use Rattle.mesh.specs.Limits.{most_links, most_places}
use Rattle.mesh.specs.declared.Mesh as code
use Rattle.judge.specs.Alike.{enough}
use Rattle.sheet.specs.Flaws.{flawed-none, before-none, none-flawed, none_before}
use Rattle.sheet.specs.Format.{HEAD, sheet_of, kind_at, size_at, count_at, source_at, zones_at}
use Rattle.sheet.specs.Lengths.{zones_length, paths-length, counts-length}
use Rattle.sheet.specs.Pieces.{at_front}
use Rattle.sheet.specs.Says.{flawed, before, settled, reads, reading_told, tell_written}
use Rattle.sheet.specs.declared.Flaw.{Flaw}
use Rattle.sheet.specs.declared.Flaw.TheVariants as flaw
use Rattle.sheet.specs.declared.Head.{Head}
use Rattle.sheet_put.specs.Stray.{stray_in}
use Rattle.sheet_take.specs.Needs.{Zoned}
use Rattle.sheet_take.specs.Says.{TakenPaths, looked}
use Rattle.sheet_write.specs.Needs.{Sheeted}
use Rattle.sheet_write.specs.Says.{stray_flaw, bytes_in, PutIn}
use Rattle.sheet_write.specs.Writing.{judged_sheeted}
use Rattle.sheet_check.specs.Bodied.{mesh_is, longest_is}
use Rattle.sheet_check.specs.Checking.{paths_judgeable}
use Rattle.sheet_check.specs.Needs.{Bodied}
use Rattle.sheet_check.specs.Says.{mesh_at, sheet_paths, sheet_targets, sheet_places, sheet_counts, sheet_zones, head_against, paths_against, check_against, sheet_told}
use Rattle.sheet_check.specs.Told.{told_flaw, told_none}
use Rattle.sheet_read.specs.Says.{lacking, read_against}
use Rattle.sheet_trips.specs.TripsWrite.{is_accepted, as_told, same-paths, same-fan}
use Rattle.sheet_trips.specs.Zones.{zones_front, sheet-same, stray_front}
use Rattle.sheet_move.specs.Needs.{Movable}
use Rattle.sheet_move.specs.Says.{moved_bytes, lay_against, moves_against, Moved}

-- what is checked is read in room enough, and what is read was checked
pub check_reads : (v : ℕ) (l : List ℕ) (p c t : ℕ) → count_at l * width (mesh_at l) ≤ p → count_at l ≤ c → count_at l ≤ t → check_against v l ≡ none → read_against v l p c t ≡ none
check_reads v l p c t a b d e =
    let h = before-none (head_against v l) (paths_against v l) e in
    none_before h.0
    (none-flawed flaw.NoRoom (ap₂ (λ (x y : Bool). pick x true y) (enough (mesh_at l) (count_at l) p c a b) (le-ltb t (count_at l) d)) h.1)

pub reads_check : (v : ℕ) (l : List ℕ) (p c t : ℕ) → read_against v l p c t ≡ none → check_against v l ≡ none
reads_check v l p c t e =
    let h = before-none (head_against v l) _ e in
    none_before h.0 (flawed-none (lacking l p c t) flaw.NoRoom (paths_against v l) h.1).1

-- what is wrong with the sheet is told of the move
pub move_flawed : (v u : ℕ) (l out : List ℕ) (f : Flaw) → reading_told (Err f) ≡ sheet_told l (check_against v l) → Moved v u l out (Err f) out
move_flawed v u l out f t =
    let o = told_flaw l (check_against v l) {f = f} t in
    let bytes = moved_bytes v u l in
    record {
      told = ap (λ (x : Option Flaw). tell_written (before x (lay_against v u l out)) (length bytes)) o;
      held = ap (λ (x : Option Flaw). settled (before x (lay_against v u l out)) (bytes ++ drop (length bytes) out) out) o;
    }

-- ---- the sheet was checked

module _ (v : ℕ) (l : List ℕ) (h : Head) (t : reading_told (Ok h) ≡ sheet_told l (check_against v l)) where
  abbrev m : code.Mesh
  m = h.mesh

  abbrev s : ℕ
  s = h.source

  abbrev k : ℕ
  k = h.paths

  told : reads 0 0 0 m.kind m.size s k ≡ sheet_told l (check_against v l)
  told = t

  sound : check_against v l ≡ none
  sound = told_none l (check_against v l) {kind = m.kind} {size = m.size} {s = s} {k = k} told

  plain : reads 0 0 0 m.kind m.size s k ≡ reads 0 0 0 (kind_at l) (size_at l) (source_at l) (count_at l)
  plain = told ∙ ap (sheet_told l) sound

  pub move_bodied : Bodied v l m.kind m.size s k
  move_bodied = record {
    head = (before-none (head_against v l) (paths_against v l) sound).0;
    kind_is = cc (plain);
    size_is = cc (plain);
    source_is = cc (plain);
    count_is = cc (plain);
  }

  -- a longest path of code, which is one less than the places
  pub move_asked : {w : ℕ} → w ≡ width (mesh_of m.kind m.size) → Movable v l m.kind m.size s (w - 1) k most_places most_links most_links most_links
  move_asked {w} is =
      let b = move_bodied in
      let longest = longest_is b is in
      let paths = (before-none (head_against v l) (paths_against v l) sound).1 in
      let seen : looked v (w - 1) l HEAD 0 k ≡ none
      = ap₂ (λ (x n : ℕ). looked v x l HEAD 0 n) (longest ∙ ap (λ (x : Mesh). x.longest) (mesh_is b)) b.count_is
      ∙ (before-none (looked v (mesh_at l).longest l HEAD 0 (count_at l)) _ paths).0 in
      let j = paths_judgeable b longest (sym seen) in
      record {
        sound = sound;
        kind_is = b.kind_is;
        size_is = b.size_is;
        source_is = b.source_is;
        count_is = b.count_is;
        wide = longest;
        taken = j.taken;
        zoned = j.taken.counted;
      }

-- ---- the paths are taken and written

module _ {v : ℕ} {l : List ℕ} {kind size s longest k : ℕ} (places counts targets zones : List ℕ)
    (q : Movable v l kind size s longest k (length places) (length counts) (length targets) (length zones)) where
  pub zones_asked : Zoned v l k (length zones)
  zones_asked = record { longest = longest; sound = q.taken.sound; small = q.taken.small; room = q.zoned }

  mesh-told : mesh_of kind size ≡ mesh_at l
  mesh-told = ap₂ mesh_of q.kind_is q.size_is

  longest-told : longest ≡ (mesh_at l).longest
  longest-told = q.wide ∙ ap (λ (m : Mesh). m.longest) mesh-told

  room : count_at l * width (mesh_at l) ≤ length places
  room = omega (arith, q.taken.room, ap₂ (λ (x y : ℕ). x * (y + 1)) q.count_is longest-told)

  -- nothing stands against reading it into so much room
  readable : read_against v l (length places) (length counts) (length targets) ≡ none
  readable =
      check_reads v l (length places) (length counts) (length targets) room (omega (arith, q.taken.counted, q.count_is)) (omega (arith, q.taken.aimed, q.count_is)) q.sound

  -- what was taken
  module _ {places₁ counts₁ targets₁ zones₁ : List ℕ} (t : TakenPaths v l s longest k places counts targets places₁ counts₁ targets₁) (z : zones₁ ≡ sets zones 0 (zones_at v l HEAD k)) where
    taken : TakenPaths v l (source_at l) (mesh_at l).longest (count_at l) places counts targets places₁ counts₁ targets₁
    taken =
        subst (λ (x : ℕ). TakenPaths v l x (mesh_at l).longest (count_at l) places counts targets places₁ counts₁ targets₁) q.source_is
        (subst (λ (x : ℕ). TakenPaths v l s x (count_at l) places counts targets places₁ counts₁ targets₁) longest-told
        (subst (λ (x : ℕ). TakenPaths v l s longest x places counts targets places₁ counts₁ targets₁) q.count_is t))

    abbrev more : List ℕ
    more = drop (length (sheet_places v l)) places

    abbrev others : List ℕ
    others = drop (length (sheet_counts v l)) counts

    abbrev lent : List ℕ
    lent = drop (length (sheet_zones v l)) zones

    places_are : places₁ ≡ sheet_places v l ++ more
    places_are = taken.placed ∙ at_front (sheet_places v l) places (omega (arith, taken.wide, room))

    counts_are : counts₁ ≡ sheet_counts v l ++ others
    counts_are = taken.counted
        ∙ at_front (sheet_counts v l) counts (omega (arith, counts-length (sheet_paths v l), paths-length v l HEAD (count_at l), q.taken.counted, q.count_is))

    zones_are : zones₁ ≡ sheet_zones v l ++ lent
    zones_are =
        z ∙ ap (λ (n : ℕ). sets zones 0 (zones_at v l HEAD n)) q.count_is
        ∙ at_front (sheet_zones v l) zones (omega (arith, zones_length v l HEAD (count_at l), q.zoned, q.count_is))

    many : length (sheet_targets v l) ≡ k
    many = as_told v l (length places) (length counts) (length targets) readable ∙ sym q.count_is

    pub move_sheeted : Sheeted kind size k (length places₁) counts₁
    move_sheeted =
        let p = length places in
        let c = length counts in
        let n = length targets in
        let held = judged_sheeted (kind_at l) (size_at l) (source_at l) (sheet_targets v l) (sheet_places v l ++ more) (sheet_counts v l ++ others)
        (is_accepted v l p c n readable).known-mesh (same-fan v l p c n readable more others) in
        subst (λ (x : ℕ). Sheeted x size k (length places₁) counts₁) (sym q.kind_is)
        (subst (λ (x : ℕ). Sheeted (kind_at l) x k (length places₁) counts₁) (sym q.size_is)
        (subst (λ (x : ℕ). Sheeted (kind_at l) (size_at l) x (length places₁) counts₁) many
        (subst (λ (x : List ℕ). Sheeted (kind_at l) (size_at l) (length (sheet_targets v l)) (length x) counts₁) (sym places_are)
        (subst (λ (x : List ℕ). Sheeted (kind_at l) (size_at l) (length (sheet_targets v l)) (length (sheet_places v l ++ more)) x) (sym counts_are) held))))

    -- the bytes are those of the sheet
    module _ (u : ℕ) where
      bytes_are : bytes_in u zones₁ kind size s k places₁ counts₁ ≡ moved_bytes v u l
      bytes_are =
          ap₂ (λ (x y : ℕ). bytes_in u zones₁ x y s k places₁ counts₁) q.kind_is q.size_is
          ∙ ap₂ (λ (x y : ℕ). bytes_in u zones₁ (kind_at l) (size_at l) x y places₁ counts₁) q.source_is (sym many)
          ∙ ap₂ (λ (x y : List ℕ). bytes_in u zones₁ (kind_at l) (size_at l) (source_at l) (length (sheet_targets v l)) x y) places_are counts_are
          ∙ ap (sheet_of u (kind_at l) (size_at l) (source_at l) zones₁) (same-paths v l (length places) (length counts) (length targets) readable more others)
          ∙ ap (λ (x : List ℕ). sheet_of u (kind_at l) (size_at l) (source_at l) x (sheet_paths v l)) zones_are
          ∙ sheet-same u (kind_at l) (size_at l) (source_at l) (sheet_zones v l ++ lent) (sheet_zones v l) (sheet_paths v l)
          (zones_front u (sheet_zones v l ++ lent) (sheet_zones v l) (sheet_paths v l)
          (λ i h. get_or-append (sheet_zones v l) lent 0 i (omega (arith, zones_length v l HEAD (count_at l), paths-length v l HEAD (count_at l)))))

      stray_is : stray_in u zones₁ k ≡ stray_in u (sheet_zones v l) (count_at l)
      stray_is =
          ap₂ (stray_in u) zones_are q.count_is
          ∙ stray_front u (sheet_zones v l ++ lent) (sheet_zones v l) (count_at l)
          (λ i h. get_or-append (sheet_zones v l) lent 0 i (omega (arith, zones_length v l HEAD (count_at l))))

      pub move_done : {out : List ℕ} {r : Result ℕ Flaw} {out₁ : List ℕ} → PutIn u zones₁ kind size s k places₁ counts₁ out r out₁ → Moved v u l out r out₁
      move_done {out} p =
          let same : (o : Option Flaw) → o ≡ check_against v l → before o (lay_against v u l out) ≡ moves_against v u l out
          = λ o f. ap (λ (x : Option Flaw). before x (lay_against v u l out)) f in
          let o = same none (sym q.sound) in
          let bytes = moved_bytes v u l in
          record {
            told = p.told ∙ ap₂ (λ (x : List ℕ) (y : Spot). tell_written (before (stray_flaw y) (flawed (ltb (length out) (length x)) flaw.NoRoom none)) (length x)) bytes_are stray_is
                ∙ ap (λ (x : Option Flaw). tell_written x (length bytes)) o;
            held = p.held ∙ ap₂ (λ (x : List ℕ) (y : Spot). settled (before (stray_flaw y) (flawed (ltb (length out) (length x)) flaw.NoRoom none)) (x ++ drop (length x) out) out) bytes_are stray_is
                ∙ ap (λ (x : Option Flaw). settled x (bytes ++ drop (length bytes) out) out) o;
          }
