-- Both round trips, in the words of the promises: what the writer writes is read back, mesh, source, targets, places and counts, in version 1 (`written_reads`) and in either, with the
-- version and the zones (`zoned_reads`); and what the reader reads is written back, byte for byte (`read_writes`, `zoned_writes`). Assumes nothing.
use Rattle.std.specs.Prelude.{ℕ, ◌*◌, ◌≤◌, ◌≡◌, refl, Bool, true, false, not, List, [], ◌++◌, eqb, ltb, length, take, drop, Result, Ok}
use Rattle.std.proofs.Common.{sym, ap, ap₂, ◌∙◌, subst, arith, length-append, take_at, length-take-le, eqb-true, ltb-false, le-ltb}
use Rattle.std.proofs.Math.Option.{Option, none, some}
use Rattle.std.proofs.lemmas.Bool.{eqb-false}
use Rattle.scan.specs.Laws.{true-false}
use Rattle.scan.specs.Scan.{nowhere, pick}
use Rattle.octets.specs.Big.{Bytes}
use Rattle.paths.specs.Mesh.{width}
use Rattle.mesh.specs.Kinds.{kind_of, mesh_of, planned}
use Rattle.mesh.specs.declared.Mesh as code
use Rattle.judge.specs.Says.{number_of, judge_told}
use Rattle.sheet.specs.Flaws.{flaw_some, flawed-none, before-none}
use Rattle.sheet.specs.Format.{VERSION, ZONED, HEAD, zoned, version_at, version_of, kind_at, size_at, count_at, source_at}
use Rattle.sheet.specs.Judging.{judged}
use Rattle.sheet.specs.Lengths.{paths-length, zones_length, targets-length}
use Rattle.sheet.specs.Says.{flawed, before, settled, lone, flaw_number, wrote, tell_written, reads, tell_read, reading_told, version_number, version_told, head_told}
use Rattle.sheet.specs.declared.Flaw.{Flaw}
use Rattle.sheet.specs.declared.Flaw.TheVariants as flaw
use Rattle.sheet.specs.declared.Head.{Head}
use Rattle.sheet.specs.declared.Version.{Version}
use Rattle.sheet.specs.declared.Versioned.{Versioned}
use Rattle.sheet_put.specs.Stray.{stray_in, none_stray}
use Rattle.sheet_write.specs.Says.{bytes_in, ruled_in, unknown, writes_against, WroteIn, WroteZoned, Wrote}
use Rattle.sheet_write.specs.Writing.{ruled-fan, judged-roomy, one_wrote}
use Rattle.sheet_write.specs.Unique.{wrote_in_unique}
use Rattle.sheet_check.specs.Says.{sheet_paths, sheet_targets, sheet_places, sheet_counts, sheet_zones, head_against, paths_against, sheet_told}
use Rattle.sheet_check.specs.Unique.{reading_unique}
use Rattle.sheet_read.specs.Says.{lacking, read_against, reads_against, zoned_against, zones_against, Held, Read, ReadZoned, ReadEither}
use Rattle.sheet_trips.specs.Accepted.{write_granted}
use Rattle.sheet_trips.specs.There.{Narrow}
use Rattle.sheet_trips.specs.TripsRead.{ReadsBack, write_read}
use Rattle.sheet_trips.specs.TripsWrite.{WritesBack, lent-front, lent_stray, read_write}
use Rattle.sheet_trips.specs.Zones.{unzoned, zones_read}

-- a result that is no refusal: nothing stood against it
pub wrote_fine : (o : Option Flaw) (n bytes : ℕ) → wrote 0 0 0 n ≡ tell_written o bytes → (o ≡ none) × (n ≡ bytes)
wrote_fine none n bytes e = (refl, cc)
wrote_fine (some f) n bytes e = let z : flaw_number f ≡ 0 = cc in absurd (eqb-false (flaw_number f) 0 (flaw_some f) z)

read-fine : (o : Option Flaw) (a b s k kind size source n : ℕ) → reads 0 0 0 a b s k ≡ tell_read o kind size source n
    → (o ≡ none) × (a ≡ kind) × (b ≡ size) × (s ≡ source) × (k ≡ n)
read-fine none a b s k kind size source n e = (refl, cc, cc, cc, cc)
read-fine (some f) a b s k kind size source n e = let z : flaw_number f ≡ 0 = cc in absurd (eqb-false (flaw_number f) 0 (flaw_some f) z)

-- a slice that begins with x, and keeps what it held after it
filled_same : {x y : List ℕ} (n : ℕ) (rest : List ℕ) → x ≡ y → length y ≡ n → x ++ drop (length x) rest ≡ y ++ drop n rest
filled_same {x} {y} n rest e f = ap (λ (z : List ℕ). z ++ drop (length z) rest) e ∙ ap (λ (i : ℕ). y ++ drop i rest) f

-- ---- the versions

-- a version that is written is its own
own_version : (v : ℕ) → unknown v ≡ false → pick (zoned v) ZONED VERSION ≡ v
own_version v e = go (eqb v VERSION) (eqb v ZONED) refl refl e
  where
    go : (a b : Bool) → eqb v VERSION ≡ a → eqb v ZONED ≡ b → not (pick a true b) ≡ false → pick b ZONED VERSION ≡ v
    go a true p q n = sym (eqb-true v ZONED q)
    go true false p q n = sym (eqb-true v VERSION p)
    go false false p q n = absurd (true-false refl n)

-- and so is that in which a sheet is read
own-known : (l : List ℕ) → unknown (version_of l) ≡ false
own-known l = go (zoned (version_at l))
  where
    go : (b : Bool) → unknown (pick b ZONED VERSION) ≡ false
    go true = refl
    go false = refl

-- room for the zones is as good as none asked for
zones_roomy : (v : ℕ) (l : List ℕ) (p c t z : ℕ) → count_at l ≤ z → zoned_against v l p c t z ≡ read_against v l p c t
zones_roomy v l p c t z h =
    ap (λ (b : Bool). before (head_against v l) (flawed b flaw.NoRoom (flawed (lacking l p c t) flaw.NoRoom (paths_against v l)))) (le-ltb z (count_at l) h)

-- and where nothing stands against it there is
zones_enough : (v : ℕ) (l : List ℕ) (p c t z : ℕ) → zoned_against v l p c t z ≡ none → ltb z (count_at l) ≡ false
zones_enough v l p c t z e = (flawed-none (ltb z (count_at l)) flaw.NoRoom _ (before-none (head_against v l) _ e).1).0

-- ---- written, then read

-- what is read of a sheet, lent room enough
pub record SameFan (kind size s : ℕ) (targets places counts more others ends : List ℕ) (r : Result Head Flaw) (places₁ counts₁ targets₁ : List ℕ) : Type 0 where
  pub fan : r ≡ Ok (record { mesh = record { kind = kind; size = size }; source = s; paths = length targets })
  pub placed : places₁ ≡ take (length targets * width (mesh_of kind size)) places ++ drop (length targets * width (mesh_of kind size)) more
  pub counted : counts₁ ≡ take (length targets) counts ++ drop (length targets) others
  pub aimed : targets₁ ≡ targets ++ drop (length targets) ends

module _ (v : ℕ) (zones : List ℕ) (kind size s : ℕ) (targets places counts : List ℕ) where
  abbrev k : ℕ
  k = length targets

  abbrev w : ℕ
  w = width (mesh_of kind size)

  -- the bytes that the writer counts are the sheet, the judge found a fan, the path is no lone one, and no zone is in the way
  pub record IsSheet (lacking : Bool) (n : ℕ) (out₁ : List ℕ) : Type 0 where
    pub bytes_are : take n out₁ ≡ bytes_in v zones kind size s k places counts
    pub planned-mesh : planned kind size ≡ true
    pub is_fan : number_of (judge_told (kind_of kind) size s targets places counts false) ≡ 0
    pub several : lone kind k ≡ false
    pub known : unknown v ≡ false
    pub lent : lacking ≡ false
    pub in_place : stray_in v zones k ≡ nowhere

  pub written_is : (lacking : Bool) (out : List ℕ) (n : ℕ) (out₁ : List ℕ) → WroteIn v lacking zones kind size s targets places counts out (Ok n) out₁ → IsSheet lacking n out₁
  written_is lacking out n out₁ q =
      let l = bytes_in v zones kind size s k places counts in
      let fine = wrote_fine (writes_against v lacking zones kind size s targets places counts out) n (length l) q.told in
      let granted = write_granted (lone kind k) (unknown v) (stray_in v zones k) (ruled_in lacking kind size s targets places counts) (length l) (length out) fine.0 in
      let (p, found) = ruled-fan lacking kind size s targets places counts granted.is_fan in
      let roomy = judged-roomy lacking kind size s targets places counts found in
      record {
        bytes_are = ap (take n) (q.held ∙ ap (λ (o : Option Flaw). settled o (l ++ drop (length l) out) out) fine.0) ∙ take_at l (drop (length l) out) n (sym fine.1);
        planned-mesh = p;
        is_fan = roomy.1;
        several = granted.several;
        known = granted.known;
        lent = roomy.0;
        in_place = granted.unzoned;
      }

  -- the judge found a fan, the sheet is l, and nothing stands against reading it
  module _ (e : number_of (judge_told (kind_of kind) size s targets places counts false) ≡ 0) (l : List ℕ) (back : ReadsBack v zones kind size s targets places counts l)
      (more others ends : List ℕ) {o : Option Flaw} (nothing : o ≡ none) where
    fan-read : {r : Result Head Flaw} {places₁ counts₁ targets₁ : List ℕ} → reading_told r ≡ sheet_told l o → Held v l o more others ends places₁ counts₁ targets₁
        → SameFan kind size s targets places counts more others ends r places₁ counts₁ targets₁
    fan-read {r} told q =
        let found = judged (kind_of kind) size s targets places counts e in
        let kept : (now was : List ℕ) → settled o now was ≡ now = λ now was. ap (λ (o : Option Flaw). settled o now was) nothing in
        record {
          fan = reading_unique r (Ok (record { mesh = record { kind = kind; size = size }; source = s; paths = k }))
              (told ∙ ap (λ (o : Option Flaw). tell_read o (kind_at l) (size_at l) (source_at l) (count_at l)) nothing
              ∙ ap₂ (λ (x y : ℕ). reads 0 0 0 x y (source_at l) (count_at l)) back.kind_is back.size_is
              ∙ ap₂ (reads 0 0 0 kind size) back.source_is back.count_is);
          placed = q.placed ∙ kept _ more ∙ filled_same (k * w) more back.places_are (length-take-le (k * w) places found.room);
          counted = q.counted ∙ kept _ others ∙ filled_same k others back.counts_are (length-take-le k counts found.counted);
          aimed = q.aimed ∙ kept _ ends ∙ filled_same k ends back.targets_are refl;
        }

-- in version 1
pub written_reads : (kind size s : ℕ) (targets places counts out : List ℕ) (n : ℕ) (out₁ : List ℕ) → Wrote kind size s targets places counts out (Ok n) out₁
    → (more others ends : List ℕ) → length targets * width (mesh_of kind size) ≤ length more → length targets ≤ length others → length targets ≤ length ends
    → (r : Result Head Flaw) (places₁ counts₁ targets₁ : List ℕ) → Read VERSION (take n out₁) more others ends r places₁ counts₁ targets₁
    → SameFan kind size s targets places counts more others ends r places₁ counts₁ targets₁
written_reads kind size s targets places counts out n out₁ q more others ends a b c r places₁ counts₁ targets₁ u =
    let is = written_is VERSION [] kind size s targets places counts false out n out₁ (one_wrote kind size s targets places counts out q) in
    let l = bytes_in VERSION [] kind size s (length targets) places counts in
    let back = write_read VERSION [] (λ i. omega arith) kind size s targets places counts is.planned-mesh is.is_fan is.several in
    let x = subst (λ (y : List ℕ). Read VERSION y more others ends r places₁ counts₁ targets₁) is.bytes_are u in
    fan-read VERSION [] kind size s targets places counts is.is_fan l back more others ends (back.no_flaw (length more) (length others) (length ends) a b c) x.told x.held

-- in either, with the version and the zones
module _ (v : ℕ) (zones : List ℕ) (narrow : Narrow zones) (kind size s : ℕ) (targets places counts out : List ℕ) where
  pub record SameZoned (more others ends lent : List ℕ) (r : Result (Versioned Version) Flaw) (places₁ counts₁ targets₁ zones₁ : List ℕ) : Type 0 where
    pub version_is : version_told r ≡ v
    pub same : SameFan kind size s targets places counts more others ends (head_told r) places₁ counts₁ targets₁
    pub zones_are : zones₁ ≡ take (length targets) zones ++ drop (length targets) lent

  pub zoned_reads : (n : ℕ) (out₁ : List ℕ) → WroteZoned v kind size s targets places counts zones out (Ok n) out₁
      → (more others ends lent : List ℕ) → length targets * width (mesh_of kind size) ≤ length more → length targets ≤ length others → length targets ≤ length ends → length targets ≤ length lent
      → (r : Result (Versioned Version) Flaw) (places₁ counts₁ targets₁ zones₁ : List ℕ) → ReadEither (take n out₁) more others ends lent r places₁ counts₁ targets₁ zones₁
      → SameZoned more others ends lent r places₁ counts₁ targets₁ zones₁
  zoned_reads n out₁ q more others ends lent a b c d r places₁ counts₁ targets₁ zones₁ u =
      let k = length targets in
      let is = written_is v zones kind size s targets places counts (ltb (length zones) k) out n out₁ q in
      let l = bytes_in v zones kind size s k places counts in
      let back = write_read v zones narrow kind size s targets places counts is.planned-mesh is.is_fan is.several in
      let x = subst (λ (y : List ℕ). ReadEither y more others ends lent r places₁ counts₁ targets₁ zones₁) is.bytes_are u in
      let own : version_of l ≡ v = ap (λ (y : ℕ). pick (zoned y) ZONED VERSION) back.version_is ∙ own_version v is.known in
      let z = subst (λ (y : ℕ). ReadZoned y l more others ends lent (head_told r) places₁ counts₁ targets₁ zones₁) own x.read in
      let nothing : zones_against v l more others ends lent ≡ none
      = zones_roomy v l (length more) (length others) (length ends) (length lent) (omega (arith, back.count_is)) ∙ back.no_flaw (length more) (length others) (length ends) a b c in
      record {
        version_is = x.version_is ∙ ap (λ (y : ℕ). settled (zones_against y l more others ends lent) y 0) own ∙ ap (λ (o : Option Flaw). settled o v 0) nothing;
        same = fan-read v zones kind size s targets places counts is.is_fan l back more others ends nothing z.told z.held;
        zones_are =
            z.zoned ∙ ap (λ (o : Option Flaw). settled o (sheet_zones v l ++ drop (length (sheet_zones v l)) lent) lent) nothing
            ∙ filled_same k lent (back.zones_are ∙ zones_read v zones k is.in_place (ltb-false (length zones) k is.lent)) (length-take-le k zones (ltb-false (length zones) k is.lent));
      }

-- ---- read, then written

-- a promise about the same request and slices
wrote_same : {v kind size s kind₁ size₁ s₁ : ℕ} {lacking₀ lacking₁ : Bool} {zones targets places counts zones₁ targets₁ places₁ counts₁ out out₁ : List ℕ} {r : Result ℕ Flaw}
    → lacking₀ ≡ lacking₁ → zones ≡ zones₁ → kind ≡ kind₁ → size ≡ size₁ → s ≡ s₁ → targets ≡ targets₁ → places ≡ places₁ → counts ≡ counts₁
    → WroteIn v lacking₀ zones kind size s targets places counts out r out₁ → WroteIn v lacking₁ zones₁ kind₁ size₁ s₁ targets₁ places₁ counts₁ out r out₁
wrote_same {v} {kind} {size} {s} {kind₁} {size₁} {s₁} {lacking₀} {lacking₁} {zones} {targets} {places} {counts} {zones₁} {targets₁} {places₁} {counts₁} {out} {out₁} {r} g h a b c d e f q =
    subst (λ x. WroteIn v lacking₁ zones₁ kind₁ size₁ s₁ targets₁ places₁ x out r out₁) f
    (subst (λ x. WroteIn v lacking₁ zones₁ kind₁ size₁ s₁ targets₁ x counts out r out₁) e
    (subst (λ x. WroteIn v lacking₁ zones₁ kind₁ size₁ s₁ x places counts out r out₁) d
    (subst (λ x. WroteIn v lacking₁ zones₁ kind₁ size₁ x targets places counts out r out₁) c
    (subst (λ x. WroteIn v lacking₁ zones₁ kind₁ x s targets places counts out r out₁) b
    (subst (λ x. WroteIn v lacking₁ zones₁ x size s targets places counts out r out₁) a
    (subst (λ x. WroteIn v lacking₁ x kind size s targets places counts out r out₁) h
    (subst (λ x. WroteIn v x zones kind size s targets places counts out r out₁) g q)))))))

-- what is written of what was read, lent room enough
sheet-written : (v : ℕ) (l more others zones out : List ℕ) → WritesBack v l more others zones out → length l ≤ length out → (r : Result ℕ Flaw) (out₁ : List ℕ)
    → WroteIn v false zones (kind_at l) (size_at l) (source_at l) (sheet_targets v l) (sheet_places v l ++ more) (sheet_counts v l ++ others) out r out₁
    → (r ≡ Ok (length l)) × (out₁ ≡ l ++ drop (length l) out)
sheet-written v l more others zones out back room r out₁ q =
    let nothing = back.no_flaw room in
    wrote_in_unique v false zones (kind_at l) (size_at l) (source_at l) (sheet_targets v l) (sheet_places v l ++ more) (sheet_counts v l ++ others) out r (Ok (length l)) out₁
    (l ++ drop (length l) out) q
    (record {
      told = sym (ap₂ (λ (o : Option Flaw) (x : List ℕ). tell_written o (length x)) nothing back.bytes_are);
      held = sym (ap₂ (λ (o : Option Flaw) (x : List ℕ). settled o (x ++ drop (length x) out) out) nothing back.bytes_are);
    })

-- what was read: its targets, and that nothing stood against it
module _ (v : ℕ) (l targets : List ℕ) (o : Option Flaw) (mesh : code.Mesh) (s k : ℕ) (told : reads 0 0 0 mesh.kind mesh.size s k ≡ sheet_told l o) where
  fine : (o ≡ none) × (mesh.kind ≡ kind_at l) × (mesh.size ≡ size_at l) × (s ≡ source_at l) × (k ≡ count_at l)
  fine = read-fine o mesh.kind mesh.size s k (kind_at l) (size_at l) (source_at l) (count_at l) told

  kept : (now was : List ℕ) → settled o now was ≡ now
  kept now was = ap (λ (o : Option Flaw). settled o now was) fine.0

  aims : {targets₁ : List ℕ} → targets₁ ≡ settled o (sheet_targets v l ++ drop (length (sheet_targets v l)) targets) targets → take k targets₁ ≡ sheet_targets v l
  aims e =
      let many : length (sheet_targets v l) ≡ k = targets-length (source_at l) (sheet_paths v l) ∙ paths-length v l HEAD (count_at l) ∙ sym fine.4 in
      ap (take k) (e ∙ kept _ targets) ∙ take_at (sheet_targets v l) (drop (length (sheet_targets v l)) targets) k many

-- in version 1
pub read_writes : (l : List ℕ) → Bytes l → (places counts targets : List ℕ) (mesh : code.Mesh) (s k : ℕ) (places₁ counts₁ targets₁ : List ℕ)
    → Read VERSION l places counts targets (Ok (record { mesh = mesh; source = s; paths = k })) places₁ counts₁ targets₁
    → (out : List ℕ) → length l ≤ length out → (r : Result ℕ Flaw) (out₁ : List ℕ) → Wrote mesh.kind mesh.size s (take k targets₁) places₁ counts₁ out r out₁
    → (r ≡ Ok (length l)) × (out₁ ≡ l ++ drop (length l) out)
read_writes l bytes places counts targets mesh s k places₁ counts₁ targets₁ q out room r out₁ u =
    let against = reads_against VERSION l places counts targets in
    let f = fine VERSION l targets against mesh s k q.told in
    let more = drop (length (sheet_places VERSION l)) places in
    let others = drop (length (sheet_counts VERSION l)) counts in
    let back = read_write VERSION refl l bytes (length places) (length counts) (length targets) f.0 more others []
    (unzoned [] (sheet_zones VERSION l) (sheet_paths VERSION l)) (none_stray (length (sheet_targets VERSION l))) out in
    sheet-written VERSION l more others [] out back room r out₁
    (wrote_same refl refl f.1 f.2 f.3 (aims VERSION l targets against mesh s k q.told q.held.aimed)
    (q.held.placed ∙ kept VERSION l targets against mesh s k q.told _ places) (q.held.counted ∙ kept VERSION l targets against mesh s k q.told _ counts)
    (one_wrote mesh.kind mesh.size s (take k targets₁) places₁ counts₁ out u))

-- in either, with its zones, and in the version that is told
pub zoned_writes : (l : List ℕ) → Bytes l → (places counts targets zones : List ℕ) (v : Version) (mesh : code.Mesh) (s k : ℕ) (places₁ counts₁ targets₁ zones₁ : List ℕ)
    → ReadEither l places counts targets zones (Ok (record { version = v; head = record { mesh = mesh; source = s; paths = k } })) places₁ counts₁ targets₁ zones₁
    → (out : List ℕ) → length l ≤ length out → (r : Result ℕ Flaw) (out₁ : List ℕ) → WroteZoned (version_number v) mesh.kind mesh.size s (take k targets₁) places₁ counts₁ zones₁ out r out₁
    → (r ≡ Ok (length l)) × (out₁ ≡ l ++ drop (length l) out)
zoned_writes l bytes places counts targets zones v mesh s k places₁ counts₁ targets₁ zones₁ q out room r out₁ u =
    let y = version_of l in
    let z = q.read in
    let against = zones_against y l places counts targets zones in
    let f = fine y l targets against mesh s k z.told in
    let more = drop (length (sheet_places y l)) places in
    let others = drop (length (sheet_counts y l)) counts in
    let lent = drop (length (sheet_zones y l)) zones in
    let own : version_number v ≡ y = q.version_is ∙ ap (λ (o : Option Flaw). settled o y 0) f.0 in
    let enough = ltb-false (length zones) (count_at l) (zones_enough y l (length places) (length counts) (length targets) (length zones) f.0) in
    let none-against : reads_against y l places counts targets ≡ none = sym (zones_roomy y l (length places) (length counts) (length targets) (length zones) enough) ∙ f.0 in
    let back = read_write y (own-known l) l bytes (length places) (length counts) (length targets) none-against more others (sheet_zones y l ++ lent)
    (lent-front y l (length places) (length counts) (length targets) none-against lent)
    (lent_stray y l (length places) (length counts) (length targets) none-against lent) out in
    let read-zones : zones₁ ≡ sheet_zones y l ++ lent = z.zoned ∙ kept y l targets against mesh s k z.told _ zones in
    let read-targets = aims y l targets against mesh s k z.told z.held.aimed in
    let many : length (take k targets₁) ≡ count_at l = ap length read-targets ∙ targets-length (source_at l) (sheet_paths y l) ∙ paths-length y l HEAD (count_at l) in
    let all : count_at l ≤ length zones₁ = omega (arith, ap length read-zones, length-append (sheet_zones y l) lent, zones_length y l HEAD (count_at l)) in
    sheet-written y l more others (sheet_zones y l ++ lent) out back room r out₁
    (wrote_same (le-ltb (length zones₁) (length (take k targets₁)) (omega (arith, many, all))) read-zones f.1 f.2 f.3 read-targets
    (z.held.placed ∙ kept y l targets against mesh s k z.told _ places) (z.held.counted ∙ kept y l targets against mesh s k z.told _ counts)
    (subst (λ (x : ℕ). WroteZoned x mesh.kind mesh.size s (take k targets₁) places₁ counts₁ zones₁ out r out₁) own u))
