-- Why the reader keeps its promise: what is wrong with the head (`head_refused`), want of room (`body-short`), what is wrong with the paths (`body-flawed`), and else the paths taken into
-- the lent slices (`body_taken`, `body-fan`). Assumes nothing.
use Rattle.std.specs.Prelude.{ℕ, ◌≡◌, refl, Bool, true, false, List, ◌++◌, ltb, length, drop, Ok, Err}
use Rattle.std.proofs.Common.{sym, ap, ap₂, ◌∙◌, subst, arith, ltb-false}
use Rattle.std.proofs.Math.Option.{Option, none, some}
use Rattle.scan.specs.Scan.{pick}
use Rattle.paths.specs.Mesh.{Mesh}
use Rattle.mesh.specs.Kinds.{mesh_of}
use Rattle.mesh.specs.Limits.{known-width}
use Rattle.mesh.specs.Says.{short}
use Rattle.mesh.specs.Requests.{neither_wanting, room_enough}
use Rattle.sheet.specs.Format.{HEAD, kind_at, size_at, count_at, source_at}
use Rattle.sheet.specs.Says.{flawed, before, settled, reads, reading_told}
use Rattle.sheet.specs.Flaws.{before-none}
use Rattle.sheet.specs.Pieces.{at_front}
use Rattle.sheet.specs.Lengths.{counts-length, targets-length, paths-length}
use Rattle.sheet.specs.declared.Flaw.{Flaw}
use Rattle.sheet.specs.declared.Flaw.TheVariants as flaw
use Rattle.sheet_take.specs.Says.{looked, TakenPaths}
use Rattle.sheet_take.specs.Needs.{Taken}
use Rattle.sheet_check.specs.Says.{mesh_at, sheet_paths, sheet_targets, sheet_places, sheet_counts, head_against, paths_against, sheet_told}
use Rattle.sheet_check.specs.Needs.{Bodied}
use Rattle.sheet_check.specs.Told.{told_flaw, told_none}
use Rattle.sheet_check.specs.Bodied.{head_flaw, mesh_is, body-known}
use Rattle.sheet.specs.declared.Head.{Head}
use Rattle.sheet_read.specs.Says.{lacking, reads_against, Held, Read}

-- a refusal leaves all as it was
pub untouched : {v : ℕ} (l places counts targets : List ℕ) {o : Option Flaw} {f : Flaw} → some f ≡ o → Held v l o places counts targets places counts targets
untouched {v} l places counts targets o = record {
  placed = ap (λ (y : Option Flaw). settled y (sheet_places v l ++ drop (length (sheet_places v l)) places) places) o;
  counted = ap (λ (y : Option Flaw). settled y (sheet_counts v l ++ drop (length (sheet_counts v l)) counts) counts) o;
  aimed = ap (λ (y : Option Flaw). settled y (sheet_targets v l ++ drop (length (sheet_targets v l)) targets) targets) o;
}

refused : {v : ℕ} (l places counts targets : List ℕ) {f : Flaw} → some f ≡ reads_against v l places counts targets → Read v l places counts targets (Err f) places counts targets
refused l places counts targets o = record { told = ap (sheet_told l) o; held = untouched l places counts targets o }

-- what is wrong with the head is told of the sheet
pub head_refused : (v : ℕ) (l places counts targets : List ℕ) (f : Flaw) → reading_told (Err f) ≡ sheet_told l (head_against v l) → Read v l places counts targets (Err f) places counts targets
head_refused v l places counts targets f t =
    let want = lacking l (length places) (length counts) (length targets) in
    refused l places counts targets (ap (λ (o : Option Flaw). before o (flawed want flaw.NoRoom (paths_against v l))) (head_flaw v l {f = f} t))

module _ {v : ℕ} {l : List ℕ} {kind size s k : ℕ} (b : Bodied v l kind size s k) (places counts targets : List ℕ) where
  -- what stands against it: room, then the paths
  reads_is : {x : Bool} {o : Option Flaw} → x ≡ lacking l (length places) (length counts) (length targets) → o ≡ paths_against v l
      → flawed x flaw.NoRoom o ≡ reads_against v l places counts targets
  reads_is {x} {o} p q =
      ap₂ (λ (z : Bool) (u : Option Flaw). flawed z flaw.NoRoom u) p q
      ∙ ap (λ (z : Option Flaw). before z (flawed (lacking l (length places) (length counts) (length targets)) flaw.NoRoom (paths_against v l))) (sym b.head)

  -- the flag is what code has of the want of room
  module _ {flag : Bool} (f : flag ≡ pick (short (mesh_of kind size) k (length places) (length counts)) true (ltb (length targets) k)) where
    want_is : flag ≡ lacking l (length places) (length counts) (length targets)
    want_is = f ∙ ap₂ (λ (m : Mesh) (n : ℕ). pick (short m n (length places) (length counts)) true (ltb (length targets) n)) (mesh_is b) b.count_is

    pub body-short : flag ≡ true → Read v l places counts targets (Err flaw.NoRoom) places counts targets
    body-short t = refused l places counts targets (reads_is {o = paths_against v l} (sym t ∙ want_is) refl)

    module _ (t : flag ≡ false) where
      pub body-flawed : (g : Flaw) → reading_told (Err g) ≡ sheet_told l (paths_against v l) → Read v l places counts targets (Err g) places counts targets
      body-flawed g p = refused l places counts targets (reads_is (sym t ∙ want_is) (told_flaw l (paths_against v l) {f = g} p))

      -- the paths were checked
      module _ {h : Head} (p : reading_told (Ok h) ≡ sheet_told l (paths_against v l)) where
        nothing : paths_against v l ≡ none
        nothing = told_none l (paths_against v l) {kind = h.mesh.kind} {size = h.mesh.size} {s = h.source} {k = h.paths} p

        all_taken : Taken v l (mesh_at l).longest (count_at l) (length places) (length counts) (length targets)
        all_taken =
            let w = neither_wanting (short (mesh_at l) (count_at l) (length places) (length counts)) (ltb (length targets) (count_at l)) refl (sym want_is ∙ t) in
            let room = room_enough (mesh_at l) (count_at l) (length places) (length counts) w.0 in
            record {
              sound = (before-none (looked v (mesh_at l).longest l HEAD 0 (count_at l)) _ nothing).0;
              small = omega (arith, ap (λ (x : Mesh). x.longest) (mesh_is b), known-width kind size (body-known b));
              room = room.0;
              counted = room.1;
              aimed = ltb-false (length targets) (count_at l) w.1;
            }

        module _ {longest : ℕ} (w : longest ≡ (mesh_of kind size).longest) where
          longest-told : longest ≡ (mesh_at l).longest
          longest-told = w ∙ ap (λ (x : Mesh). x.longest) (mesh_is b)

          pub body_taken : Taken v l longest k (length places) (length counts) (length targets)
          body_taken =
              subst (λ (x : ℕ). Taken v l x k (length places) (length counts) (length targets)) (sym longest-told)
              (subst (λ (x : ℕ). Taken v l (mesh_at l).longest x (length places) (length counts) (length targets)) (sym b.count_is) all_taken)

          pub body-fan : {places₁ counts₁ targets₁ : List ℕ} → TakenPaths v l s longest k places counts targets places₁ counts₁ targets₁
              → Read v l places counts targets (Ok (record { mesh = record { kind = kind; size = size }; source = s; paths = k })) places₁ counts₁ targets₁
          body-fan {places₁} {counts₁} {targets₁} x = record {
            told = ap₂ (λ (x y : ℕ). reads 0 0 0 x y s k) b.kind_is b.size_is ∙ ap₂ (reads 0 0 0 (kind_at l) (size_at l)) b.source_is b.count_is
                ∙ ap (sheet_told l) o;
            held = held;
          }
            where
              o : none ≡ reads_against v l places counts targets
              o = reads_is (sym t ∙ want_is) (sym nothing)

              q : TakenPaths v l (source_at l) (mesh_at l).longest (count_at l) places counts targets places₁ counts₁ targets₁
              q =
                  subst (λ (x : ℕ). TakenPaths v l x (mesh_at l).longest (count_at l) places counts targets places₁ counts₁ targets₁) b.source_is
                  (subst (λ (x : ℕ). TakenPaths v l s x (count_at l) places counts targets places₁ counts₁ targets₁) longest-told
                  (subst (λ (x : ℕ). TakenPaths v l s longest x places counts targets places₁ counts₁ targets₁) b.count_is x))

              held : Held v l (reads_against v l places counts targets) places counts targets places₁ counts₁ targets₁
              held = record {
                placed = q.placed ∙ at_front (sheet_places v l) places (omega (arith, q.wide, all_taken.room))
                    ∙ ap (λ (y : Option Flaw). settled y (sheet_places v l ++ drop (length (sheet_places v l)) places) places) o;
                counted = q.counted ∙ at_front (sheet_counts v l) counts (omega (arith, counts-length (sheet_paths v l), paths-length v l HEAD (count_at l), all_taken.counted))
                    ∙ ap (λ (y : Option Flaw). settled y (sheet_counts v l ++ drop (length (sheet_counts v l)) counts) counts) o;
                aimed = q.aimed ∙ at_front (sheet_targets v l) targets (omega (arith, targets-length (source_at l) (sheet_paths v l), paths-length v l HEAD (count_at l), all_taken.aimed))
                    ∙ ap (λ (y : Option Flaw). settled y (sheet_targets v l ++ drop (length (sheet_targets v l)) targets) targets) o;
              }
