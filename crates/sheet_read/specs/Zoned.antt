-- Why the reader with zones keeps its promise: what is wrong with the head (`head-zoned`), want of room for zones (`zoned-short`), what the reader without them says (`zoned-flawed`), and
-- else the zones taken too (`zoned-asked`, `zoned-fan`); and a sheet
-- of either version (`either_read`). Assumes nothing.
use Rattle.std.specs.Prelude.{ℕ, ◌≤◌, ◌<◌, ◌≡◌, Bool, List, ◌++◌, ltb, length, drop, Result, Ok, Err}
use Rattle.std.proofs.Common.{sym, ap, ◌∙◌, subst, arith, lt-ltb, le-ltb}
use Rattle.std.proofs.Math.Option.{Option, none, some}
use Rattle.std.proofs.lemmas.List.Edits.{sets}
use Rattle.paths.specs.Mesh.{Mesh}
use Rattle.mesh.specs.Limits.{known-width}
use Rattle.sheet.specs.Flaws.{flawed-none, before-none}
use Rattle.sheet.specs.Format.{HEAD, version_of, count_at, zones_at}
use Rattle.sheet.specs.Lengths.{zones_length}
use Rattle.sheet.specs.Pieces.{at_front}
use Rattle.sheet.specs.Says.{flawed, before, settled, reading_told, version_by, head_told, with_version}
use Rattle.sheet.specs.declared.Flaw.{Flaw}
use Rattle.sheet.specs.declared.Flaw.TheVariants as flaw
use Rattle.sheet.specs.declared.Head.{Head}
use Rattle.sheet.specs.declared.Versioned.{Versioned}
use Rattle.sheet_take.specs.Says.{looked}
use Rattle.sheet_take.specs.Needs.{Zoned}
use Rattle.sheet_check.specs.Bodied.{head_flaw, mesh_is, body-known}
use Rattle.sheet_check.specs.Needs.{Bodied}
use Rattle.sheet_check.specs.Says.{mesh_at, sheet_zones, head_against, paths_against, sheet_told}
use Rattle.sheet_check.specs.Told.{told_flaw, told_none, told_version, reading-kept}
use Rattle.sheet_read.specs.Filling.{untouched}
use Rattle.sheet_read.specs.Says.{lacking, reads_against, Held, Read, zones_against, ReadZoned, ReadBy}

-- the zones where so much stands against it
abbrev zones_left : (v : ℕ) (l zones : List ℕ) → Option Flaw → List ℕ
zones_left v l zones o = settled o (sheet_zones v l ++ drop (length (sheet_zones v l)) zones) zones

refused : {v : ℕ} (l places counts targets zones : List ℕ) {f : Flaw} → some f ≡ zones_against v l places counts targets zones
    → ReadZoned v l places counts targets zones (Err f) places counts targets zones
refused {v} l places counts targets zones o = record { told = ap (sheet_told l) o; held = untouched l places counts targets o; zoned = ap (zones_left v l zones) o }

pub head-zoned : (v : ℕ) (l places counts targets zones : List ℕ) (f : Flaw) → reading_told (Err f) ≡ sheet_told l (head_against v l)
    → ReadZoned v l places counts targets zones (Err f) places counts targets zones
head-zoned v l places counts targets zones f t =
    let want = lacking l (length places) (length counts) (length targets) in
    refused l places counts targets zones
    (ap (λ (o : Option Flaw). before o (flawed (ltb (length zones) (count_at l)) flaw.NoRoom (flawed want flaw.NoRoom (paths_against v l)))) (head_flaw v l {f = f} t))

module _ {v : ℕ} {l : List ℕ} {kind size s k : ℕ} (b : Bodied v l kind size s k) (places counts targets zones : List ℕ) where
  abbrev rest : Option Flaw
  rest = flawed (lacking l (length places) (length counts) (length targets)) flaw.NoRoom (paths_against v l)

  abbrev against : Option Flaw
  against = zones_against v l places counts targets zones

  pub zoned-short : length zones < k → ReadZoned v l places counts targets zones (Err flaw.NoRoom) places counts targets zones
  zoned-short h =
      refused l places counts targets zones
      (ap (λ (x : Bool). flawed x flaw.NoRoom rest) (sym (lt-ltb (length zones) (count_at l) (omega (arith, b.count_is))))
      ∙ ap (λ (o : Option Flaw). before o (flawed (ltb (length zones) (count_at l)) flaw.NoRoom rest)) (sym b.head))

  -- there is room for the zones
  module _ (h : k ≤ length zones) where
    same : reads_against v l places counts targets ≡ against
    same = ap (λ (x : Bool). before (head_against v l) (flawed x flaw.NoRoom rest)) (sym (le-ltb (length zones) (count_at l) (omega (arith, b.count_is))))

    -- what the reader without zones says and leaves
    module _ {r : Result Head Flaw} {places₁ counts₁ targets₁ : List ℕ} (q : Read v l places counts targets r places₁ counts₁ targets₁) where
      told_same : reading_told r ≡ sheet_told l against
      told_same = q.told ∙ ap (sheet_told l) same

      held_same : Held v l against places counts targets places₁ counts₁ targets₁
      held_same = subst (λ (o : Option Flaw). Held v l o places counts targets places₁ counts₁ targets₁) same q.held

      pub zoned-flawed : {f : Flaw} → r ≡ Err f → ReadZoned v l places counts targets zones (Err f) places₁ counts₁ targets₁ zones
      zoned-flawed {f} e = record {
        told = sym (ap reading_told e) ∙ told_same;
        held = held_same;
        zoned = ap (zones_left v l zones) (told_flaw l against {f = f} (sym (ap reading_told e) ∙ told_same));
      }

      module _ {x : Head} (e : r ≡ Ok x) where
        nothing : against ≡ none
        nothing = told_none l against (sym (ap reading_told e) ∙ told_same)

        sound : looked v (mesh_at l).longest l HEAD 0 (count_at l) ≡ none
        sound =
            let a = before-none (head_against v l) (flawed (ltb (length zones) (count_at l)) flaw.NoRoom rest) nothing in
            let c = flawed-none (ltb (length zones) (count_at l)) flaw.NoRoom rest a.1 in
            let d = flawed-none (lacking l (length places) (length counts) (length targets)) flaw.NoRoom (paths_against v l) c.1 in
            (before-none (looked v (mesh_at l).longest l HEAD 0 (count_at l)) _ d.1).0

        pub zoned-asked : Zoned v l k (length zones)
        zoned-asked = record {
          longest = (mesh_at l).longest;
          sound = ap (looked v (mesh_at l).longest l HEAD 0) b.count_is ∙ sound;
          small = omega (arith, ap (λ (x : Mesh). x.longest) (mesh_is b), known-width kind size (body-known b));
          room = h;
        }

        pub zoned-fan : {zones₁ : List ℕ} → zones₁ ≡ sets zones 0 (zones_at v l HEAD k) → ReadZoned v l places counts targets zones r places₁ counts₁ targets₁ zones₁
        zoned-fan t = record {
          told = told_same;
          held = held_same;
          zoned =
              t ∙ ap (λ (n : ℕ). sets zones 0 (zones_at v l HEAD n)) b.count_is
              ∙ at_front (sheet_zones v l) zones (omega (arith, zones_length v l HEAD (count_at l), b.count_is)) ∙ ap (zones_left v l zones) (sym nothing);
        }

-- ---- either version

pub either_read : {V : Type 0} (number : V → ℕ) {l places counts targets zones : List ℕ} (v : V) {n : ℕ} {x : Result Head Flaw} {r : Result (Versioned V) Flaw} {places₁ counts₁ targets₁ zones₁ : List ℕ} → number v ≡ version_of l
    → n ≡ number v → ReadZoned n l places counts targets zones x places₁ counts₁ targets₁ zones₁ → r ≡ with_version v x → ReadBy number l places counts targets zones r places₁ counts₁ targets₁ zones₁
either_read number {l} {places} {counts} {targets} {zones} v {n} {x} {r} {places₁} {counts₁} {targets₁} {zones₁} e g q h = record {
  version_is =
      ap (version_by number) h ∙ told_version l (zones_against (version_of l) l places counts targets zones) number v x p.told
      ∙ ap (λ (u : ℕ). settled (zones_against (version_of l) l places counts targets zones) u 0) e;
  read = subst (λ (y : Result Head Flaw). ReadZoned (version_of l) l places counts targets zones y places₁ counts₁ targets₁ zones₁) (sym (ap head_told h ∙ reading-kept v x)) p;
}
  where
    p : ReadZoned (version_of l) l places counts targets zones x places₁ counts₁ targets₁ zones₁
    p = subst (λ (u : ℕ). ReadZoned u l places counts targets zones x places₁ counts₁ targets₁ zones₁) (g ∙ e) q
