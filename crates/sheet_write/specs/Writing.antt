-- Why the writer keeps its promise: a fan can be written (`judged_sheeted`, `fan_sheeted`); what is told of a lone path (`wrote_lone`), of another version (`wrote_unknown`), and else
-- by what the judge says (`wrote_fan`, `wrote_short`, `wrote_not`); a zone that has no place (`put_stray`, `put-laid`); and version 1 without zones (`wrote_one`). Assumes nothing.
use Rattle.std.specs.Prelude.{ℕ, ◌<◌, ◌≡◌, refl, Bool, true, false, not, List, [], ◌++◌, ◌≢◌, eqb, ltb, length, drop, Result, Err}
use Rattle.std.proofs.Common.{sym, ap, ap₂, ◌∙◌, arith, eq-eqb, ne_eqb, eqb-true}
use Rattle.std.proofs.Math.Option.{Option, none, some}
use Rattle.scan.specs.Laws.{true-false}
use Rattle.scan.specs.Scan.{Spot, nowhere, at, pick}
use Rattle.mesh.specs.Kinds.{kind_of, planned}
use Rattle.mesh.specs.Limits.{planned-links, known-width}
use Rattle.mesh.specs.Requests.{request_passed}
use Rattle.paths.specs.Finding.{finding}
use Rattle.judge.specs.Numbers.{finding-numbered, rule-zero}
use Rattle.judge.specs.Says.{number_of, judge_against, judge_told}
use Rattle.sheet.specs.Judging.{Judged, judged, judged-fine}
use Rattle.sheet.specs.Format.{VERSION, ZONED}
use Rattle.sheet.specs.Says.{flawed, before, settled, lone, tell_written}
use Rattle.sheet.specs.Flaws.{no_flaw}
use Rattle.sheet.specs.declared.Flaw.{Flaw}
use Rattle.sheet.specs.declared.Flaw.TheVariants as flaw
use Rattle.sheet_put.specs.Stray.{stray_in, none_stray}
use Rattle.sheet_write.specs.Needs.{Sheeted}
use Rattle.sheet_write.specs.Says.{stray_flaw, bytes_in, lay_against, Laid, put_against, PutIn, ruled_in, ruled, ruling_against, unknown, sheet_in, fan_against, writes_against, WroteIn, sheet, write_against, Wrote}

-- the judge tells 0 of what can be written, and its mesh has sheets
pub ruled-fan : (lacking : Bool) (kind size s : ℕ) (targets places counts : List ℕ) → ruled_in lacking kind size s targets places counts ≡ 0
    → (planned kind size ≡ true) × (number_of (judge_told (kind_of kind) size s targets places counts lacking) ≡ 0)
ruled-fan lacking kind size s targets places counts = go (planned kind size) (number_of (judge_told (kind_of kind) size s targets places counts lacking))
  where
    go : (b : Bool) (n : ℕ) → pick b n 1 ≡ 0 → (b ≡ true) × (n ≡ 0)
    go true n e = (refl, e)
    go false n e = absurd (omega (arith, e))

pub fan-ruled : (lacking : Bool) (kind size s : ℕ) (targets places counts : List ℕ) → planned kind size ≡ true
    → number_of (judge_told (kind_of kind) size s targets places counts lacking) ≡ 0 → ruled_in lacking kind size s targets places counts ≡ 0
fan-ruled lacking kind size s targets places counts p e = ap₂ (λ (b : Bool) (n : ℕ). pick b n 1) p e

-- what the judge accepts can be written
pub judged_sheeted : (kind size s : ℕ) (targets places counts : List ℕ) → planned kind size ≡ true → Judged (kind_of kind) size s targets places counts → Sheeted kind size (length targets) (length places) counts
judged_sheeted kind size s targets places counts p j =
    let fine = judged-fine (kind_of kind) size s targets j in
    record {
      known = fine.known;
      planned = p;
      paths = record {
        headed = record {
          few = omega (arith, fine.sound.few, planned-links kind size p);
          counted = j.counted;
          short = λ i h. omega (arith, (j.fan.path i h).short, known-width kind size fine.known);
        };
        room = j.room;
        within = λ i h. omega (arith, (j.fan.path i h).short);
      };
    }

-- what the judge accepts it accepts where nothing is lacking
pub judged-roomy : (lacking : Bool) (kind size s : ℕ) (targets places counts : List ℕ) → number_of (judge_told (kind_of kind) size s targets places counts lacking) ≡ 0
    → (lacking ≡ false) × (number_of (judge_told (kind_of kind) size s targets places counts false) ≡ 0)
judged-roomy false kind size s targets places counts e = (refl, e)
judged-roomy true kind size s targets places counts e =
    let K = kind_of kind in
    let r = rule-zero (judge_against K size s targets places counts true) (finding (K.mesh size) s targets places counts) (finding-numbered (K.mesh size) s targets places counts) e in
    absurd (true-false refl (request_passed K size s targets true r.0).1)

-- what the judge has nothing against can be written
ruled-none : (n : ℕ) → none ≡ ruling_against n → n ≡ 0
ruled-none n j = go (eqb n 0) (eqb n 8) refl j
  where
    go : (x y : Bool) → eqb n 0 ≡ x → none ≡ pick x none (pick y (some flaw.NoRoom) (some flaw.NotAFan)) → n ≡ 0
    go true y p j = eqb-true n 0 p
    go false true p j = no_flaw (sym j)
    go false false p j = no_flaw (sym j)

pub fan_sheeted : (lacking : Bool) (kind size s : ℕ) (targets places counts : List ℕ) → none ≡ ruling_against (ruled_in lacking kind size s targets places counts)
    → Sheeted kind size (length targets) (length places) counts
fan_sheeted lacking kind size s targets places counts j =
    let (p, e) = ruled-fan lacking kind size s targets places counts (ruled-none (ruled_in lacking kind size s targets places counts) j) in
    judged_sheeted kind size s targets places counts p (judged (kind_of kind) size s targets places counts (judged-roomy lacking kind size s targets places counts e).1)

-- ---- what is told of a lone path, of the version, and by what the judge says

module _ (v : ℕ) (lacking : Bool) (zones : List ℕ) (kind size s : ℕ) (targets places counts out : List ℕ) where
  abbrev k : ℕ
  k = length targets

  abbrev says : ℕ
  says = ruled_in lacking kind size s targets places counts

  abbrev against : Option Flaw
  against = writes_against v lacking zones kind size s targets places counts out

  abbrev bytes : List ℕ
  bytes = sheet_in v lacking zones kind size s targets places counts out

  abbrev fan : Option Flaw
  fan = fan_against v lacking zones kind size s targets places counts out

  refused : {f : Flaw} → some f ≡ against → WroteIn v lacking zones kind size s targets places counts out (Err f) out
  refused e = record {
    told = ap (λ (o : Option Flaw). tell_written o (length bytes)) e;
    held = ap (λ (o : Option Flaw). settled o (bytes ++ drop (length bytes) out) out) e;
  }

  -- ---- what code has of a lone path
  module _ {b : Bool} (is : b ≡ lone kind k) where
    pub wrote_lone : b ≡ true → WroteIn v lacking zones kind size s targets places counts out (Err flaw.Lone) out
    wrote_lone t = refused (ap (λ (x : Bool). flawed x flaw.Lone (flawed (unknown v) flaw.Version fan)) (sym t ∙ is))

    -- several paths, or a cube's; and what code has of the version
    module _ (f : b ≡ false) {c : Bool} (known : c ≡ unknown v) where
      several : flawed c flaw.Version fan ≡ against
      several =
          ap (λ (x : Bool). flawed x flaw.Version fan) known
          ∙ ap (λ (x : Bool). flawed x flaw.Lone (flawed (unknown v) flaw.Version fan)) (sym f ∙ is)

      pub wrote_unknown : c ≡ true → WroteIn v lacking zones kind size s targets places counts out (Err flaw.Version) out
      wrote_unknown t = refused (ap (λ (x : Bool). flawed x flaw.Version fan) (sym t) ∙ several)

      -- a version that is written
      module _ (g : c ≡ false) where
        pub version_small : v < 256
        version_small = go (eqb v VERSION) (eqb v ZONED) refl refl (sym known ∙ g)
          where
            go : (x y : Bool) → eqb v VERSION ≡ x → eqb v ZONED ≡ y → not (pick x true y) ≡ false → v < 256
            go true y p q n = omega (arith, eqb-true v VERSION p)
            go false true p q n = omega (arith, eqb-true v ZONED q)
            go false false p q n = absurd (true-false refl n)

        fan_is : fan ≡ against
        fan_is = ap (λ (x : Bool). flawed x flaw.Version fan) (sym g) ∙ several

        against-put : says ≡ 0 → put_against v zones kind size s k places counts out ≡ against
        against-put z =
            ap (λ (x : Bool). pick x (put_against v zones kind size s k places counts out) (pick (eqb says 8) (some flaw.NoRoom) (some flaw.NotAFan))) (sym (eq-eqb says 0 z)) ∙ fan_is

        pub wrote_fan : {r : Result ℕ Flaw} {out₁ : List ℕ} → says ≡ 0 → PutIn v zones kind size s k places counts out r out₁ → WroteIn v lacking zones kind size s targets places counts out r out₁
        wrote_fan z p = record {
          told = p.told ∙ ap (λ (o : Option Flaw). tell_written o (length bytes)) (against-put z);
          held = p.held ∙ ap (λ (o : Option Flaw). settled o (bytes ++ drop (length bytes) out) out) (against-put z);
        }

        -- ---- where the judge says another number

        not-fan : says ≢ 0 → pick (eqb says 8) (some flaw.NoRoom) (some flaw.NotAFan) ≡ against
        not-fan ne =
            ap (λ (x : Bool). pick x (put_against v zones kind size s k places counts out) (pick (eqb says 8) (some flaw.NoRoom) (some flaw.NotAFan))) (sym (ne_eqb says 0 ne)) ∙ fan_is

        pub wrote_short : says ≢ 0 → says ≡ 8 → WroteIn v lacking zones kind size s targets places counts out (Err flaw.NoRoom) out
        wrote_short ne e = refused (ap (λ (x : Bool). pick x (some flaw.NoRoom) (some flaw.NotAFan)) (sym (eq-eqb says 8 e)) ∙ not-fan ne)

        pub wrote_not : says ≢ 0 → says ≢ 8 → WroteIn v lacking zones kind size s targets places counts out (Err flaw.NotAFan) out
        wrote_not ne nt = refused (ap (λ (x : Bool). pick x (some flaw.NoRoom) (some flaw.NotAFan)) (sym (ne_eqb says 8 nt)) ∙ not-fan ne)

-- ---- 38, and then what is laid

module _ (v : ℕ) (zones : List ℕ) (kind size s k : ℕ) (places counts out : List ℕ) where
  abbrev laid : List ℕ
  laid = bytes_in v zones kind size s k places counts

  abbrev room : Option Flaw
  room = lay_against v zones kind size s k places counts out

  pub put_stray : {i : ℕ} → at i ≡ stray_in v zones k → PutIn v zones kind size s k places counts out (Err (flaw.Zone i)) out
  put_stray e = record {
    told = ap (λ (x : Spot). tell_written (before (stray_flaw x) room) (length laid)) e;
    held = ap (λ (x : Spot). settled (before (stray_flaw x) room) (laid ++ drop (length laid) out) out) e;
  }

  pub put-laid : {r : Result ℕ Flaw} {out₁ : List ℕ} → nowhere ≡ stray_in v zones k → Laid v zones kind size s k places counts out r out₁ → PutIn v zones kind size s k places counts out r out₁
  put-laid e q = record {
    told = q.told ∙ ap (λ (x : Spot). tell_written (before (stray_flaw x) room) (length laid)) e;
    held = q.held ∙ ap (λ (x : Spot). settled (before (stray_flaw x) room) (laid ++ drop (length laid) out) out) e;
  }

-- ---- version 1 has no zones

module _ (kind size s : ℕ) (targets places counts out : List ℕ) where
  abbrev one : List ℕ
  one = sheet kind size s targets places counts out

  -- no zone is in the way
  one-against : writes_against VERSION false [] kind size s targets places counts out ≡ write_against kind size s targets places counts out
  one-against =
      ap (λ (x : Spot). flawed (lone kind (length targets)) flaw.Lone
      (pick (eqb (ruled kind size s targets places counts) 0) (before (stray_flaw x) (flawed (ltb (length out) (length one)) flaw.NoRoom none))
      (pick (eqb (ruled kind size s targets places counts) 8) (some flaw.NoRoom) (some flaw.NotAFan)))) (none_stray (length targets))

  pub wrote_one : {r : Result ℕ Flaw} {out₁ : List ℕ} → WroteIn VERSION false [] kind size s targets places counts out r out₁ → Wrote kind size s targets places counts out r out₁
  wrote_one q = record {
    told = q.told ∙ ap (λ (o : Option Flaw). tell_written o (length one)) one-against;
    held = q.held ∙ ap (λ (o : Option Flaw). settled o (one ++ drop (length one) out) out) one-against;
  }

  pub one_wrote : {r : Result ℕ Flaw} {out₁ : List ℕ} → Wrote kind size s targets places counts out r out₁ → WroteIn VERSION false [] kind size s targets places counts out r out₁
  one_wrote q = record {
    told = q.told ∙ sym (ap (λ (o : Option Flaw). tell_written o (length one)) one-against);
    held = q.held ∙ sym (ap (λ (o : Option Flaw). settled o (one ++ drop (length one) out) out) one-against);
  }
