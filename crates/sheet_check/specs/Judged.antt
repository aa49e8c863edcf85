-- The judge sees the paths of the sheet (`judged-sheet`). Assumes nothing.
use Rattle.std.specs.Prelude.{ℕ, ◌+◌, ◌*◌, ◌≡◌, Bool, false, List, length, take}
use Rattle.std.proofs.Common.{sym, ap, ap₂, ◌∙◌, refl}
use Rattle.std.proofs.Math.Option.{none, some}
use Rattle.scan.specs.Scan.{pick}
use Rattle.mesh.specs.Kinds.{kind_of}
use Rattle.answers.specs.Laws.{number-some}
use Rattle.answers.specs.Told.{number, place}
use Rattle.judge.specs.Says.{Ruling, ruling, fault_told, judge_told}
use Rattle.judge.specs.declared.Fault.{Fault}
use Rattle.judge.specs.declared.Fault.TheVariants as fault
use Rattle.judge.specs.declared.Finding.TheVariants.{TooLong, NotFromSource, NotLinked, NotToTarget, SeenAgain, NotFilled}
use Rattle.sheet.specs.Format.{HEAD, paths_at, places_of, counts_of, targets_of}
use Rattle.sheet.specs.Lengths.{paths-length, counts-length, targets-length}
use Rattle.sheet.specs.Pieces.{front}
use Rattle.sheet_take.specs.Says.{TakenPaths}
use Rattle.sheet_check.specs.Says.{ruling_of, flaw_in, ruled}
use Rattle.sheet_check.specs.Needs.{Judgeable}

-- a fault is told as what its ruling is
pub fault_ruled : (f : Fault) → some (flaw_in (fault_told f)) ≡ ruled (fault_told f)
fault_ruled (fault.Found (TooLong i)) = refl
fault_ruled (fault.Found (NotFromSource i)) = refl
fault_ruled (fault.Found (NotLinked i p)) = refl
fault_ruled (fault.Found (NotToTarget i p)) = refl
fault_ruled (fault.Found (SeenAgain i p)) = refl
fault_ruled (fault.Found (NotFilled i p)) = refl
fault_ruled (fault.Refused why) = ap (λ (b : Bool). pick b none (some (flaw_in (ruling (number why) 0 (place why))))) (sym (number-some why))

pub judged-sheet : (v : ℕ) (l : List ℕ) (kind size s longest k : ℕ) {places counts targets places₁ counts₁ targets₁ : List ℕ} {r : Ruling}
    → Judgeable v l kind size longest k (length places) (length counts) (length targets) → TakenPaths v l s longest k places counts targets places₁ counts₁ targets₁
    → r ≡ judge_told (kind_of kind) size s (take k targets₁) (take (k * (longest + 1)) places₁) (take k counts₁) false → r ≡ ruling_of kind size s (paths_at v l HEAD k)
judged-sheet v l kind size s longest k {places} {counts} {targets} {places₁} {counts₁} {targets₁} {r} j t e =
    let ps = paths_at v l HEAD k in
    let few = paths-length v l HEAD k in
    let a : take k targets₁ ≡ targets_of s ps = ap (take k) t.aimed ∙ front (targets_of s ps) targets (targets-length s ps ∙ few) j.taken.aimed in
    let b : take (k * (longest + 1)) places₁ ≡ places_of s longest ps = ap (take (k * (longest + 1))) t.placed ∙ front (places_of s longest ps) places t.wide j.taken.room in
    let c : take k counts₁ ≡ counts_of ps = ap (take k) t.counted ∙ front (counts_of ps) counts (counts-length ps ∙ few) j.taken.counted in
    e ∙ ap (λ (x : List ℕ). judge_told (kind_of kind) size s x (take (k * (longest + 1)) places₁) (take k counts₁) false) a
    ∙ ap₂ (λ (x y : List ℕ). judge_told (kind_of kind) size s (targets_of s ps) x y false) b c
    ∙ ap (λ (x : ℕ). judge_told (kind_of kind) size s (targets_of s ps) (places_of s x ps) (counts_of ps) false) j.wide
