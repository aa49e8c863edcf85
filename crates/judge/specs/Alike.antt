-- What lies beyond the k paths of a fan or a bundle is not looked at: the judge tells the same of the slices cut to them (`judged-cut`), so the same of
-- slices that are the same so far (`judged_alike`). Assumes nothing.
use Rattle.std.specs.Prelude.{ℕ, ◌*◌, ◌≤◌, min, ◌≡◌, Bool, true, false, List, ◌++◌, ltb, length, take}
use Rattle.std.proofs.Common.{sym, ap, ap₂, ◌∙◌, arith, length-take, get_or-take, lt-ltb, le-ltb}
use Rattle.std.proofs.Math.Decide.{dec_le}
use Rattle.scan.specs.Scan.{pick}
use Rattle.answers.specs.Order.{first, room_faults}
use Rattle.paths.specs.Mesh.{Mesh, width}
use Rattle.paths.specs.Rules.{span}
use Rattle.paths.specs.Alike.{Same}
use Rattle.paths.proofs.Alike.{finding_alike}
use Rattle.mesh.specs.Says.{short}
use Rattle.judge.specs.Says.{rule, Asked, cramped, asked_told}

-- a slice cut to what is wanted is short where it was
cut_short : (n : ℕ) (l : List ℕ) → ltb (length (take n l)) n ≡ ltb (length l) n
cut_short n l = ap (λ (x : ℕ). ltb x n) (length-take n l) ∙ go (dec_le n (length l))
  where
    go : Dec (n ≤ length l) → ltb (min n (length l)) n ≡ ltb (length l) n
    go (yes h) = le-ltb (min n (length l)) n (omega arith) ∙ sym (le-ltb (length l) n h)
    go (no h) = lt-ltb (min n (length l)) n (omega arith) ∙ sym (lt-ltb (length l) n (omega arith))

-- slices that are not short
pub enough : (m : Mesh) (k places counts : ℕ) → k * width m ≤ places → k ≤ counts → short m k places counts ≡ false
enough m k places counts h g = simp (le-ltb places (k * width m) h, le-ltb counts k g)

module _ (q : Asked) where
  abbrev k : ℕ
  k = length q.targets

  abbrev all : ℕ
  all = k * span q.rules

  pub judged-cut : (places counts : List ℕ) (lacking : Bool) → asked_told q (take all places) (take k counts) lacking ≡ asked_told q places counts lacking
  judged-cut places counts lacking =
      ap₂ rule
      (ap₂ (λ (a b : Bool). first (q.faults ++ room_faults (pick lacking true (pick a true b)))) (cut_short all places) (cut_short k counts))
      (finding_alike q.rules q.source q.targets (take all places) (take k counts) places counts
      (λ j h. get_or-take all places j 0 h) (λ j h. get_or-take k counts j 0 h))

  -- slices that are not short
  roomy : (places counts : List ℕ) → all ≤ length places → k ≤ length counts → cramped q places counts ≡ false
  roomy places counts h g = simp (le-ltb (length places) all h, le-ltb (length counts) k g)

  pub judged_alike : (places counts other others : List ℕ) (lacking : Bool) → all ≤ length places → k ≤ length counts → all ≤ length other → k ≤ length others
      → Same all places other → Same k counts others → asked_told q places counts lacking ≡ asked_told q other others lacking
  judged_alike places counts other others lacking h g h₁ g₁ same same-counts =
      ap₂ rule
      (ap (λ (b : Bool). first (q.faults ++ room_faults (pick lacking true b))) (roomy places counts h g ∙ sym (roomy other others h₁ g₁)))
      (finding_alike q.rules q.source q.targets places counts other others same same-counts)
