-- Lists written piece by piece (`after-put`), and what was put at the front of one (`at_front`, `front`). Assumes nothing.
use Rattle.std.specs.Prelude.{ℕ, ◌+◌, ◌≤◌, ◌≡◌, List, ◌++◌, length, drop, take}
use Rattle.std.proofs.Common.{sym, ap, ◌∙◌, arith, zero-add, take_at}
use Rattle.std.proofs.lemmas.List.Edits.{sets, sets-eq}
use Rattle.scan.specs.Runs.{sets_append}

-- a piece after what was put
pub after-put : (a b out : List ℕ) (at to : ℕ) → to ≡ at + length a → sets (sets out at a) to b ≡ sets out at (a ++ b)
after-put a b out at to e = ap (λ (i : ℕ). sets (sets out at a) i b) e ∙ sym (sets_append out at a b)

-- numbers at the front of a list
pub at_front : (a l : List ℕ) → length a ≤ length l → sets l 0 a ≡ a ++ drop (length a) l
at_front a l h = sets-eq a l 0 (omega arith) ∙ ap (λ (x : ℕ). a ++ drop x l) (zero-add (length a))

-- what was put at the front is found there
pub front : (a l : List ℕ) {n : ℕ} → length a ≡ n → n ≤ length l → take n (sets l 0 a) ≡ a
front a l {n} e h = ap (take n) (sets-eq a l 0 (omega (arith, e))) ∙ take_at a (drop (0 + length a) l) n e
