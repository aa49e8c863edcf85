-- Rows of numbers looked at in their order, `at i p` at place p of row i, which has `size i` of them: those that were looked at are marked (`Noted`). So one without its mark was not
-- among them. Laws for none, for one number more and for a row that ends. Assumes nothing.
use Rattle.std.specs.Prelude.{ℕ, ◌+◌, ◌≤◌, ◌<◌, ◌≡◌, true, List, length}
use Rattle.std.proofs.Common.{sym, ap, ◌∙◌, arith}
use Rattle.std.proofs.Math.Decide.{ℕ_discrete}
use Rattle.marks.specs.Marks.{words, marked, put}
use Rattle.marks.specs.Laws.{put-length, put-own, put_keeps}

-- every number of the rows before row i, and of row i before place p, has its mark
pub record Noted (at : ℕ → ℕ → ℕ) (size : ℕ → ℕ) (marks : List ℕ) (i p : ℕ) : Type 0 where
  pub long : length marks ≡ words
  pub earlier : (j q : ℕ) → j < i → q < size j → marked marks (at j q) ≡ true
  pub here : (q : ℕ) → q < p → marked marks (at i q) ≡ true

module _ (at : ℕ → ℕ → ℕ) (size : ℕ → ℕ) {marks : List ℕ} where
  pub noted_none : length marks ≡ words → Noted at size marks 0 0
  noted_none e = record { long = e; earlier = λ j q h g. absurd (omega arith); here = λ q h. absurd (omega arith) }

  pub noted_more : {after : List ℕ} {i p x : ℕ} → Noted at size marks i p → x ≡ at i p → after ≡ put marks x → Noted at size after i (p + 1)
  noted_more {after} {i} {p} {x} n e f = rw f (record {
    long = put-length marks x ∙ n.long;
    earlier = λ j q h g. put_keeps marks x (at j q) n.long (n.earlier j q h g);
    here = λ q h. go q h (ℕ_discrete q p);
  })
    where
      go : (q : ℕ) → q < p + 1 → Dec (q ≡ p) → marked (put marks x) (at i q) ≡ true
      go q h (yes d) = ap (marked (put marks x)) (ap (at i) d ∙ sym e) ∙ put-own marks x n.long
      go q h (no ne) = put_keeps marks x (at i q) n.long (n.here q (omega arith))

  pub noted_row : {i p : ℕ} → Noted at size marks i p → size i ≤ p → Noted at size marks (i + 1) 0
  noted_row {i} {p} n g = record { long = n.long; earlier = λ j q h k. go j q h k (ℕ_discrete j i); here = λ q h. absurd (omega arith) }
    where
      go : (j q : ℕ) → j < i + 1 → q < size j → Dec (j ≡ i) → marked marks (at j q) ≡ true
      go j q h k (yes d) = ap (λ (r : ℕ). marked marks (at r q)) d ∙ n.here q (omega (arith, ap size d))
      go j q h k (no ne) = n.earlier j q (omega arith) k
