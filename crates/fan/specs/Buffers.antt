-- An answer lies in the buffer that it was written to (`said_within`). Assumes nothing.
use Rattle.std.specs.Prelude.{ℕ, ◌≤◌, ◌≡◌, Bool, true, false, List, ltb, length, drop, Result, Ok}
use Rattle.answers.specs.declared.Refusal.{Refusal}
use Rattle.std.proofs.Common.{sym, ap, ◌∙◌, arith, length-append}
use Rattle.answers.specs.Told.{number_of, value_of, answer_told}
use Rattle.reply.specs.Says.{Answered, AnsweredIn, reply_room}

-- the bytes that were said lie in the buffer
pub said_within : (text was now : List ℕ) (r : Result ℕ Refusal) {v : ℕ} → length now ≡ length was → Answered text was r now → r ≡ Ok v → v ≤ length now
said_within text was now r {v} long a e = go (ltb (length was) reply_room) a
  where
    go : (b : Bool) → AnsweredIn b text was r now → v ≤ length now
    go true p = let z : ◌≡◌ {A = ℕ} 0 8 = ap number_of (sym (ap answer_told e) ∙ p.0) in absurd (omega arith)
    go false p =
        let same : v ≡ length p.said = ap value_of (sym (ap answer_told e) ∙ p.says.told_long) in
        omega (arith, ap length p.says.left, length-append p.said (drop (length p.said) was))
