-- Places that tell the same are the same (`place_unique`): so the promise of `split` leaves one answer. Assumes nothing.
use Rattle.std.specs.Prelude.{ℕ, ◌≡◌, Result, Ok, Err}
use Rattle.std.proofs.Common.{ap, ap₂, arith}
use Rattle.answers.specs.Told.{Told, told, value_of}
use Rattle.answers.specs.Laws.{answer_unique}
use Rattle.answers.specs.declared.Refusal.{Refusal}
use Rattle.two_parts.specs.declared.parts.Block.{Block}
use Rattle.two_parts.specs.declared.parts.Slot.{Slot}
use Rattle.two.specs.Says.{place_told}

-- number and place alone
bare : {A : Type 0} → Told A → Told ℕ
bare (told n p v) = told n p 0

pub place_unique : (a b : Result (Block × Slot) Refusal) → place_told a ≡ place_told b → a ≡ b
unfolding bare
place_unique (Ok a) (Ok b) e =
    let v = ap value_of e in
    ap₂ (λ (x y : ℕ). Ok (record { 0 = x }, record { 0 = y })) (ap (λ (z : ℕ × ℕ). z.0) v) (ap (λ (z : ℕ × ℕ). z.1) v)
place_unique (Ok a) (Err why) e =
    let z = answer_unique (Ok 0) (Err why) (ap bare e) in
    let n : ◌≡◌ {A = ℕ} 0 1 = cc in absurd (omega arith)
place_unique (Err why) (Ok b) e =
    let z = answer_unique (Err why) (Ok 0) (ap bare e) in
    let n : ◌≡◌ {A = ℕ} 0 1 = cc in absurd (omega arith)
place_unique (Err v) (Err w) e =
    let z = answer_unique (Err v) (Err w) (ap bare e) in
    let y : v ≡ w = cc in ap (λ (r : Refusal). Err r) y
