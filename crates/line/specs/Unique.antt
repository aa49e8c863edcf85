-- Two answers of the reader that tell the same are the same (`line-told_unique`): so its promise leaves one answer. Assumes nothing.
use Rattle.std.specs.Prelude.{◌≡◌, refl, Bool, Result, Ok, Err, eqb}
use Rattle.std.proofs.Common.{sym, ap, ◌∙◌}
use Rattle.scan.specs.Scan.{pick}
use Rattle.answers.specs.Told.{number, place, Told, told}
use Rattle.answers.specs.Laws.{refusal, refusal_back, number-some}
use Rattle.line.specs.Says.{Head, head, no_head, line_told}
use Rattle.answers.specs.declared.Refusal.{Refusal}
use Rattle.line.specs.declared.Asked.{Asked}

asked_of : Head → Asked
asked_of (head kind size source count) = record { mesh = record { kind = kind; size = size }; source = source; count = count }

line_of : Told Head → Result Asked Refusal
line_of (told n p h) = pick (eqb n 0) (Ok (asked_of h)) (Err (refusal n p))

line_back : (a : Result Asked Refusal) → line_of (line_told a) ≡ a
unfolding line_of asked_of
line_back (Ok a) = refl
line_back (Err why) =
    ap (λ (b : Bool). pick b (Ok (asked_of no_head)) (Err (refusal (number why) (place why)))) (number-some why)
    ∙ ap (λ (r : Refusal). Err r) (refusal_back why)

pub line-told_unique : (a b : Result Asked Refusal) → line_told a ≡ line_told b → a ≡ b
line-told_unique a b e = sym (line_back a) ∙ ap line_of e ∙ line_back b
