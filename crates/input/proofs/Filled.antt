-- What two reads into a buffer, one behind the other, gave is what the reader lost (`filled_more`), and so is what one gave before a read that failed (`filled_kept`).
-- Assumes nothing.
use Rattle.std.proofs.Common.{◌≡◌, ℕ, ◌+◌, List, ◌++◌, None, Some, ap, ◌∙◌, sym, append_assoc, take, drop, subst}
use Rattle.std.proofs.Math.Seq.{take-add}
use Rattle.std.specs.declared.option.Option.{Option}
use Rattle.std.specs.Io.KnownBytes.{Consumes, Keeps}
use Rattle.std.proofs.KnownBytes.{Consumes-kept}

pub filled_more : (a b c : Option (List ℕ)) (xs ys : List ℕ) (f n : ℕ) → take f ys ≡ take f xs → Consumes a b (take f xs) → Consumes b c (take n (drop f ys)) → Consumes a c (take (f + n) ys)
filled_more None b c xs ys f n front before read = tt
filled_more (Some l) None c xs ys f n front before read = absurd before
filled_more (Some l) (Some m) None xs ys f n front before read = absurd read
filled_more (Some l) (Some m) (Some r) xs ys f n front before read =
    before
    ∙ ap (λ t. take f xs ++ t) read
    ∙ ap (λ t. t ++ (take n (drop f ys) ++ r)) (sym front)
    ∙ sym (append_assoc (take f ys) (take n (drop f ys)) r)
    ∙ ap (λ t. t ++ r) (sym (take-add f n ys))

pub filled_kept : (a b c : Option (List ℕ)) (xs ys : List ℕ) (n : ℕ) → take n ys ≡ take n xs → Consumes a b (take n xs) → Keeps b c → Consumes a c (take n ys)
filled_kept a b c xs ys n front before kept = subst (Consumes a c) (sym front) (Consumes-kept a b c (take n xs) before kept)
