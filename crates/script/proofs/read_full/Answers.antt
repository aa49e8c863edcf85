use Rattle.std.proofs.Common.{◌≡◌, ℕ, ◌+◌, ◌≤◌, List, ◌++◌, length, take, drop, subst, sym, ap, ◌∙◌, rules, length-take-le}
use Rattle.std.proofs.Math.Seq.{take-add}
use Rattle.std.proofs.lemmas.List.{take-append-le, drop_at}
use Rattle.std.proofs.KnownBytes.{Consumes-trans}
use Rattle.std.specs.declared.option.Option.{Option}
use Rattle.std.specs.Io.KnownBytes.{Consumes}
use borrow.Rule.Slice.PartMut.{put_mid, post_of, take_put}
use Rattle.script.proofs.read_full.Goals as goal

-- what two reads gave, one behind the other, is what the reader lost
read_more : (a b c : Option (List ℕ)) (xs ys : List ℕ) (n k got : ℕ) → n ≤ length xs → got ≤ length ys → Consumes a b (take n xs) → Consumes b c (take got ys)
    → Consumes a c (take (n + got) (put_mid n k xs ys))
read_more a b c xs ys n k got within room before read =
    let joined : take (n + got) (put_mid n k xs ys) ≡ take n xs ++ take got ys =
    take-add n got (put_mid n k xs ys)
    ∙ ap (λ t. t ++ take got (drop n (put_mid n k xs ys))) (take_put n k xs ys within)
    ∙ ap (λ t. take n xs ++ take got t) (drop_at (take n xs) (ys ++ post_of n k xs) n (length-take-le n xs within))
    ∙ ap (λ t. take n xs ++ t) (take-append-le got ys (post_of n k xs) room) in
    subst (Consumes a c) (sym joined) (Consumes-trans a b c _ _ before read)

pub loop-n-preserved : goal.loop-n-preserved
loop-n-preserved g c = record {
  within = search rules;
  kept = search rules;
  bytes = read_more _ _ _ _ c.read.new.buf c.loop-n.n _ _ c.loop-n.invariant.within (search rules) c.loop-n.invariant.bytes c.in_ok-got.ensures.bytes.0;
}
