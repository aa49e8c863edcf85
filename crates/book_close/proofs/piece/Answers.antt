-- `book_close::piece` meets its contract. Assumes nothing.
use Rattle.std.proofs.Common.{ℕ, ◌-◌, min, ap, ◌∙◌, arith, rules}
use Rattle.book_keys.specs.Cases.{number_small}
use Rattle.book_close.specs.Slides.{length-at}
use Rattle.book_close.proofs.piece.Goals as goal

pub overflow_sub-end : goal.overflow_sub-end
overflow_sub-end c = omega (arith, c.requires.0)

pub number-requires : goal.number-requires
number-requires c = (omega (arith, c.requires.0, c.requires.1), omega arith)

pub overflow_add-number : goal.overflow_add-number
overflow_add-number c = omega (arith, c.number.ensures, number_small c.args.bytes.now (λ i. (c.shared_slice_known-1.given i).fits) c.args.at)

pub returns : goal.returns
returns c =
    let a = c.args in
    c.min.ensures ∙ ap (λ (n : ℕ). min (a.end - a.at) n) (length-at a.bytes.now a.at _ c.number.ensures)
