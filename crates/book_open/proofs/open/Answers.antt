-- `book_open::open` meets its contract: what is gathered, and its places kept. Assumes nothing.
use Rattle.std.proofs.Common.{refl, arith}
use Rattle.std.proofs.lemmas.Result.{err_from_is_err_and}
use Rattle.book_open.specs.Opens.{open_told, open_left}
use Rattle.book_open.proofs.open.Goals as goal

pub returns-in_err-book : goal.returns-in_err-book
returns-in_err-book c =
    let a = c.args in
    let p = err_from_is_err_and c.from_residual.result c.from_residual.ensures.1 in
    rw (p.1, p.2) (open_told a.bytes.now a.index.now c.gather.new.room c.min-places.ensures c.in_err-book.ensures, open_left a.bytes.now a.index.now c.gather.new.room c.min-places.ensures c.in_err-book.ensures refl)

pub keep-requires : goal.keep-requires
keep-requires c = let few = (c.in_ok-book.ensures.kept c.in_ok-book.book refl).1 in (omega (arith, few, c.min-places.ensures), omega (arith, few, c.min-places.ensures))

pub returns : goal.returns
returns c =
    let a = c.args in
    (open_told a.bytes.now a.index.now c.gather.new.room c.min-places.ensures c.in_ok-book.ensures, open_left a.bytes.now a.index.now c.gather.new.room c.min-places.ensures c.in_ok-book.ensures c.keep.ensures)
