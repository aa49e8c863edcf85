-- `book_calls::add` meets its contract: what the check says, and then what becomes of the sheet. Assumes nothing.
use Rattle.std.proofs.Common.{◌≡◌, ℕ, arith}
use Rattle.std.proofs.lemmas.Result.{err_from_is_err_and}
use Rattle.book.specs.Sheets.{check_fan, check_refused, checked_keyed, checked_key}
use Rattle.book_calls.specs.Cases.{put-flawed}
use Rattle.book_calls.specs.Puts.{all_end}
use Rattle.book_calls.proofs.add.Goals as goal

pub returns-in_err-read : goal.returns-in_err-read
returns-in_err-read c = let a = c.args in
    let p = err_from_is_err_and c.from_residual.result c.from_residual.ensures.1 in
    rw (p.1, p.2)
    (all_end a.book a.bytes.now a.index.now a.sheet.now (put-flawed a.book a.bytes.now a.index.now a.sheet.now (check_refused a.sheet.now _ c.in_err-read.ensures.told)) (λ e. absurd (let z : ◌≡◌ {A = ℕ} 0 1 = cc in omega arith)))

pub key-key-requires : goal.key-key-requires
key-key-requires c = let l = c.args.sheet.now in checked_keyed l (check_fan l c.in_ok-read.read.head c.in_ok-read.ensures.told)

pub put-requires : goal.put-requires
put-requires c = let l = c.args.sheet.now in let f = check_fan l c.in_ok-read.read.head c.in_ok-read.ensures.told in (f.fine, checked_key l f c.key-key.ensures)
