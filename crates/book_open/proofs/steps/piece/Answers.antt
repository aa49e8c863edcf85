-- `book_open::steps::piece` meets its contract: each return is a case of the definition. Assumes nothing.
use Rattle.std.proofs.Common.{sym, arith}
use Rattle.book_keys.specs.Cases.{number_small}
use Rattle.book_open.specs.Pieces.{piece-short, piece_small, piece_cut, piece-far, piece_removed, piece-fine, piece-flawed}
use Rattle.book_open.proofs.steps.piece.Goals as goal

pub returns-then-room-lt16 : goal.returns-then-room-lt16
returns-then-room-lt16 c = let a = c.args in sym (piece-short a.at a.rest.now c.if-room-lt16.true)

pub number-requires : goal.number-requires
number-requires c = (omega arith, omega arith)

pub overflow_add-n : goal.overflow_add-n
overflow_add-n c = omega (arith, c.number.ensures, number_small c.args.rest.now (λ i. (c.shared_slice_known-1.given i).fits) 0)

pub returns-then-n-lt16 : goal.returns-then-n-lt16
returns-then-n-lt16 c = let a = c.args in sym (piece_small a.at a.rest.now c.number.ensures c.if-room-lt16.false c.if-n-lt16.true)

pub returns-then-room-n : goal.returns-then-room-n
returns-then-room-n c = let a = c.args in sym (piece_cut a.at a.rest.now c.number.ensures c.if-room-lt16.false c.if-n-lt16.false c.if-room-n.true)

pub overflow_add-at : goal.overflow_add-at
overflow_add-at c = omega (arith, c.requires, c.number.ensures, number_small c.args.rest.now (λ i. (c.shared_slice_known-1.given i).fits) 0)

pub returns-then-at-n-gt65536 : goal.returns-then-at-n-gt65536
returns-then-at-n-gt65536 c = let a = c.args in sym (piece-far a.at a.rest.now c.number.ensures c.if-room-lt16.false c.if-n-lt16.false c.if-room-n.false c.if-at-n-gt65536.true)

pub returns-then-rest-eq0 : goal.returns-then-rest-eq0
returns-then-rest-eq0 c = let a = c.args in (piece_removed a.at a.rest.now c.number.ensures c.if-room-lt16.false c.if-n-lt16.false c.if-room-n.false (omega arith) c.if-rest-eq0.true, omega arith)

pub returns-then-accepted : goal.returns-then-accepted
returns-then-accepted c = let a = c.args in (piece-fine a.at a.rest.now c.number.ensures c.if-room-lt16.false c.if-n-lt16.false c.if-room-n.false (omega arith) c.if-rest-eq0.false c.accepted.ensures c.if-accepted.true, omega arith)

pub returns-else-accepted : goal.returns-else-accepted
returns-else-accepted c = let a = c.args in sym (piece-flawed a.at a.rest.now c.number.ensures c.if-room-lt16.false c.if-n-lt16.false c.if-room-n.false (omega arith) c.if-rest-eq0.false c.accepted.ensures c.if-accepted.false)
