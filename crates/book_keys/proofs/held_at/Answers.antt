-- `book_keys::held_at` meets its contract: four bytes are a number of 32 bits. Assumes nothing.
use Rattle.std.proofs.Common.{arith}
use Rattle.book_keys.specs.Cases.{number_small}
use Rattle.book_keys.proofs.held_at.Goals as goal

pub overflow_add-length : goal.overflow_add-length
overflow_add-length c = omega (arith, c.number.ensures, number_small c.args.bytes.now (λ i. (c.shared_slice_known-1.given i).fits) c.args.start)

pub overflow_add-start-2 : goal.overflow_add-start-2
overflow_add-start-2 c = omega (arith, c.number.ensures, number_small c.args.bytes.now (λ i. (c.shared_slice_known-1.given i).fits) c.args.start)
