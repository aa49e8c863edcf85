-- `book_calls::remove` meets its contract: what is sought, and where it is found its version and its place. Assumes nothing.
use Rattle.std.proofs.Common.{refl, sym, ◌∙◌, arith}
use Rattle.book_keys.specs.Cases.{count-lent}
use Rattle.book_calls.specs.Cases.{seeks-whole, gone-missing, gone_done}
use Rattle.book_calls.proofs.remove.Goals as goal

pub returns-in_err-sought : goal.returns-in_err-sought
returns-in_err-sought c = let a = c.args in rw c.from_residual.ensures (gone-missing a.book a.bytes.now a.index.now a.kind a.size a.source (sym c.sought.ensures ∙ c.in_err-sought.was))

pub overflow_add-bytes : goal.overflow_add-bytes
overflow_add-bytes c = let a = c.args in omega (arith, (seeks-whole a.book a.bytes.now a.index.now a.kind a.size a.source (sym c.sought.ensures ∙ c.in_ok-sought.was)).small)

pub bounds-bytes-sought : goal.bounds-bytes-sought
bounds-bytes-sought c = let a = c.args in omega (arith, (seeks-whole a.book a.bytes.now a.index.now a.kind a.size a.source (sym c.sought.ensures ∙ c.in_ok-sought.was)).in_bytes)

pub take_out-requires : goal.take_out-requires
take_out-requires c = let a = c.args in (omega (arith, c.count-n.ensures, (seeks-whole a.book a.bytes.now a.index.now a.kind a.size a.source (sym c.sought.ensures ∙ c.in_ok-sought.was)).in_index), count-lent a.book a.index.now c.count-n.ensures)

pub overflow_sub-result : goal.overflow_sub-result
overflow_sub-result c = let a = c.args in omega (arith, c.count-n.ensures, (seeks-whole a.book a.bytes.now a.index.now a.kind a.size a.source (sym c.sought.ensures ∙ c.in_ok-sought.was)).in_index)

pub returns : goal.returns
returns c = let a = c.args in gone_done a.book a.bytes.now a.index.now a.kind a.size a.source (sym c.sought.ensures ∙ c.in_ok-sought.was) c.count-n.ensures refl c.take_out.ensures
