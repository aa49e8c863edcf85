-- `book_keys::sought` meets its contract: each return is a case of the definition. Assumes nothing.
use Rattle.std.proofs.Common.{sym, ◌∙◌, arith}
use Rattle.book.specs.Held.{is_keyed}
use Rattle.book_keys.specs.Cases.{key_small, count-lent, place-lent, seeks_unkeyed, code_missed, code_held}
use Rattle.book_keys.proofs.sought.Goals as goal

pub returns-then-not-is_key : goal.returns-then-not-is_key
returns-then-not-is_key c = let a = c.args in seeks_unkeyed a.book a.bytes.now a.index.now a.kind a.size a.source (sym c.is_key.ensures ∙ c.if-not-is_key.true)

pub key-k-requires : goal.key-k-requires
key-k-requires c = is_keyed _ _ _ (sym c.is_key.ensures ∙ c.if-not-is_key.false)

pub overflow_mul-k : goal.overflow_mul-k
overflow_mul-k c = let a = c.args in omega (arith, key_small (is_keyed a.kind a.size a.source (sym c.is_key.ensures ∙ c.if-not-is_key.false)) c.key-k.ensures)

pub place-i-requires : goal.place-i-requires
place-i-requires c = let a = c.args in count-lent a.book a.index.now c.count-n.ensures

pub there-requires : goal.there-requires
there-requires c = let a = c.args in count-lent a.book a.index.now c.count-n.ensures

pub returns-then-not-there : goal.returns-then-not-there
returns-then-not-there c =
    let a = c.args in
    code_missed a.book a.bytes.now a.index.now a.kind a.size a.source c.key-k.result c.is_key.ensures c.if-not-is_key.false c.key-k.ensures c.count-n.ensures c.place-i.ensures c.there.ensures c.if-not-there.true

pub returns : goal.returns
returns c =
    let a = c.args in
    code_held a.book a.bytes.now a.index.now a.kind a.size a.source c.key-k.result c.is_key.ensures c.if-not-is_key.false c.key-k.ensures c.count-n.ensures c.place-i.ensures c.there.ensures c.if-not-there.false c.held_at.ensures
