-- `book_open::steps::enter` meets its contract: each return is a case of the definition. Assumes nothing.
use Rattle.std.proofs.Common.{ap, not, arith, ne_eqb}
use Rattle.book_keys.specs.Cases.{key_small}
use Rattle.book_open.specs.Pieces.{begun, begun_keyed}
use Rattle.book_open.specs.Enters.{keyed_here, key-at, kept_removed, kept_again, kept_full, kept_more, place-lent}
use Rattle.book_open.proofs.steps.enter.Goals as goal

pub bounds-rest-4 : goal.bounds-rest-4
bounds-rest-4 c = let a = c.args in let b = begun a.at a.rest.now c.requires.piece in omega (arith, b.long, b.whole)

pub returns-then-rest-eq0 : goal.returns-then-rest-eq0
returns-then-rest-eq0 c = kept_removed c.requires c.if-rest-eq0.true

pub bounds-rest-5 : goal.bounds-rest-5
bounds-rest-5 c = let a = c.args in let b = begun a.at a.rest.now c.requires.piece in omega (arith, b.long, b.whole)

pub bounds-rest-6 : goal.bounds-rest-6
bounds-rest-6 c = let a = c.args in let b = begun a.at a.rest.now c.requires.piece in omega (arith, b.long, b.whole)

pub number_eight-requires : goal.number_eight-requires
number_eight-requires c = let a = c.args in let b = begun a.at a.rest.now c.requires.piece in omega (arith, b.long, b.whole)

pub key-k-requires : goal.key-k-requires
key-k-requires c = let a = c.args in let b = begun a.at a.rest.now c.requires.piece in keyed_here a.rest.now c.from.ensures c.from-2.ensures c.number_eight.ensures (begun_keyed b (ap not (ne_eqb _ 0 c.if-rest-eq0.false)))

pub overflow_mul-k : goal.overflow_mul-k
overflow_mul-k c = let a = c.args in let b = begun a.at a.rest.now c.requires.piece in omega (arith, key_small (begun_keyed b (ap not (ne_eqb _ 0 c.if-rest-eq0.false))) (key-at a.rest.now c.from.ensures c.from-2.ensures c.number_eight.ensures c.key-k.ensures))

pub place-i-requires : goal.place-i-requires
place-i-requires c = omega (arith, c.requires.few, c.requires.lent)

pub there-requires : goal.there-requires
there-requires c = omega (arith, c.requires.few, c.requires.lent)

pub returns-then-there : goal.returns-then-there
returns-then-there c = let a = c.args in kept_again c.requires c.if-rest-eq0.false (key-at a.rest.now c.from.ensures c.from-2.ensures c.number_eight.ensures c.key-k.ensures) c.place-i.ensures c.there.ensures c.if-there.true

pub returns-then-places-n : goal.returns-then-places-n
returns-then-places-n c = let a = c.args in kept_full c.requires c.if-rest-eq0.false (key-at a.rest.now c.from.ensures c.from-2.ensures c.number_eight.ensures c.key-k.ensures) c.place-i.ensures c.there.ensures c.if-there.false c.if-places-n.true

pub overflow_mul-k-2 : goal.overflow_mul-k-2
overflow_mul-k-2 c = let a = c.args in let b = begun a.at a.rest.now c.requires.piece in omega (arith, key_small (begun_keyed b (ap not (ne_eqb _ 0 c.if-rest-eq0.false))) (key-at a.rest.now c.from.ensures c.from-2.ensures c.number_eight.ensures c.key-k.ensures))

pub overflow_add-k : goal.overflow_add-k
overflow_add-k c = let a = c.args in let b = begun a.at a.rest.now c.requires.piece in omega (arith, b.long, b.near, key_small (begun_keyed b (ap not (ne_eqb _ 0 c.if-rest-eq0.false))) (key-at a.rest.now c.from.ensures c.from-2.ensures c.number_eight.ensures c.key-k.ensures))

pub insert-requires : goal.insert-requires
insert-requires c = let a = c.args in (place-lent c.requires c.if-rest-eq0.false (key-at a.rest.now c.from.ensures c.from-2.ensures c.number_eight.ensures c.key-k.ensures) c.place-i.ensures c.there.ensures, omega (arith, c.if-places-n.false, c.requires.lent))

pub overflow_add-result : goal.overflow_add-result
overflow_add-result c = omega (arith, c.if-places-n.false, c.requires.lent)

pub returns : goal.returns
returns c = let a = c.args in kept_more c.requires c.if-rest-eq0.false (key-at a.rest.now c.from.ensures c.from-2.ensures c.number_eight.ensures c.key-k.ensures) c.place-i.ensures c.there.ensures c.if-there.false c.if-places-n.false c.insert.ensures
