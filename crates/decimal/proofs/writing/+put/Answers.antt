use Rattle.std.proofs.Common.{arith}
use Rattle.std.proofs.Math.Nat.{div-lt_self}
use Rattle.decimal.specs.Digits.{digits-some}
use Rattle.decimal.specs.Write.{put_one, front-room, last-room, put-more}
use Rattle.decimal.proofs.writing.+put.Goals as goal

-- src/writing.rt:12:9
pub bounds-out-at : goal.bounds-out-at
bounds-out-at t c = omega (arith, digits-some c.args.n)

-- src/writing.rt:13:9
pub returns-then-n-lt10 : goal.returns-then-n-lt10
returns-then-n-lt10 t c = put_one _ _ _ c.if-n-lt10.true

-- src/writing.rt:15:9
pub put-next-requires : goal.put-next-requires
put-next-requires t c =
    (let less = div-lt_self {n = c.args.n} {k = 10} (omega arith) (omega arith) in omega arith, front-room c.args.out.now _ _ c.if-n-lt10.false c.requires)

-- src/writing.rt:16:5
pub bounds-out-next : goal.bounds-out-next
bounds-out-next t c = last-room _ _ _ c.put-next.ensures c.if-n-lt10.false c.requires

-- src/writing.rt:17:5
pub overflow_add-result-2 : goal.overflow_add-result-2
overflow_add-result-2 t c =
    let h = last-room c.args.out.now _ _ c.put-next.ensures c.if-n-lt10.false c.requires in
    omega arith

-- src/writing.rt:7:1
pub returns : goal.returns
returns t c = put-more _ _ _ c.put-next.ensures c.if-n-lt10.false
