-- `region::sheets::plan_list` meets its contract: what stands against the request, a lone path, room, and then the fan. Assumes nothing.
use Rattle.std.proofs.Common.{ℕ, ◌*◌, ap, arith}
use Rattle.region.specs.Planning.{request_place, list_refused, list_known, list_lone, list_short, list_sound, list_done}
use Rattle.region.proofs.sheets.plan_list.Goals as goal

pub code-requires : goal.code-requires
code-requires c = let a = c.args in request_place a.mesh.kind a.mesh.size a.source a.targets.now c.in-Err.is c.plan_request.ensures

pub returns-in-Err : goal.returns-in-Err
returns-in-Err c = let a = c.args in list_refused a.mesh.kind a.mesh.size a.source a.targets.now a.out.now c.plan_request.ensures c.in-Err.is c.code.ensures

pub overflow_mul-result : goal.overflow_mul-result
overflow_mul-result c = omega (arith, c.number.ensures)

pub returns-then-lone : goal.returns-then-lone
returns-then-lone c = let a = c.args in list_lone a.mesh.kind a.mesh.size a.source a.targets.now a.out.now c.plan_request.ensures c.in_default.is c.lone.ensures c.if-lone.true (ap (λ (n : ℕ). n * 256) c.number.ensures)

pub most_bytes-requires : goal.most_bytes-requires
most_bytes-requires c = let a = c.args in list_known a.mesh.kind a.mesh.size a.source a.targets.now a.out.now c.plan_request.ensures c.in_default.is

pub returns-then-out-most_bytes : goal.returns-then-out-most_bytes
returns-then-out-most_bytes c = let a = c.args in list_short a.mesh.kind a.mesh.size a.source a.targets.now a.out.now c.plan_request.ensures c.in_default.is c.lone.ensures c.if-lone.false c.most_bytes.ensures c.if-out-most_bytes.true c.code-then-out-most_bytes.ensures

pub lay_alone-requires : goal.lay_alone-requires
lay_alone-requires c = let a = c.args in list_sound a.mesh.kind a.mesh.size a.source a.targets.now a.out.now c.plan_request.ensures c.in_default.is c.lone.ensures c.if-lone.false c.most_bytes.ensures c.if-out-most_bytes.false

pub returns : goal.returns
returns c = let a = c.args in list_done a.mesh.kind a.mesh.size a.source a.targets.now a.out.now c.plan_request.ensures c.in_default.is c.lone.ensures c.if-lone.false c.most_bytes.ensures c.if-out-most_bytes.false c.lay_alone.ensures
