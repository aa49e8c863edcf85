-- `around::way_round` meets its contract. Assumes nothing.
use Rattle.std.proofs.Common.{arith, length}
use Rattle.std.proofs.lemmas.Result.{err_from_is_err_and}
use Rattle.mesh.specs.Kinds.{mesh_of}
use Rattle.around_search.specs.Avoid.{avoiding}
use Rattle.around.specs.Says.{round_short}
use Rattle.around.specs.Needs.{sound, round_refused, round-short, short-room, short-out, refusal}
use Rattle.around.proofs.way_round.Goals as goal
use Rattle.around.proofs.way_round.Goals.{then-room-relays-via-then-room-relays, then-room-relays-via-else-room-relays+then-out-relays}

pub returns-in_err-checked : goal.returns-in_err-checked
returns-in_err-checked c =
    let a = c.args in
    let p = err_from_is_err_and c.from_residual.result c.from_residual.ensures.1 in
    rw (p.1, p.2) (refusal (avoiding (mesh_of a.mesh.kind a.mesh.size) a.stopped.now) a.source a.target a.room.now a.out.now
    (round_refused a.mesh.kind a.mesh.size a.source a.target a.stopped.now (round_short (mesh_of a.mesh.kind a.mesh.size) (length a.room.now) (length a.out.now)) c.in_err-checked.ensures))

pub sought-requires : goal.sought-requires
sought-requires c =
    let a = c.args in
    (sound a.mesh.kind a.mesh.size a.source a.target a.stopped.now c.in_ok-checked.ensures, record { roomy = omega (arith, c.relays_in-relays.ensures); long = omega (arith, c.relays_in-relays.ensures) })

pub returns-then-room-relays : goal.returns-then-room-relays
returns-then-room-relays c =
    let a = c.args in
    let m = mesh_of a.mesh.kind a.mesh.size in
    refusal (avoiding m a.stopped.now) a.source a.target a.room.now a.out.now (round-short a.mesh.kind a.mesh.size a.source a.target a.stopped.now c.in_ok-checked.ensures
    (elim c.then-room-relays.branch [
      | then-room-relays-via-then-room-relays w ↦ short-room m (length a.room.now) (length a.out.now) (omega (arith, c.relays_in-relays.ensures))
      | then-room-relays-via-else-room-relays+then-out-relays w ↦ short-out m (length a.room.now) (length a.out.now) (omega (arith, c.relays_in-relays.ensures))
    ]))
