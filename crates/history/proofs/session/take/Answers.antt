use Rattle.std.proofs.Common.{arith}
use Rattle.std.proofs.lemmas.Result.{err_from_is_err_and}
use Rattle.service.specs.Requests.{held_in, too_short}
use Rattle.history.proofs.Moves.{places, room_refused, room_there}
use Rattle.history.proofs.session.take.Goals as goal

pub returns-in_err-room-clause-value : goal.returns-in_err-room-clause-value
returns-in_err-room-clause-value c =
    let e = err_from_is_err_and c.from_residual.result c.from_residual.ensures.1 in
    let r = room_refused (too_short c.args.area.now) _ (held_in c.in-Some.request) c.in_err-room.ensures in
    grind (arith, places, e.1, e.2)

pub returns-clause-value : goal.returns-clause-value
returns-clause-value c = let room = room_there (too_short c.args.area.now) _ c.in_ok-room.ensures in grind (arith, places, room)

pub returns-clause-left : goal.returns-clause-left
returns-clause-left c = let room = room_there (too_short c.args.area.now) _ c.in_ok-room.ensures in grind (arith, places, room)
