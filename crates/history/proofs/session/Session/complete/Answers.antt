use Rattle.std.proofs.Common.{ap, ◌∙◌, vec_items, arith}
use Rattle.std.proofs.lemmas.List.{with_items_is}
use Rattle.service.specs.State.{view}
use Rattle.service.specs.Requests.{held_in}
use Rattle.history.specs.Session.{held_slots}
use Rattle.history.proofs.Moves.{completed}
use Rattle.history.proofs.session.Session.complete.Goals as goal

pub returns-clause-steps : goal.returns-clause-steps
returns-clause-steps c =
    let found = rw c.as_mut_slice.ensures.value at c.in-Ok.ensures.value in
    let left = rw c.as_mut_slice.ensures.value at c.in-Ok.ensures.left in
    let put = with_items_is c.args.self.now.accepted c.take.new.accepted (omega (arith, c.take.auto.accepted, c.as_mut_slice.ensures.len)) in
    completed (view c.args.self.now.service) (view c.complete.new.self) (held_slots (vec_items c.args.self.now.accepted)) _ c.args.number c.args.area.now c.complete.new.area
    (held_in c.in-Ok.request) c.answer.result found (ap held_slots put ∙ left) (rw c.answer.ensures c.in-Ok-complete.ensures.answer) c.complete.ensures.area c.complete.ensures.state
