use Rattle.std.proofs.Common.{◌≡◌, List, [], ◌∷◌, ◌++◌, reverse, Some, None, vec_items, Option, ap, ◌∙◌, arith}
use Rattle.service.specs.declared.states.Accepted.{Accepted}
use Rattle.service.specs.State.{view}
use Rattle.service.specs.Requests.{Held}
use Rattle.history.specs.Session.{held_slot, held_slots, end_area}
use Rattle.history.proofs.Ends.{left_popped, latest_popped}
use Rattle.history.proofs.session.Session.end.Goals as goal

pub loop-slot-preserved-in-Ok : goal.loop-slot-preserved-in-Ok
loop-slot-preserved-in-Ok c =
    let xs : List (Option Accepted) = vec_items c.loop-slot.accepted in
    let ys : List (Option Accepted) = vec_items c.pop.new.self in
    let rest : List (Option Held) = reverse (held_slots ys) in
    let slot : Option Accepted = Some c.in-Some-slot.request in
    let popped : xs ≡ ys ++ slot ∷ [] = c.in-Some.ensures.items ∙ ap (λ (o : Option Accepted). ys ++ o ∷ []) c.in-Some-slot.is in
    let area : end_area (view c.complete.new.self) rest c.complete.new.area ≡ end_area (view c.loop-slot.service) (held_slot slot ∷ rest) c.loop-slot.area =
    rw (c.complete.ensures.state, c.complete.ensures.area) in
    record {
      answer = omega (arith, left_popped xs ys slot popped, c.loop-slot.invariant.answer);
      area = area ∙ ap (λ (l : List (Option Held)). end_area (view c.loop-slot.service) l c.loop-slot.area) (latest_popped xs ys slot popped) ∙ c.loop-slot.invariant.area;
      counted = omega (arith, c.in-Some.ensures.len, c.loop-slot.invariant.counted);
      room = c.complete.auto.area ∙ c.loop-slot.invariant.room;
    }

pub loop-slot-preserved : goal.loop-slot-preserved
loop-slot-preserved c =
    let xs : List (Option Accepted) = vec_items c.loop-slot.accepted in
    let ys : List (Option Accepted) = vec_items c.pop.new.self in
    let popped : xs ≡ ys ++ None ∷ [] = c.in-Some.ensures.items ∙ ap (λ (o : Option Accepted). ys ++ o ∷ []) c.in_default-slot.is in
    record {
      answer = omega (arith, left_popped xs ys None popped, c.loop-slot.invariant.answer);
      area = ap (λ (l : List (Option Held)). end_area (view c.loop-slot.service) l c.loop-slot.area) (latest_popped xs ys None popped) ∙ c.loop-slot.invariant.area;
      counted = omega (arith, c.in-Some.ensures.len, c.loop-slot.invariant.counted);
      room = c.loop-slot.invariant.room;
    }
