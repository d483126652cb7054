use Rattle.std.proofs.Common.{◌≡◌, ◌+◌, ◌≤◌, reverse, length, vec_items, vec_len}
use Rattle.service.specs.State.{view}
use Rattle.history.specs.Session.{held_slots, left_over, end_area}
use Rattle.history.proofs.session.Session.end.Given as goal

abbrev pub invariant-loop-slot : goal.invariant-loop-slot
invariant-loop-slot l =
    record {
      answer : l.completed + left_over (held_slots (vec_items l.accepted)) ≡ left_over (held_slots (vec_items l.initial.accepted));
      area : end_area (view l.service) (reverse (held_slots (vec_items l.accepted))) l.area
          ≡ end_area (view l.initial.service) (reverse (held_slots (vec_items l.initial.accepted))) l.initial.area;
      counted : l.completed + vec_len l.accepted ≤ vec_len l.initial.accepted;
      room : length l.area ≡ 4096;
    }

abbrev pub decreases-loop-slot : goal.decreases-loop-slot
decreases-loop-slot l = vec_len l.accepted
