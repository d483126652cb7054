use Rattle.std.proofs.Common.{◌≡◌, ◌≤◌, ◌++◌, map, take, drop, count_by}
use Rattle.schedule.specs.Slots.{hit, dropped}
use Rattle.timeline.specs.EndAll.{Tells}
use Rattle.timeline.proofs.end_all.end_all.Given as goal

abbrev pub invariant-loop-slot : goal.invariant-loop-slot
invariant-loop-slot g l =
    (l.count ≤ l.slot-index)
    × ((f : _) → Tells g.F.Fn l.ends f → (l.count ≡ count_by (hit f) (take l.slot-index l.initial.slots)) × (l.slots ≡ map (dropped f) (take l.slot-index l.initial.slots) ++ drop l.slot-index l.initial.slots))
