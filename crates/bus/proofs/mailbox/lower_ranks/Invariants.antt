use Rattle.std.proofs.Common.{◌≡◌, ◌++◌, map, take, drop}
use Rattle.bus.specs.Changes.{lowered}
use Rattle.bus.proofs.mailbox.lower_ranks.Given as goal

abbrev pub invariant-loop-mailbox : goal.invariant-loop-mailbox
invariant-loop-mailbox l = l.boxes ≡ map lowered (take l.mailbox-index l.initial.boxes) ++ drop l.mailbox-index l.initial.boxes
