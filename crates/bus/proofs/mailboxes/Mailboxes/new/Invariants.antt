use Rattle.std.proofs.Common.{◌≡◌, take}
use Rattle.bus.specs.Bus.{listed}
use Rattle.bus.specs.Changes.{given}
use Rattle.bus.proofs.mailboxes.Mailboxes.new.Given as goal

abbrev pub invariant-loop-apid : goal.invariant-loop-apid
invariant-loop-apid l = l.boxes ≡ given (listed (take l.apid-index l.apids))
