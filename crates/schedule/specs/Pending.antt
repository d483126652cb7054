-- A pending command
use Rattle.std.specs.Prelude.{ℕ, List}
use Rattle.octets.specs.Octets.{kept}
use Rattle.schedule.specs.declared.moment.Moment.{Moment}
use Rattle.schedule.specs.declared.pending.Pending.{Pending}

-- a command put into a slot, which has room for 228 octets
abbrev pub pended : ℕ → ℕ → ℕ → List ℕ → Pending
pended serial subschedule tag octets = record { serial = serial; subschedule = subschedule; tag = tag; octets = kept 228 octets }

-- when a command's turn is
abbrev pub moment_of : Pending → Moment
moment_of p = record { tag = p.tag; serial = p.serial }
