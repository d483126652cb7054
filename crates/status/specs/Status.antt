-- Which subschedules and application processes are enabled
use Rattle.std.specs.Prelude.{ℕ, Bool}
use Rattle.status.specs.declared.Status.{Status}
use Rattle.status.specs.Switches.{bit}

-- is subschedule k enabled
abbrev pub subschedules_on : Status → ℕ → Bool
subschedules_on s k = bit s.subschedules.octets k

-- is application process k enabled
abbrev pub apids_on : Status → ℕ → Bool
apids_on s k = bit s.apids.octets k
