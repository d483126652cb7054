-- Which pending commands a cancel ends
use Rattle.std.specs.Prelude.{ℕ, ◌+◌, ◌-◌, ◌%◌, Bool, ◌&&◌, ◌==◌, nat_le, nat_lt}
use Rattle.octets.specs.Octets.{seen}
use Rattle.packet.specs.Packet.{apid_of, count_of}
use Rattle.request.specs.declared.request.Cancel.{Cancel}
use Rattle.schedule.specs.declared.pending.Pending.{Pending}

-- the count is one of the n from the first on, 0 following 16383
abbrev pub among : ℕ → ℕ → ℕ → Bool
among first n count = nat_lt ((count + 16384 - first) % 16384) n

-- whether a cancel covers a command: subschedule, APID, a tag at or after the given one, and the sequence count
abbrev pub covers : Cancel → Pending → Bool
covers r p =
    (p.subschedule == r.subschedule)
    && (apid_of (seen p.octets) == r.apid && (nat_le r.tag p.tag && among r.first_count r.number (count_of (seen p.octets))))
