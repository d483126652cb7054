-- What becomes of mailboxes
use Rattle.std.specs.Prelude.{ℕ, ◌-◌, cond, not, ◌&&◌, List, ◌++◌, map, length, replicate, Some, None, Option, ◌==◌, nat_le}
use Rattle.std.specs.List.{position}
use Rattle.octets.specs.Octets.{kept}
use Rattle.bus.specs.declared.mailbox.Held.{Held}
use Rattle.bus.specs.declared.mailbox.Mailbox.{Mailbox}
use Rattle.bus.specs.Bus.{apids_in, is_in, is_unused, no_box}

-- an empty mailbox for an APID
abbrev pub fresh : ℕ → Mailbox
fresh a = record { apid = Some a; packet = None }

-- the mailboxes for a list of APIDs, those past it unused
abbrev pub given : List ℕ → List Mailbox
given list = map fresh list ++ replicate (8 - length list) no_box

-- the place for one more number: the first unused mailbox, where the number is an APID that has none
abbrev pub place_for : List Mailbox → ℕ → Option ℕ
place_for ms n = cond (nat_le n 2047 && not (is_in n (apids_in ms))) (position is_unused ms) None

-- a packet put into a mailbox
abbrev pub holding : Mailbox → ℕ → List ℕ → Mailbox
holding m rank p = record { apid = m.apid; packet = Some (record { rank = rank; octets = kept 228 p }) }

-- one rank lower: the packet of rank 0 is let go
abbrev pub moved_up : Option Held → Option Held
moved_up None = None
moved_up (Some h) = cond (h.rank == 0) None (Some (record { rank = h.rank - 1; octets = h.octets }))

abbrev pub lowered : Mailbox → Mailbox
lowered m = record { apid = m.apid; packet = moved_up m.packet }
