-- What holds of the mailboxes at all times
use Rattle.std.specs.Prelude.{◌≡◌, ℕ, true, cond, List, count_by, nat_lt, slice_index_or}
use Rattle.std.specs.List.{list_all}
use Rattle.bus.specs.declared.mailbox.Mailbox.{Mailbox}
use Rattle.packet.specs.Packet.{apid_of}
use Rattle.bus.specs.Bus.{no_box, apids_in, carried, held, home, is_full, has_rank, filled, waiting_in}

-- each rank below the number filled is the rank of one mailbox, and any other of none
abbrev pub Ranked : List Mailbox → Type 0
Ranked ms = (k : ℕ) → count_by (has_rank k) ms ≡ cond (nat_lt k (filled ms)) 1 0

-- each packet is in its own APID's mailbox
abbrev pub Homed : List Mailbox → Type 0
Homed ms = (k : ℕ) → is_full (slice_index_or ms k no_box) ≡ true → home ms (apid_of (held (slice_index_or ms k no_box))) ≡ k

-- each packet that waits is one that the bus carries
abbrev pub Carried : List Mailbox → Type 0
Carried ms = list_all (carried (apids_in ms)) (waiting_in ms) ≡ true

pub record Sound (ms : List Mailbox) : Type 0 where
  pub ranks : Ranked ms
  pub homes : Homed ms
  pub carries : Carried ms
