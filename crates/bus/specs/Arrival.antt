-- The mailboxes as places of packets in their order of arrival
use Rattle.std.specs.Prelude.{◌≡◌, ℕ, ◌<◌, true, List, length, Some, None, Option, slice_index_or}
use Rattle.std.specs.Option.{option_map}
use Rattle.bus.specs.declared.mailbox.Held.{Held}
use Rattle.bus.specs.declared.mailbox.Mailbox.{Mailbox}
use Rattle.bus.specs.Bus.{filled, has_rank, no_box}

-- the rank of a mailbox, where it is filled
abbrev pub rank_of : Mailbox → Option ℕ
rank_of m = option_map (λ (h : Held). h.rank) m.packet

-- the oldest packet is in the mailbox of rank 0
abbrev pub Oldest : List Mailbox → Option ℕ → Type 0
Oldest ms None = filled ms ≡ 0
Oldest ms (Some i) = (i < length ms) × (has_rank 0 (slice_index_or ms i no_box) ≡ true)
