-- The meaning of a queue: what waits in it, what it carries, what it has space for, and why it refuses
use Rattle.std.specs.Prelude.{ℕ, Bool, List, length}
use Rattle.queue.specs.declared.store.Queue.{Queue}
use Rattle.queue.specs.Ring.{ringed, waits}
use Rattle.queue.specs.Rules.{carried, spaced, why}

-- the packets in its used octets, oldest first
abbrev pub waits_in : Queue → List (List ℕ)
waits_in q = waits (ringed q.ring) q.used

-- whether it carries a packet, by the length of its memory alone
abbrev pub carried_by : Queue → List ℕ → Bool
carried_by q p = carried (length q.ring.octets) p

-- whether it has space for a packet, by its memory and what waits
abbrev pub space_in : Queue → List ℕ → Bool
space_in q p = spaced (length q.ring.octets) (waits_in q) p

-- why it refuses a packet
abbrev pub cause_of : Queue → List ℕ → ℕ
cause_of q p = why (length q.ring.octets) p
