-- The bus: a mailbox for each listed APID, which holds one packet at most
use Rattle.std.specs.Prelude.{ℕ, Bool, false, cond, not, ◌&&◌, List, [], ◌∷◌, ◌++◌, map, length, fold, count_by, Some, None, Option, ◌==◌, nat_eq, nat_le, nat_lt, slice_index_or}
use Rattle.std.specs.List.{list_any, flat_map, position_or_len, range_with_len}
use Rattle.std.specs.Option.{is_none, is_some, option_eq, option_to_list}
use Rattle.destination.specs.Destination.{sized}
use Rattle.octets.specs.Octets.{seen}
use Rattle.packet.specs.Packet.{apid_of}
use Rattle.bus.specs.declared.mailbox.Held.{Held}
use Rattle.bus.specs.declared.mailbox.Mailbox.{Mailbox}

abbrev pub is_in : ℕ → List ℕ → Bool
is_in a list = list_any (λ x. x == a) list

-- a number is listed where it is at most 2047, is not listed yet, and fewer than eight are
abbrev pub wanted : List ℕ → ℕ → Bool
wanted list n = nat_le n 2047 && (not (is_in n list) && nat_lt (length list) 8)

abbrev pub with_one : List ℕ → ℕ → List ℕ
with_one list n = cond (wanted list n) (list ++ n ∷ []) list

-- the first eight different numbers of 0 to 2047
abbrev pub listed : List ℕ → List ℕ
listed numbers = fold with_one [] numbers

-- a bus with this list carries 12 to 228 octets for a listed APID
abbrev pub carried : List ℕ → List ℕ → Bool
carried list p = sized p && is_in (apid_of p) list

-- why it refuses a packet: 5 its length, 4 its APID is not listed, 3 its mailbox is filled
abbrev pub why : List ℕ → List ℕ → ℕ
why list p = cond (sized p) (cond (is_in (apid_of p) list) 3 4) 5

-- the APIDs of the mailboxes that have one
abbrev pub apids_in : List Mailbox → List ℕ
apids_in ms = flat_map (λ m. option_to_list m.apid) ms

-- whether a mailbox is for an APID
abbrev pub is_for : ℕ → Mailbox → Bool
is_for a m = option_eq nat_eq m.apid (Some a)

-- the octets of a packet that is held, if one is
abbrev pub octets_of : Option Held → List ℕ
octets_of None = []
octets_of (Some h) = seen h.octets

abbrev pub held : Mailbox → List ℕ
held m = octets_of m.packet

abbrev pub is_full : Mailbox → Bool
is_full m = is_some m.packet

-- whether a packet is held that is of rank k: 0 is that of the oldest
abbrev pub ranks_as : ℕ → Option Held → Bool
ranks_as k None = false
ranks_as k (Some h) = h.rank == k

abbrev pub has_rank : ℕ → Mailbox → Bool
has_rank k m = ranks_as k m.packet

-- how many mailboxes are filled
abbrev pub filled : List Mailbox → ℕ
filled ms = count_by is_full ms

abbrev pub is_unused : Mailbox → Bool
is_unused m = is_none m.apid

-- an unused mailbox, as is all past the last
abbrev pub no_box : Mailbox
no_box = record { apid = None; packet = None }

-- the place of the first mailbox for an APID
abbrev pub home : List Mailbox → ℕ → ℕ
home ms a = position_or_len (is_for a) ms

-- space for a packet: its APID's mailbox is empty
abbrev pub space : List Mailbox → List ℕ → Bool
space ms p = not (is_full (slice_index_or ms (home ms (apid_of p)) no_box))

-- the packet in the mailbox of rank k
abbrev pub of_rank : List Mailbox → ℕ → List ℕ
of_rank [] k = []
of_rank (m ∷ ms) k = cond (has_rank k m) (held m) (of_rank ms k)

-- what waits: the packets of rank 0, 1 and so on, as many as there are
unfoldable pub waiting_in : List Mailbox → List (List ℕ)
waiting_in ms = map (of_rank ms) (range_with_len 0 (filled ms))
