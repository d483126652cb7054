-- What a request asks, without references, and which rejection a wrong one earns
use Rattle.std.specs.Prelude.{ℕ, ◌+◌, ◌*◌, ◌/◌, ◌%◌, Bool, true, cond, ◌&&◌, List, [], ◌∷◌, length, take, drop, Some, None, Ok, Err, Option, Result, ◌==◌, nat_le, slice_index}
use Rattle.packet.specs.declared.Fault.{Fault}
use Rattle.packet.specs.declared.Role.TheVariants.{Request as AsRequest}
use Rattle.packet.specs.Octets.{words}
use Rattle.packet.specs.Packet.{Fields, read_of}
use Rattle.request.specs.declared.rejection.Rejection.{Rejection}
use Rattle.request.specs.declared.rejection.Rejection.TheVariants.{Packet, DataLength, NothingNamed, Field}
use Rattle.request.specs.declared.table.Kind.{Kind}
use Rattle.request.specs.declared.table.Kind.TheVariants.{Enable as KEnable, Disable as KDisable, Status as KStatus, ConnectionTest as KConnectionTest}
use Rattle.request.specs.declared.request.Names.{Names}
use Rattle.request.specs.declared.request.Request.{Request}
use Rattle.request.specs.declared.request.Request.TheVariants.{Enable, Disable, Status, ConnectionTest}
use Rattle.request.specs.declared.request.Ack.{Ack}
use Rattle.request.specs.declared.request.Telecommand.{Telecommand}
use Rattle.request.specs.Table.{kind_of}

-- subschedules, and APIDs
pub record Named : Type 0 where
  pub subschedules : List ℕ
  pub apids : List ℕ

pub data Asked : Type 0 where
  enables : Named → Asked
  disables : Named → Asked
  asks_status : Named → Asked
  tests_connection : Asked

-- a request names at most 117 numbers, for it has no more octets
abbrev pub few : Named → Bool
few n = nat_le (length n.subschedules + length n.apids) 117

abbrev pub few_asked : Asked → Bool
few_asked (enables n) = few n
few_asked (disables n) = few n
few_asked (asks_status n) = few n
few_asked tests_connection = true

-- which reports a request asks for: bit 1 of the ack bits the one on acceptance, bit 8 the one on completion
abbrev pub ack_of : ℕ → Ack
ack_of bits = record { acceptance = (bits % 2 == 1); completion = (bits / 8 % 2 == 1) }

-- a request that can be accepted
pub record Told : Type 0 where
  pub ack : Ack
  pub asked : Asked

-- the first number that is out of its range, by its first octet, the numbers standing from octet at on
abbrev pub out_of_range : ℕ → ℕ → ℕ → List ℕ → Option Rejection
out_of_range lo hi at [] = None
out_of_range lo hi at (w ∷ ws) = cond (nat_le lo w && nat_le w hi) (out_of_range lo hi (at + 2) ws) (Some (Field at w))

abbrev pub or_else : {X : Type 0} → Option Rejection → Result X Rejection → Result X Rejection
or_else None r = r
or_else (Some e) r = Err e

abbrev pub subs_in : List ℕ → List ℕ
subs_in b = take (slice_index b 0 * 2) (drop 2 b)

abbrev pub apids_in : List ℕ → List ℕ
apids_in b = drop (slice_index b 0 * 2) (drop 2 b)

-- data that name subschedules and APIDs: how many of each, then the numbers
abbrev pub named_of : List ℕ → Result Named Rejection
named_of b =
    cond (2 + (slice_index b 0 + slice_index b 1) * 2 == length b)
    (cond (slice_index b 0 + slice_index b 1 == 0) (Err NothingNamed)
    (or_else (out_of_range 1 4095 12 (words (subs_in b)))
    (or_else (out_of_range 0 2047 (12 + slice_index b 0 * 2) (words (apids_in b)))
    (Ok (record { subschedules = words (subs_in b); apids = words (apids_in b) })))))
    (Err (DataLength (length b)))

abbrev pub naming : (Named → Asked) → Result Named Rejection → Result Asked Rejection
naming f (Ok n) = Ok (f n)
naming f (Err e) = Err e

abbrev pub decode_of : Kind → List ℕ → Result Asked Rejection
decode_of KEnable b = naming enables (named_of b)
decode_of KDisable b = naming disables (named_of b)
decode_of KStatus b = naming asks_status (named_of b)
decode_of KConnectionTest b = cond (length b == 0) (Ok tests_connection) (Err (DataLength (length b)))

abbrev pub told : ℕ → Result Asked Rejection → Result Told Rejection
told bits (Ok q) = Ok (record { ack = ack_of bits; asked = q })
told bits (Err e) = Err e

abbrev pub of_kind : Fields → Result Kind Rejection → Result Told Rejection
of_kind f (Ok k) = told f.ack (decode_of k f.body)
of_kind f (Err e) = Err e

abbrev pub of_packet : Result Fields Fault → Result Told Rejection
of_packet (Ok f) = of_kind f (kind_of f.service f.subtype (length f.body))
of_packet (Err e) = Err (Packet e)

-- the meaning of any list of octets as a request
abbrev pub request_of : List ℕ → Result Told Rejection
request_of p = of_packet (read_of AsRequest p)

-- the four octets by which reports name a request, missing ones as zero
abbrev pub name_of : List ℕ → List ℕ
name_of p = slice_index p 0 ∷ slice_index p 1 ∷ slice_index p 2 ∷ slice_index p 3 ∷ []

-- the code's values, without references
abbrev pub names_in : Names → Named
names_in n = record { subschedules = words n.subschedules.now; apids = words n.apids.now }

abbrev pub asked_in : Request → Asked
asked_in (Enable n) = enables (names_in n)
asked_in (Disable n) = disables (names_in n)
asked_in (Status n) = asks_status (names_in n)
asked_in ConnectionTest = tests_connection

abbrev pub told_in : Telecommand → Told
told_in t = record { ack = t.ack; asked = asked_in t.request }

abbrev pub meant_names : Result Names Rejection → Result Named Rejection
meant_names (Ok n) = Ok (names_in n)
meant_names (Err e) = Err e

abbrev pub meant_asked : Result Request Rejection → Result Asked Rejection
meant_asked (Ok q) = Ok (asked_in q)
meant_asked (Err e) = Err e

abbrev pub meant : Result Telecommand Rejection → Result Told Rejection
meant (Ok t) = Ok (told_in t)
meant (Err e) = Err e
