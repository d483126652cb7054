-- What a well-formed telecommand packet is, and which fault a wrong one earns
use Rattle.std.specs.Prelude.{ℕ, ◌+◌, ◌-◌, ◌/◌, ◌%◌, min, Bool, true, cond, ◌&&◌, List, length, take, drop, Ok, Err, Result, ◌==◌, nat_le, nat_lt, slice_index}
use Rattle.check_field.specs.CheckField.{check_field}
use Rattle.packet.specs.declared.Role.{Role}
use Rattle.packet.specs.declared.Role.TheVariants.{Request, Command}
use Rattle.packet.specs.declared.Fault.{Fault}
use Rattle.packet.specs.declared.Fault.TheVariants.{Length, CheckField, Header, DataHeader}
use Rattle.packet.specs.declared.Failure.{Failure}
use Rattle.packet.specs.declared.Packet.{Packet}
use Rattle.packet.specs.Octets.{word_at}

-- the most octets that a packet may have
abbrev pub most_of : Role → ℕ
most_of Request = 248
most_of Command = 228

-- a request is for APID 16; a command inside one may be for any
abbrev pub admits : Role → ℕ → Bool
admits Request apid = apid == 16
admits Command apid = true

-- the number of each fault
abbrev pub fault_code : Fault → ℕ
fault_code (Length n field) = 1
fault_code (CheckField received computed) = 2
fault_code (Header first second) = 0
fault_code (DataHeader first second) = 6

-- the two numbers that say more of it
abbrev pub fault_a : Fault → ℕ
fault_a (Length n field) = n
fault_a (CheckField received computed) = received
fault_a (Header first second) = first
fault_a (DataHeader first second) = first

abbrev pub fault_b : Fault → ℕ
fault_b (Length n field) = field
fault_b (CheckField received computed) = computed
fault_b (Header first second) = second
fault_b (DataHeader first second) = second

abbrev pub fault_failure : Fault → Failure
fault_failure f = record { code = fault_code f; a = fault_a f; b = fault_b f }

-- what a packet says, without references
pub record Fields : Type 0 where
  pub apid : ℕ
  pub count : ℕ
  pub ack : ℕ
  pub service : ℕ
  pub subtype : ℕ
  pub body : List ℕ

-- the lower 11 bits of octets 0 and 1
abbrev pub apid_of : List ℕ → ℕ
apid_of p = word_at p 0 % 2048

abbrev pub count_of : List ℕ → ℕ
count_of p = word_at p 2 % 16384

abbrev pub fields_of : List ℕ → Fields
fields_of p =
    record {
      apid = apid_of p;
      count = count_of p;
      ack = slice_index p 6 % 16;
      service = slice_index p 7;
      subtype = slice_index p 8;
      body = take (length p - 12) (drop 10 p);
    }

-- an even number of octets, from 12 to the most, and the length field agrees
abbrev pub length_right : Role → List ℕ → Bool
length_right role p =
    nat_le 12 (length p) && (nat_le (length p) (most_of role) && (length p % 2 == 0 && word_at p 4 + 7 == length p))

abbrev pub length_fault : List ℕ → Fault
length_fault p = Length (min (length p) 65535) (cond (nat_lt (length p) 6) 0 (word_at p 4))

abbrev pub received_of : List ℕ → ℕ
received_of p = word_at p (length p - 2)

abbrev pub computed_of : List ℕ → ℕ
computed_of p = check_field (take (length p - 2) p)

-- version 0, type bit 1, header bit 1, flag bits 3, and an APID that is admitted
abbrev pub header_right : Role → List ℕ → Bool
header_right role p = slice_index p 0 / 8 == 3 && (slice_index p 2 / 64 == 3 && admits role (apid_of p))

-- the upper half of octet 6 is 1, and octet 9 is zero
abbrev pub data_header_right : List ℕ → Bool
data_header_right p = slice_index p 6 / 16 == 1 && slice_index p 9 == 0

-- the first of these that does not hold decides
abbrev pub read_of : Role → List ℕ → Result Fields Fault
read_of role p =
    cond (length_right role p)
    (cond (received_of p == computed_of p)
    (cond (header_right role p)
    (cond (data_header_right p) (Ok (fields_of p)) (Err (DataHeader (word_at p 6) (word_at p 8))))
    (Err (Header (word_at p 0) (word_at p 2))))
    (Err (CheckField (received_of p) (computed_of p))))
    (Err (length_fault p))

abbrev pub fields_in : Packet → Fields
fields_in p =
    record {
      apid = p.apid;
      count = p.sequence_count;
      ack = p.ack;
      service = p.service;
      subtype = p.subtype;
      body = p.body.now;
    }

abbrev pub meant : Result Packet Fault → Result Fields Fault
meant (Ok p) = Ok (fields_in p)
meant (Err f) = Err f
