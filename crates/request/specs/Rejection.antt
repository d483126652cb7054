-- Why a request is not accepted: the number of each case, and the two numbers A and B that say more of it
use Rattle.std.specs.Prelude.{ℕ}
use Rattle.packet.specs.Packet.{fault_code, fault_a, fault_b}
use Rattle.request.specs.declared.rejection.Rejection.{Rejection}
use Rattle.request.specs.declared.rejection.Rejection.TheVariants.{Packet, UnknownType, UnknownSubtype, DataLength, NothingNamed, Field}
use Rattle.packet.specs.declared.Failure.{Failure}

abbrev pub code_of : Rejection → ℕ
code_of (Packet f) = fault_code f
code_of (UnknownType s u) = 3
code_of (UnknownSubtype s u) = 4
code_of (DataLength n) = 5
code_of NothingNamed = 5
code_of (Field octet value) = 5

abbrev pub a_of : Rejection → ℕ
a_of (Packet f) = fault_a f
a_of (UnknownType s u) = s
a_of (UnknownSubtype s u) = s
a_of (DataLength n) = 10
a_of NothingNamed = 10
a_of (Field octet value) = octet

abbrev pub b_of : Rejection → ℕ
b_of (Packet f) = fault_b f
b_of (UnknownType s u) = u
b_of (UnknownSubtype s u) = u
b_of (DataLength n) = n
b_of NothingNamed = 0
b_of (Field octet value) = value

abbrev pub failure_of : Rejection → Failure
failure_of r = record { code = code_of r; a = a_of r; b = b_of r }
