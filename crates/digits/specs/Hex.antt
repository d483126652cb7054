-- Octets as pairs of hexadecimal digits
use Rattle.std.specs.Prelude.{◌≡◌, ℕ, ◌+◌, ◌-◌, ◌*◌, cond, ◌&&◌, ◌⊎◌, List, [], ◌∷◌, Some, None, Ok, Err, Option, Result, nat_le}
use Rattle.digits.specs.declared.hex.HexError.{HexError}
use Rattle.digits.specs.declared.hex.HexError.TheVariants.{OddDigits, NotADigit, OutOfMemory}

-- the value of a digit: 0 to 9, A to F, a to f
abbrev pub digit_of : ℕ → Option ℕ
digit_of c =
    cond (nat_le 48 c && nat_le c 57) (Some (c - 48))
    (cond (nat_le 65 c && nat_le c 70) (Some (c - 65 + 10))
    (cond (nat_le 97 c && nat_le c 102) (Some (c - 97 + 10)) None))

abbrev pub pair_of : Option ℕ → Option ℕ → Option ℕ
pair_of None l = None
pair_of (Some u) None = None
pair_of (Some u) (Some l) = Some (u * 16 + l)

-- an octet, if it is one, before others, if they are some
abbrev pub before : Option ℕ → Result (List ℕ) HexError → Result (List ℕ) HexError
before None os = Err NotADigit
before (Some o) (Ok os) = Ok (o ∷ os)
before (Some o) (Err e) = Err e

-- the octets that a text writes, the upper half of each first
abbrev pub octets_of : List ℕ → Result (List ℕ) HexError
octets_of [] = Ok []
octets_of (c ∷ []) = Err OddDigits
octets_of (u ∷ l ∷ text) = before (pair_of (digit_of u) (digit_of l)) (octets_of text)

-- why a text was not read: its first fault, or want of memory
abbrev pub Refuses : List ℕ → HexError → Type 0
Refuses text e = (octets_of text ≡ Err e) ⊎ (e ≡ OutOfMemory)
