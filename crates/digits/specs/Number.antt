-- Decimal numbers
use Rattle.std.specs.Prelude.{ℕ, ◌+◌, ◌-◌, ◌*◌, ◌^◌, Bool, cond, ◌&&◌, List, [], ◌∷◌, length, Ok, Err, Result, nat_le, nat_lt}
use Rattle.std.specs.List.{list_all}
use Rattle.digits.specs.declared.number.NumberError.{NumberError}
use Rattle.digits.specs.declared.number.NumberError.TheVariants.{NotANumber, TooLarge}

abbrev pub is_digit : ℕ → Bool
is_digit c = nat_le 48 c && nat_le c 57

abbrev pub all_digits : List ℕ → Bool
all_digits = list_all is_digit

-- the number n, continued by more digits
abbrev pub decimal_of : ℕ → List ℕ → ℕ
decimal_of n [] = n
decimal_of n (c ∷ cs) = decimal_of (n * 10 + (c - 48)) cs

-- what a word is as a number of 64 bits
abbrev pub number_of : List ℕ → Result ℕ NumberError
number_of word =
    cond (nat_le 1 (length word) && all_digits word)
    (cond (nat_lt (decimal_of 0 word) (2 ^ 64)) (Ok (decimal_of 0 word)) (Err TooLarge))
    (Err NotANumber)
