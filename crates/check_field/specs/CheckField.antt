-- The check field, bit by bit: the cyclic code x^16 + x^12 + x^5 + 1 with all ones at the start
use Rattle.std.specs.Prelude.{ℕ, ◌*◌, ◌/◌, ◌%◌, List, fold, bit_xor}

-- one bit: the sixteen-bit register moves left by one, and where a 1 goes out, x^12 + x^5 + 1 is added
unfoldable pub bit_step : ℕ → ℕ
bit_step c = bit_xor (c * 2 % 65536) (c / 32768 * 4129)

unfoldable pub eight_bits : ℕ → ℕ
eight_bits c = bit_step (bit_step (bit_step (bit_step (bit_step (bit_step (bit_step (bit_step c)))))))

-- one octet: it is added to the upper half of the register, then goes out bit by bit
abbrev pub octet_step : ℕ → ℕ → ℕ
octet_step c o = eight_bits (bit_xor c (o * 256))

unfoldable pub check_field : List ℕ → ℕ
check_field xs = fold octet_step 65535 xs
