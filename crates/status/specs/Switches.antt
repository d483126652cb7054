-- Numbers that are enabled, as a map of bits
use Rattle.std.specs.Prelude.{ℕ, ◌+◌, ◌/◌, ◌%◌, ◌^◌, Bool, true, false, cond, List, [], ◌∷◌, ◌==◌, nat_lt, slice_index}

-- is bit k of the map set
abbrev pub bit : List ℕ → ℕ → Bool
bit m k = slice_index m (k / 8) / 2 ^ (k % 8) % 2 == 1

-- is k one of the list
abbrev pub is_named : ℕ → List ℕ → Bool
is_named k [] = false
is_named k (n ∷ ns) = cond (k == n) true (is_named k ns)

-- number n set to `on`, where n is below the limit
abbrev pub put : ℕ → ℕ → Bool → (ℕ → Bool) → ℕ → Bool
put limit n on f k = cond (nat_lt n limit) (cond (k == n) on (f k)) (f k)

-- each number of the list that is below the limit set to `on`
abbrev pub switched : ℕ → List ℕ → Bool → (ℕ → Bool) → ℕ → Bool
switched limit ns on f k = cond (nat_lt k limit) (cond (is_named k ns) on (f k)) (f k)

-- each number of the list, raised by 32768 where f holds of it
abbrev pub flagged : (ℕ → Bool) → List ℕ → List ℕ
flagged f [] = []
flagged f (n ∷ ns) = cond (f n) (n + 32768) n ∷ flagged f ns

-- the octets of 16-bit numbers, most significant octet first
abbrev pub unwords : List ℕ → List ℕ
unwords [] = []
unwords (n ∷ ns) = n / 256 % 256 ∷ (n % 256 ∷ unwords ns)
