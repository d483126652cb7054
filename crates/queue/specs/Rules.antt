-- What a queue over a memory of so many octets carries, has space for, and why it refuses
use Rattle.std.specs.Prelude.{ℕ, ◌+◌, Bool, cond, ◌&&◌, List, length, nat_le}
use Rattle.std.specs.List.{sum_by}
use Rattle.destination.specs.Destination.{sized}

-- it carries a packet of such a length that fits the whole memory with two octets beside it
abbrev pub carried : ℕ → List ℕ → Bool
carried octets p = sized p && nat_le (2 + length p) octets

-- the octets that packets take up, two beside each
abbrev pub spent : List (List ℕ) → ℕ
spent ps = sum_by (λ p. 2 + length p) ps

-- it has space for a packet that fits beside all that wait
abbrev pub spaced : ℕ → List (List ℕ) → List ℕ → Bool
spaced octets ws p = nat_le (spent ws + (2 + length p)) octets

-- the cause of a refusal. 5: its length is not one of 12 to 228; 2: with two octets beside it, it is longer than the whole memory; 1: there is no space now
abbrev pub why : ℕ → List ℕ → ℕ
why octets p = cond (sized p) (cond (nat_le (2 + length p) octets) 1 2) 5
