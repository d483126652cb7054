-- Octets kept in place
use Rattle.std.specs.Prelude.{ℕ, List, length, take}
use Rattle.octets.specs.declared.Octets.{Octets}
use Rattle.octets.specs.Padded.{padded, take_few, length_padded, drop_padded}

-- the octets
abbrev pub seen : {n : ℕ} → Octets n → List ℕ
seen o = take o.len o.octets

-- the first n of some octets, or all where they are fewer
unfoldable pub kept : (n : ℕ) → List ℕ → Octets n
kept n xs =
    record {
      len = length (take n xs);
      octets = padded n (take n xs);
      few = take_few n xs;
      whole = length_padded n (take n xs) (take_few n xs);
      clean = drop_padded n (take n xs);
    }
