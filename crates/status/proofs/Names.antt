-- How many octets flagged numbers take
use Rattle.std.proofs.Common.{◌≡◌, ℕ, ◌*◌, ◌/◌, Bool, List, [], ◌∷◌, length, refl, arith}
use Rattle.packet.specs.Octets.{words}
use Rattle.packet.proofs.Octets.{length-words}
use Rattle.status.specs.Switches.{flagged, unwords}

-- one number makes two octets
pub length-unwords : (ns : List ℕ) → length (unwords ns) ≡ 2 * length ns
length-unwords [] = refl
length-unwords (n ∷ ns) = let h : length (unwords ns) ≡ 2 * length ns = length-unwords ns in omega arith

-- a flag changes no number's place
pub length-flagged : (f : ℕ → Bool) (ns : List ℕ) → length (flagged f ns) ≡ length ns
length-flagged f [] = refl
length-flagged f (n ∷ ns) = let h : length (flagged f ns) ≡ length ns = length-flagged f ns in omega arith

-- the flagged numbers take two octets each
pub length_flags : (f : ℕ → Bool) (xs : List ℕ) → length (unwords (flagged f (words xs))) ≡ length xs / 2 * 2
length_flags f xs =
    let a : length (unwords (flagged f (words xs))) ≡ 2 * length (flagged f (words xs)) = length-unwords (flagged f (words xs)) in
    let b : length (flagged f (words xs)) ≡ length (words xs) = length-flagged f (words xs) in
    let c : length (words xs) ≡ length xs / 2 = length-words xs in
    omega arith
