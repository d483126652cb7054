-- Octets with zeros after them
use Rattle.std.specs.Prelude.{◌≡◌, ℕ, ◌-◌, ◌≤◌, ◌++◌, List, length, take, drop, replicate}
use Rattle.std.proofs.Common.{arith, refl, drop_at, take-append-drop, length-append, length-take, length-take-le}
use Rattle.std.proofs.lemmas.List.{length-replicate}

-- octets and zeros, so many in all
abbrev pub padded : ℕ → List ℕ → List ℕ
padded size xs = xs ++ replicate (size - length xs) 0

-- octets that are followed by zeros alone are given back by those before the zeros
pub padded_back : (size n : ℕ) (xs : List ℕ) → n ≤ size → length xs ≡ size → drop n xs ≡ replicate (size - n) 0 → padded size (take n xs) ≡ xs
padded_back size n xs within long zeros =
    let a = length-take-le n xs (omega (arith, within, long)) in
    let b = take-append-drop n xs in
    rw (a, ← zeros) b

-- no more octets than there is room for
pub take_few : (size : ℕ) (xs : List ℕ) → length (take size xs) ≤ size
take_few size xs = omega (arith, length-take size xs)

pub length_padded : (size : ℕ) (xs : List ℕ) → length xs ≤ size → length (padded size xs) ≡ size
length_padded size xs few =
    let zeros : List ℕ = replicate (size - length xs) 0 in
    let l = length-replicate {A = ℕ} (size - length xs) 0 in
    omega (arith, few, length-append xs zeros, l)

pub drop_padded : (size : ℕ) (xs : List ℕ) → drop (length xs) (padded size xs) ≡ replicate (size - length xs) 0
drop_padded size xs = drop_at xs (replicate (size - length xs) 0) (length xs) refl
