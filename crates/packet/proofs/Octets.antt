-- The numbers of sixteen bits in a list of octets
use Rattle.std.proofs.Common.{◌≡◌, ℕ, ◌+◌, ◌*◌, ◌/◌, suc, List, [], ◌∷◌, length, get_or, map, sym, refl, ap, ◌∙◌, arith}
use Rattle.std.specs.Simd.{first_chunks}
use Rattle.packet.specs.Octets.{words}

-- two octets make one number
pub length-words : (p : List ℕ) → length (words p) ≡ length p / 2
length-words [] = refl
length-words (a ∷ []) = refl
length-words (a ∷ b ∷ p) = let h : length (words p) ≡ length p / 2 = length-words p in omega arith

-- the number in two octets
abbrev pub pair_value : List ℕ → ℕ
pair_value p = get_or p 0 0 * 256 + get_or p 1 0

-- the numbers are those of the pairs of octets
pub words_of_pairs : (p : List ℕ) → words p ≡ map pair_value (first_chunks 2 (length p / 2) p)
words_of_pairs [] = refl
words_of_pairs (a ∷ []) = refl
words_of_pairs (a ∷ b ∷ p) =
    let more : length (a ∷ b ∷ p) / 2 ≡ suc (length p / 2) = omega arith in
    ap (λ (q : List ℕ). (a * 256 + b) ∷ q) (words_of_pairs p)
    ∙ sym (ap (λ k. map pair_value (first_chunks 2 k (a ∷ b ∷ p))) more)
