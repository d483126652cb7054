-- Numbers in octets, most significant octet first
use Rattle.std.specs.Prelude.{ℕ, ◌+◌, ◌*◌, List, [], ◌∷◌, slice_index}

-- the sixteen bits from octet k on
abbrev pub word_at : List ℕ → ℕ → ℕ
word_at p k = slice_index p k * 256 + slice_index p (k + 1)

-- all numbers of sixteen bits in a list of octets; a single octet left over is none
abbrev pub words : List ℕ → List ℕ
words [] = []
words (a ∷ []) = []
words (a ∷ b ∷ p) = (a * 256 + b) ∷ words p
