-- A text's first pair of digits and the rest of it
use Rattle.std.proofs.Common.{◌≡◌, ℕ, zero, suc, ◌+◌, ◌-◌, ◌*◌, ◌<◌, ◌≤◌, List, [], ◌∷◌, ◌++◌, length, get_or, drop, Some, Ok, Err, Result, sym, refl, ap, ◌∙◌, append_assoc, add-one, drop-cons, arith}
use Rattle.std.specs.Simd.{first_chunks}
use Rattle.digits.specs.declared.hex.HexError.{HexError}
use Rattle.digits.specs.Hex.{digit_of, pair_of, before, octets_of}
use Rattle.digits.specs.Number.{decimal_of}

-- the octets that pairs of digits write, and the text after them
abbrev pub decode : List (List ℕ) → List ℕ → Result (List ℕ) HexError
decode [] rest = octets_of rest
decode (p ∷ ps) rest = before (pair_of (digit_of (get_or p 0 0)) (digit_of (get_or p 1 0))) (decode ps rest)

pub octets-chunks : (k : ℕ) (text : List ℕ) → k * 2 ≤ length text → octets_of text ≡ decode (first_chunks 2 k text) (drop (k * 2) text)
octets-chunks zero text h = refl
octets-chunks (suc k) [] h = absurd (omega arith)
octets-chunks (suc k) (a ∷ []) h = absurd (omega arith)
octets-chunks (suc k) (a ∷ b ∷ text) h =
    ap (before (pair_of (digit_of a) (digit_of b)))
    (octets-chunks k text (omega arith) ∙ ap (λ (n : ℕ). decode (first_chunks 2 k text) (drop n (a ∷ b ∷ text))) (let e : suc (suc (k * 2)) ≡ suc k * 2 = omega arith in e))

pub decode_at : (ps : List (List ℕ)) (rest : List ℕ) (i : ℕ) (d : List ℕ) → i < length ps →
    decode (drop i ps) rest ≡ before (pair_of (digit_of (get_or (get_or ps i d) 0 0)) (digit_of (get_or (get_or ps i d) 1 0))) (decode (drop (i + 1) ps) rest)
decode_at ps rest i d h = rw (add-one, drop-cons ps i d)

-- octets found already, before others, if they are some
abbrev pub after : List ℕ → Result (List ℕ) HexError → Result (List ℕ) HexError
after found (Ok os) = Ok (found ++ os)
after found (Err e) = Err e

pub after_none : (r : Result (List ℕ) HexError) → after [] r ≡ r
after_none (Ok os) = refl
after_none (Err e) = refl

pub after_more : (found : List ℕ) (o : ℕ) (r : Result (List ℕ) HexError) → after found (before (Some o) r) ≡ after (found ++ o ∷ []) r
after_more found o (Ok os) = ap (λ (x : List ℕ). Ok x) (sym (append_assoc found (o ∷ []) os))
after_more found o (Err e) = refl

-- one more pair is read
pub pair_more : (text : List ℕ) (pairs : List (List ℕ)) (rest : List ℕ) (i : ℕ) (found more : List ℕ) (o : ℕ) → i < length pairs →
    octets_of text ≡ after found (decode (drop i pairs) rest) →
    pair_of (digit_of (get_or (get_or pairs i []) 0 0)) (digit_of (get_or (get_or pairs i []) 1 0)) ≡ Some o →
    more ≡ found ++ o ∷ [] → octets_of text ≡ after more (decode (drop (i + 1) pairs) rest)
pair_more text pairs rest i found more o h before pair pushed =
    let first = decode_at pairs rest i [] h in
    let joined = after_more found o (decode (drop (i + 1) pairs) rest) in
    cc

-- more digits make no number smaller
pub decimal_grows : (n : ℕ) (p : List ℕ) → n ≤ decimal_of n p
decimal_grows n [] = omega arith
decimal_grows n (a ∷ p) = let h = decimal_grows (n * 10 + (a - 48)) p in omega arith

pub decimal_at : (n : ℕ) (p : List ℕ) (i : ℕ) → i < length p → n * 10 + (get_or p i 0 - 48) ≤ decimal_of n (drop i p)
decimal_at n p i h = rw (drop-cons p i 0) (decimal_grows (n * 10 + (get_or p i 0 - 48)) (drop (suc i) p))
