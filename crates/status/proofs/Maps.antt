use Rattle.std.proofs.Common.{◌≡◌, ℕ, ◌*◌, ◌/◌, ◌%◌, ◌^◌, ◌<◌, ◌≤◌, Bool, true, false, cond, eqb, ltb, List, [], ◌∷◌, length, get_or, replicate, sym, refl, ap, ◌∙◌, inl, inr, arith}
use mathlib.Core.Path.{fun_ext}
use native.Mathlib.Nat.{zero-div}
use lib.ListN.{get_or-replicate, length-replicate}
use Rattle.std.proofs.lemmas.List.{get_or_past}
use Rattle.std.proofs.lemmas.Bool.{both_ways, cases_lt, le-ltb, lt-ltb}
use Rattle.std.proofs.lemmas.Bool.Decides.{nat_tests}
use Rattle.status.specs.Switches.{bit, put, switched, is_named}

clear_bit : (m : List ℕ) (k : ℕ) → get_or m (k / 8) 0 ≡ 0 → bit m k ≡ false
clear_bit m k e = ap (λ z. eqb (z / 2 ^ (k % 8) % 2) 1) e ∙ ap (λ z. eqb (z % 2) 1) (zero-div (2 ^ (k % 8)))

-- no bit past the map's end is set
pub bit_past : (m : List ℕ) (k : ℕ) → length m ≤ k / 8 → bit m k ≡ false
bit_past m k h = clear_bit m k (get_or_past m (k / 8) 0 h)

-- a bit that is set is within the map
pub bit_below : (m : List ℕ) (k : ℕ) → bit m k ≡ true → k < 8 * length m
bit_below m k e = elim (cases_lt (k / 8) (length m)) [
  | inl l ↦ omega arith
  | inr g ↦ absurd (both_ways (bit m k) (bit_past m k g) e)
]

-- a map with every bit clear
abbrev pub zeros : ℕ → List ℕ
zeros n = replicate n 0

get_or-zeros : (n i : ℕ) → get_or (zeros n) i 0 ≡ 0
get_or-zeros n i = elim (cases_lt i n) [
  | inl l ↦ get_or-replicate n i 0 0 l
  | inr g ↦ get_or_past (zeros n) i 0 (rw length-replicate g)
]

-- a map of zeros has no bit set
pub bit-zeros : (n : ℕ) → bit (zeros n) ≡ (λ _. false)
bit-zeros n = fun_ext (λ k. clear_bit (zeros n) k (get_or-zeros n (k / 8)))

-- a number past the limit changes nothing
pub put_past : (limit n : ℕ) (on : Bool) (f : ℕ → Bool) → limit ≤ n → f ≡ put limit n on f
put_past limit n on f h = fun_ext (λ k. sym (ap (λ t. cond t (cond (eqb k n) on (f k)) (f k)) (le-ltb n limit h)))

-- a number below the limit is set
pub put_below : (limit n : ℕ) (on : Bool) (f g : ℕ → Bool) → n < limit → ((k : ℕ) → g k ≡ cond (eqb k n) on (f k)) → g ≡ put limit n on f
put_below limit n on f g h e = fun_ext (λ k. e k ∙ sym (ap (λ t. cond t (cond (eqb k n) on (f k)) (f k)) (lt-ltb n limit h)))

one_more : (limit n k : ℕ) (named on old : Bool) → cond (ltb k limit) (cond named on (cond (ltb n limit) (cond (eqb k n) on old) old)) (cond (ltb n limit) (cond (eqb k n) on old) old) ≡ cond (ltb k limit) (cond (cond (eqb k n) true named) on old) old
one_more limit n k true on old = grind (arith, nat_tests)
one_more limit n k false on old = grind (arith, nat_tests)

-- a number set, and then those of a list, is the longer list set
pub switched_more : (limit n : ℕ) (ns : List ℕ) (on : Bool) (f : ℕ → Bool) → switched limit ns on (put limit n on f) ≡ switched limit (n ∷ ns) on f
switched_more limit n ns on f = fun_ext (λ k. one_more limit n k (is_named k ns) on (f k))

same_ways : {A : Type 0} (t : Bool) (x : A) → cond t x x ≡ x
same_ways true x = refl
same_ways false x = refl

-- an empty list changes nothing
pub switched_none : (limit : ℕ) (on : Bool) (f : ℕ → Bool) → switched limit [] on f ≡ f
switched_none limit on f = fun_ext (λ k. same_ways (ltb k limit) (f k))
