-- One bit of an octet set or cleared is one bit of the map changed
use Rattle.std.proofs.Common.{◌≡◌, ℕ, ◌*◌, ◌/◌, ◌%◌, ◌^◌, ◌<◌, Bool, true, false, cond, eqb, List, length, get_or, set, sym, refl, ap, ◌∙◌, subst, inl, inr, arith, get_or-set_other, get_or-set_same, w8}
use Rattle.std.proofs.lemmas.Bool.{cases_eq, eq-eqb, ne_eqb}
use Rattle.std.proofs.lemmas.Bool.Decides.{nat_tests}
use Rattle.std.proofs.lemmas.Nat.Bits.{bit_at_set_same, bit_at_set_other, bit_at_clear_same, bit_at_clear_other}
use Rattle.std.specs.Int.{bit_at, bit_not}
use Rattle.std.specs.Int.Bits.{bit_and, bit_or}
use Rattle.status.specs.Switches.{bit}

-- what a bit set leaves of each bit of an octet
pub or_bit : (b i j : ℕ) → i < 8 → bit_at (bit_or b (1 * 2 ^ i % 2 ^ 8)) j ≡ cond (eqb j i) 1 (bit_at b j)
or_bit b i j within = elim (cases_eq j i) [
  | inl e ↦ rw (e, eq-eqb i i refl) (bit_at_set_same w8 b i within)
  | inr n ↦ rw (ne_eqb j i n) (bit_at_set_other w8 b i within j n)
]

-- what a bit cleared leaves of each bit of an octet
pub and_bit : (b i j : ℕ) → i < 8 → j < 8 → bit_at (bit_and b (bit_not w8 (1 * 2 ^ i % 2 ^ 8))) j ≡ cond (eqb j i) 0 (bit_at b j)
and_bit b i j within low = elim (cases_eq j i) [
  | inl e ↦ rw (e, eq-eqb i i refl) (bit_at_clear_same w8 b i within)
  | inr n ↦ rw (ne_eqb j i n) (bit_at_clear_other w8 b i within j low n)
]

eqb_places : (k n : ℕ) → k / 8 ≡ n / 8 → eqb (k % 8) (n % 8) ≡ eqb k n
eqb_places k n e = grind (arith, nat_tests)

not_eqb : (k n : ℕ) → (k / 8 ≡ n / 8 → ⊥) → eqb k n ≡ false
not_eqb k n e = grind (arith, nat_tests)

one_bit : (on t : Bool) (x : ℕ) → eqb (cond t (cond on 1 0) x) 1 ≡ cond t on (eqb x 1)
one_bit true true x = refl
one_bit false true x = refl
one_bit on false x = refl

-- an octet of the map written, with one bit of it changed, is one bit of the map changed
pub put_whole : (m : List ℕ) (n v : ℕ) (on : Bool) → n < 8 * length m → ((j : ℕ) → j < 8 → v / 2 ^ j % 2 ≡ cond (eqb j (n % 8)) (cond on 1 0) (get_or m (n / 8) 0 / 2 ^ j % 2)) → (k : ℕ) → bit (set m (n / 8) v) k ≡ cond (eqb k n) on (bit m k)
put_whole m n v on lt h k = elim (cases_eq (k / 8) (n / 8)) [
  | inl e ↦
      let l : n / 8 < length m = omega arith in
      let g : get_or (set m (n / 8) v) (k / 8) 0 ≡ v = subst (λ z. get_or (set m (n / 8) v) z 0 ≡ v) (sym e) (rw get_or-set_same) in
      let q : get_or m (n / 8) 0 ≡ get_or m (k / 8) 0 = ap (λ z. get_or m z 0) (sym e) in
      let hj : v / 2 ^ (k % 8) % 2 ≡ cond (eqb (k % 8) (n % 8)) (cond on 1 0) (get_or m (n / 8) 0 / 2 ^ (k % 8) % 2) = h (k % 8) (omega arith) in
      ap (λ z. eqb (z / 2 ^ (k % 8) % 2) 1) g ∙ (ap (λ z. eqb z 1) hj ∙ (one_bit on (eqb (k % 8) (n % 8)) (get_or m (n / 8) 0 / 2 ^ (k % 8) % 2) ∙ (ap (λ z. cond z on (eqb (get_or m (n / 8) 0 / 2 ^ (k % 8) % 2) 1)) (eqb_places k n e) ∙ ap (λ z. cond (eqb k n) on (eqb (z / 2 ^ (k % 8) % 2) 1)) q)))
  | inr ne ↦
      let g : get_or (set m (n / 8) v) (k / 8) 0 ≡ get_or m (k / 8) 0 = rw get_or-set_other in
      ap (λ z. eqb (z / 2 ^ (k % 8) % 2) 1) g ∙ sym (ap (λ z. cond z on (bit m k)) (not_eqb k n ne))
]
