use Rattle.std.proofs.Common.{◌≡◌, ℕ, zero, suc, ◌+◌, ◌-◌, ◌*◌, ◌/◌, ◌%◌, ◌^◌, ◌<◌, ◌≤◌, ◌⊎◌, sym, refl, ap, ◌∙◌, inl, inr, arith}
use lib.Bits.{bit_xor, xor_block, xor_shifted, xor_mod, xor_shr, xor_zero_r, xor_assoc, xor_comm, xor_lt}
use Rattle.check_field.specs.CheckField.{bit_step, eight_bits, octet_step}

bit : (n : ℕ) → n < 2 → (n ≡ 0) ⊎ (n ≡ 1)
bit zero h = inl refl
bit (suc zero) h = inr refl
bit (suc (suc n)) h = absurd (omega arith)

-- one bit of the register that is low: no polynomial
pub low_step : (c : ℕ) → c < 32768 → bit_step c ≡ c * 2
unfolding bit_step
low_step c h =
    let q : c / 32768 ≡ 0 = omega arith in
    let r : c * 2 % 65536 ≡ c * 2 = omega arith in
    ap (λ n. bit_xor (c * 2 % 65536) (n * 4129)) q ∙ xor_zero_r (c * 2 % 65536) ∙ r

pub high_step : (c : ℕ) → 32768 ≤ c → c < 65536 → bit_step c ≡ bit_xor ((c - 32768) * 2) 4129
unfolding bit_step
high_step c l h =
    let q : c / 32768 ≡ 1 = omega arith in
    let r : c * 2 % 65536 ≡ (c - 32768) * 2 = omega arith in
    ap (λ n. bit_xor (c * 2 % 65536) (n * 4129)) q ∙ ap (λ n. bit_xor n 4129) r

pub step_lt : (c : ℕ) → c < 65536 → bit_step c < 65536
unfolding bit_step
step_lt c h =
    let q : c / 32768 * 4129 < 2 ^ 16 = omega arith in
    let r : c * 2 % 65536 < 2 ^ 16 = omega arith in
    xor_lt 16 _ _ r q

xor_double : (a b : ℕ) → bit_xor (a * 2) (b * 2) ≡ bit_xor a b * 2
xor_double a b = let z : zero < 2 = omega arith in
    let e = xor_block 1 a b 0 0 z z in
    let l : a * 2 + 0 ≡ a * 2 = omega arith in
    let m : b * 2 + 0 ≡ b * 2 = omega arith in
    let n : bit_xor a b * 2 + 0 ≡ bit_xor a b * 2 = omega arith in
    sym (ap (λ x. bit_xor x (b * 2 + 0)) l ∙ ap (λ x. bit_xor (a * 2) x) m) ∙ e ∙ n

xor_times : (p q : ℕ) → p < 2 → q < 2 → bit_xor (p * 4129) (q * 4129) ≡ bit_xor p q * 4129
xor_times zero zero hp hq = refl
xor_times zero (suc zero) hp hq = refl
xor_times zero (suc (suc q)) hp hq = absurd (omega arith)
xor_times (suc zero) zero hp hq = refl
xor_times (suc zero) (suc zero) hp hq = refl
xor_times (suc zero) (suc (suc q)) hp hq = absurd (omega arith)
xor_times (suc (suc p)) q hp hq = absurd (omega arith)

xor_four : (a b c d : ℕ) → bit_xor (bit_xor a b) (bit_xor c d) ≡ bit_xor (bit_xor a c) (bit_xor b d)
xor_four a b c d =
    xor_assoc a b (bit_xor c d)
    ∙ ap (bit_xor a) (sym (xor_assoc b c d) ∙ ap (λ x. bit_xor x d) (xor_comm b c) ∙ xor_assoc c b d)
    ∙ sym (xor_assoc a c (bit_xor b d))

-- the step is linear
pub step_xor : (a b : ℕ) → a < 65536 → b < 65536 → bit_step (bit_xor a b) ≡ bit_xor (bit_step a) (bit_step b)
unfolding bit_step
step_xor a b ha hb =
    let p : a / 32768 < 2 = omega arith in
    let q : b / 32768 < 2 = omega arith in
    ap (λ n. bit_xor n (bit_xor a b / 32768 * 4129)) (ap (λ n. n % 65536) (sym (xor_double a b)) ∙ xor_mod (a * 2) (b * 2) 16)
    ∙ ap (bit_xor (bit_xor (a * 2 % 65536) (b * 2 % 65536))) (ap (λ n. n * 4129) (xor_shr a b 15) ∙ sym (xor_times (a / 32768) (b / 32768) p q))
    ∙ xor_four (a * 2 % 65536) (b * 2 % 65536) (a / 32768 * 4129) (b / 32768 * 4129)

-- eight steps are linear: any number of steps
times : ℕ → ℕ → ℕ
times zero c = c
times (suc n) c = times n (bit_step c)

times_xor : (n a b : ℕ) → a < 65536 → b < 65536 → times n (bit_xor a b) ≡ bit_xor (times n a) (times n b)
unfolding times
times_xor zero a b ha hb = refl
times_xor (suc n) a b ha hb =
    ap (times n) (step_xor a b ha hb) ∙ times_xor n (bit_step a) (bit_step b) (step_lt a ha) (step_lt b hb)

eight : (c : ℕ) → eight_bits c ≡ times 8 c
unfolding times eight_bits
eight c = refl

pub eight_xor : (a b : ℕ) → a < 65536 → b < 65536 → eight_bits (bit_xor a b) ≡ bit_xor (eight_bits a) (eight_bits b)
unfolding times eight_bits
eight_xor a b ha hb = times_xor 8 a b ha hb

-- a low octet only moves up
pub eight_low : (c : ℕ) → c < 256 → eight_bits c ≡ c * 256
unfolding eight_bits
eight_low c h =
    let s : (a b : ℕ) → a ≡ b → b < 32768 → bit_step a ≡ b * 2 = λ a b e l. ap bit_step e ∙ low_step b l in
    let e1 = s c c refl (omega arith) in
    let e2 = s _ _ e1 (omega arith) in
    let e3 = s _ _ e2 (omega arith) in
    let e4 = s _ _ e3 (omega arith) in
    let e5 = s _ _ e4 (omega arith) in
    let e6 = s _ _ e5 (omega arith) in
    let e7 = s _ _ e6 (omega arith) in
    let e8 = s _ _ e7 (omega arith) in
    let f : c * 2 * 2 * 2 * 2 * 2 * 2 * 2 * 2 ≡ c * 256 = omega arith in
    e8 ∙ f

-- an octet's step: the entry of the high octet, and the low octet moved up
pub by_table : (c o : ℕ) → c < 65536 → o < 256 → octet_step c o ≡ bit_xor (eight_bits (bit_xor (c / 256) o * 256)) (c % 256 * 256)
by_table c o hc ho =
    let hi : ℕ = bit_xor (c / 256) o in
    let lo : ℕ = c % 256 in
    let l : c % 256 < 256 = omega arith in
    let d : c / 256 < 2 ^ 8 = omega arith in
    let o8 : o < 2 ^ 8 = omega arith in
    let k : bit_xor (c / 256) o < 2 ^ 8 = xor_lt 8 _ _ d o8 in
    let k2 : bit_xor (c / 256) o * 256 < 65536 = omega arith in
    let l2 : c % 256 < 65536 = omega arith in
    let z : zero < 2 ^ 8 = omega arith in
    let e1 : c ≡ c / 256 * 256 + c % 256 = omega arith in
    let e2 : o * 256 ≡ o * 256 + 0 = omega arith in
    let e3 : bit_xor c (o * 256) ≡ bit_xor (c / 256 * 256 + c % 256) (o * 256 + 0) = ap (λ n. bit_xor n (o * 256)) e1 ∙ ap (bit_xor (c / 256 * 256 + c % 256)) e2 in
    let e4 : bit_xor (c / 256 * 256 + c % 256) (o * 256 + 0) ≡ bit_xor (c / 256) o * 256 + bit_xor (c % 256) 0 = xor_block 8 (c / 256) o (c % 256) 0 l z in
    let e5 : bit_xor (c / 256) o * 256 + bit_xor (c % 256) 0 ≡ bit_xor (bit_xor (c / 256) o * 256) (c % 256) = ap (λ n. bit_xor (c / 256) o * 256 + n) (xor_zero_r (c % 256)) ∙ sym (xor_shifted (bit_xor (c / 256) o) 8 (c % 256) l) in
    ap eight_bits (e3 ∙ e4 ∙ e5)
    ∙ eight_xor (bit_xor (c / 256) o * 256) (c % 256) k2 l2
    ∙ ap (bit_xor (eight_bits (bit_xor (c / 256) o * 256))) (eight_low (c % 256) l)
