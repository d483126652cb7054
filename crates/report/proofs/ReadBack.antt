-- A report read is the report written, and a report that passes the reader's tests is what the definition reads
use Rattle.std.proofs.Common.{◌≡◌, ℕ, ◌+◌, ◌-◌, ◌*◌, ◌/◌, ◌%◌, ◌^◌, ◌≤◌, Bool, true, cond, ◌&&◌, eqb, leb, List, ◌∷◌, ◌++◌, length, get_or, take, Some, None, sym, refl, ap, ◌∙◌, append_assoc, arith, length-append, take_at}
use Rattle.std.proofs.lemmas.List.{get_or_at, get_or-append_right}
use Rattle.std.proofs.lemmas.Bool.{and_from, eq-eqb, le-leb, cond-true}
use Rattle.check_field.specs.CheckField.{check_field}
use Rattle.report.specs.Report.{head_of, two_octets, with_check, report_of, Content, Fields, fields_of, clock_in, is_head, is_whole, is_checked, read_of}

-- octets with their check field after them pass the check
pub is_checked-with_check : (w rest : List ℕ) (n : ℕ) → length w + 2 ≡ n → is_checked n (with_check w ++ rest) ≡ true
unfolding with_check
is_checked-with_check w rest n h =
    let p : List ℕ = (w ++ two_octets (check_field w)) ++ rest in
    let u : ℕ = check_field w / 256 % 256 in
    let l : ℕ = check_field w % 256 in
    let e : p ≡ w ++ (u ∷ l ∷ rest) = append_assoc w (two_octets (check_field w)) rest in
    let hu : get_or p (n - 2) 0 ≡ u = ap (λ z. get_or z (n - 2) 0) e ∙ get_or_at w u (l ∷ rest) 0 (n - 2) (omega arith) in
    let one : n - 1 - length w ≡ 1 = omega arith in
    let hl : get_or p (n - 1) 0 ≡ l = ap (λ z. get_or z (n - 1) 0) e ∙ get_or-append_right w (u ∷ l ∷ rest) (length w) (n - 1) 0 refl (omega arith) ∙ ap (λ k. get_or (u ∷ l ∷ rest) k 0) one in
    let ht : take (n - 2) p ≡ w = ap (take (n - 2)) e ∙ take_at w (u ∷ l ∷ rest) (n - 2) (omega arith) in
    and_from (eqb (get_or p (n - 2) 0) (check_field (take (n - 2) p) / 256 % 256)) (eqb (get_or p (n - 1) 0) (check_field (take (n - 2) p) % 256))
    (eq-eqb _ _ (hu ∙ sym (ap (λ z. check_field z / 256 % 256) ht)))
    (eq-eqb _ _ (hl ∙ sym (ap (λ z. check_field z % 256) ht)))

-- six octets of a number are its lower 48 bits
six_octets : (t : ℕ) → t / 2 ^ 40 % 256 * 2 ^ 40 + t / 2 ^ 32 % 256 * 2 ^ 32 + t / 2 ^ 24 % 256 * 2 ^ 24 + t / 2 ^ 16 % 256 * 2 ^ 16 + t / 2 ^ 8 % 256 * 2 ^ 8 + t % 256 ≡ t % 2 ^ 48
six_octets t = omega arith

-- the fields, in their order
abbrev made : ℕ → ℕ → ℕ → ℕ → ℕ → List ℕ → Fields
made s u n t m b = record { service = s; subtype = u; count = n; clock = t; size = m; body = b }

-- where all three tests pass, there is an answer
given : {X : Type 0} (a b c : Bool) (x : X) → a ≡ true → b ≡ true → c ≡ true → cond (a && b && c) (Some x) None ≡ Some x
given a b c x ha hb hc = cond-true (a && b && c) (Some x) None (and_from (a && b) c (and_from a b ha hb) hc)

-- reading what was written returns the fields, whatever stands after it
pub reads_back : (n t : ℕ) (c : Content) (rest : List ℕ) → length c.body ≤ 65524 → read_of (report_of n t c ++ rest) ≡ Some (fields_of n t c)
unfolding report_of with_check
reads_back n t c rest h =
    let b : List ℕ = c.body in
    let s : ℕ = c.service in
    let u : ℕ = c.subtype in
    let w : List ℕ = head_of s u n (11 + length b) t ++ b in
    let two : List ℕ = two_octets (check_field w) in
    let p : List ℕ = (w ++ two) ++ rest in
    let size : ℕ = (11 + length b) / 256 % 256 * 256 + (11 + length b) % 256 + 7 in
    let hn : ((192 + n / 256 % 64) * 256 + n % 256) % 16384 ≡ n % 16384 = omega arith in
    let hs : size ≡ 18 + length b = omega arith in
    let hf : (192 + n / 256 % 64) / 64 ≡ 3 = omega arith in
    let ih : is_head p ≡ true = ap (λ k. eqb k 3 && true && true) hf in
    let lp : length p ≡ 18 + length b + length rest = omega (arith, length-append (b ++ two) rest, length-append b two) in
    let iw : is_whole size p ≡ true = and_from (leb 18 size) (leb size (length p)) (le-leb 18 size (omega arith)) (le-leb size (length p) (omega arith)) in
    let ic : is_checked size p ≡ true = is_checked-with_check w rest size (omega arith) in
    let hb : take (size - 18) ((b ++ two) ++ rest) ≡ b = ap (take (size - 18)) (append_assoc b two rest) ∙ take_at b (two ++ rest) (size - 18) (omega arith) in
    given (is_head p) (is_whole size p) (is_checked size p) _ ih iw ic
    ∙ ap (λ k. Some (made s u k (clock_in p) size (take (size - 18) ((b ++ two) ++ rest)))) hn
    ∙ ap (λ k. Some (made s u (n % 16384) k size (take (size - 18) ((b ++ two) ++ rest)))) (six_octets t)
    ∙ ap (λ l. Some (made s u (n % 16384) (t % 2 ^ 48) size l)) hb
    ∙ ap (λ k. Some (made s u (n % 16384) (t % 2 ^ 48) k b)) hs
