-- What a write over the start of a list, or of a part of it, leaves of the whole
use Rattle.std.proofs.Common.{◌≡◌, ℕ, ◌+◌, ◌-◌, ◌≤◌, List, [], ◌++◌, length, take, drop, sym, ap, ◌∙◌, append_assoc, append-nil, arith, length-append, drop_of_length-le, drop-drop, take_at, drop_at}
use borrow.Rule.Slice.PartMut.{put_mid}
use Rattle.std.proofs.lemmas.List.{take_rest}
use Rattle.check_field.specs.CheckField.{check_field}
use Rattle.report.specs.Report.{over, head_of, two_octets, with_check, report_of, Content}

-- a write of p at the place `at` into a list that begins with w
pub over_put : (w e xs p : List ℕ) (at k : ℕ) → length w ≡ at → xs ≡ over w e → length p ≡ k → put_mid at k xs p ≡ over (w ++ p) e
over_put w e xs p at k hw hx hp =
    ap (λ l. put_mid at k l p) hx
    ∙ ap (λ l. l ++ (p ++ drop k (drop at (over w e)))) (take_at w (drop (length w) e) at hw)
    ∙ ap (λ l. w ++ (p ++ drop k l)) (drop_at w (drop (length w) e) at hw)
    ∙ ap (λ l. w ++ (p ++ l)) (drop-drop k (length w) e)
    ∙ sym (append_assoc w p (drop (length w + k) e))
    ∙ ap (λ n. (w ++ p) ++ drop n e) (ap (λ n. length w + n) (sym hp) ∙ sym (length-append w p))

-- a part from `at` on, itself written over
pub over_part : (w e xs p ys : List ℕ) (at k : ℕ) → length w ≡ at → xs ≡ over w e → length xs ≤ at + k → ys ≡ over p (drop at xs) → put_mid at k xs ys ≡ over (w ++ p) e
over_part w e xs p ys at k hw hx hk hy =
    let ht : take at xs ≡ w = ap (take at) hx ∙ take_at w (drop (length w) e) at hw in
    let hd : drop at xs ≡ drop (length w) e = ap (drop at) hx ∙ drop_at w (drop (length w) e) at hw in
    let hz : drop k (drop at xs) ≡ [] = drop-drop k at xs ∙ drop_of_length-le xs hk in
    ap (λ l. take at xs ++ (l ++ drop k (drop at xs))) hy
    ∙ ap (λ l. l ++ (over p (drop at xs) ++ drop k (drop at xs))) ht
    ∙ ap (λ l. w ++ (over p (drop at xs) ++ l)) hz
    ∙ ap (λ l. w ++ l) (append-nil (over p (drop at xs)))
    ∙ ap (λ l. w ++ (p ++ drop (length p) l)) hd
    ∙ ap (λ l. w ++ (p ++ l)) (drop-drop (length p) (length w) e)
    ∙ sym (append_assoc w p (drop (length w + length p) e))
    ∙ ap (λ n. (w ++ p) ++ drop n e) (sym (length-append w p))

-- what a write over the start of `&mut area[at..]` leaves of the whole area
pub over_rest : (w e xs p ys : List ℕ) (at : ℕ) → length w ≡ at → xs ≡ over w e → at ≤ length xs → ys ≡ over p (take (length xs - at) (drop at xs)) → put_mid at (length xs - at) xs ys ≡ over (w ++ p) e
over_rest w e xs p ys at hw hx ha hy =
    over_part w e xs p ys at (length xs - at) hw hx (omega arith) (hy ∙ ap (over p) (take_rest xs at))

-- what was laid over the start stands at the start
pub take-over : (w e : List ℕ) (n : ℕ) → length w ≡ n → take n (over w e) ≡ w
take-over w e n h = take_at w (drop (length w) e) n h

-- a report has eighteen octets besides its body
pub length-report : (n t : ℕ) (c : Content) → length (report_of n t c) ≡ 18 + length c.body
unfolding report_of with_check
length-report n t c =
    let e = length-append c.body (two_octets (check_field (head_of c.service c.subtype n (11 + length c.body) t ++ c.body))) in
    omega (arith, e)
