use Rattle.std.proofs.Common.{◌≡◌, ℕ, ◌-◌, List, [], ◌++◌, length, take, refl, ap, ◌∙◌, arith, length-append}
use Rattle.check_field.specs.CheckField.{check_field}
use Rattle.report.specs.Report.{over, two_octets, with_check, report_of}
use Rattle.report.proofs.Over.{take-over}
use Rattle.report.proofs.Draft.lay.Goals as goal

-- The head, the body and the check field are laid down one after another.
pub returns-clause-part : goal.returns-clause-part
unfolding with_check report_of
returns-clause-part c =
    let e : List ℕ = c.args.part.now in
    let b : List ℕ = c.args.self.now.body.now in
    let h : List ℕ = c.head-head.result in
    let t : List ℕ = c.to_be_bytes.result in
    let s1 : c.append-n.new.out ≡ over h e = c.append-n.ensures.over [] e refl refl in
    let lh : length h ≡ 16 = ap length c.head-head.ensures in
    let lt : length t ≡ 2 = ap length c.to_be_bytes.ensures in
    let n1 : length h ≡ c.append-n.result = omega (arith, c.append-n.ensures.end) in
    let s2 : c.append-n-2.new.out ≡ over (h ++ b) e = c.append-n-2.ensures.over h e n1 s1 in
    let n2 : length (h ++ b) ≡ c.append-n-2.result = omega (arith, length-append h b, c.append-n-2.ensures.end) in
    let s3 : c.append.new.out ≡ over ((h ++ b) ++ t) e = c.append.ensures.over (h ++ b) e n2 s2 in
    let k : take (c.append-n-2.result - 0) c.append-n-2.new.out ≡ h ++ b = ap (take (c.append-n-2.result - 0)) s2 ∙ take-over (h ++ b) e _ (omega arith) in
    let ck : c.check_field-check.result ≡ check_field (h ++ b) = c.check_field-check.ensures ∙ ap check_field k in
    let ht : t ≡ two_octets (check_field (h ++ b)) = c.to_be_bytes.ensures ∙ ap two_octets ck in
    s3 ∙ ap (λ l. over ((h ++ b) ++ l) e) ht ∙ ap (λ l. over (with_check (l ++ b)) e) c.head-head.ensures
