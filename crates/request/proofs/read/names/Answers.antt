use Rattle.std.proofs.Common.{◌≡◌, ℕ, ◌+◌, ◌*◌, true, false, eqb, List, length, get_or, take, drop, sym, ap, ◌∙◌, arith, rules}
use Rattle.std.proofs.lemmas.Bool.{le-leb, eq-eqb, ne_eqb}
use Rattle.std.proofs.lemmas.List.{take_rest}
use Rattle.packet.specs.Octets.{words}
use Rattle.packet.proofs.Octets.{length-words}
use Rattle.request.specs.Request.{subs_in, apids_in}
use Rattle.request.proofs.Refuses.{subs_refused, named}
use Rattle.request.proofs.read.names.Goals as goal

pub returns-in_err-all_in_range-clause-value : goal.returns-in_err-all_in_range-clause-value
returns-in_err-all_in_range-clause-value c =
    let b = c.args.body.now in
    let rest = take_rest b 2 in
    let long : eqb (2 + (get_or b 0 0 + get_or b 1 0) * 2) (length b) ≡ true = eq-eqb _ _ (omega arith) in
    let some : eqb (get_or b 0 0 + get_or b 1 0) 0 ≡ false = ne_eqb _ _ c.if-n1-n2-eq0.false in
    let s : c.split_at.result.0.now ≡ subs_in b = c.split_at.ensures.front ∙ ap (take (get_or b 0 0 * 2)) rest in
    let a : c.split_at.result.1.now ≡ apids_in b = c.split_at.ensures.back ∙ ap (drop (get_or b 0 0 * 2)) rest in
    let e = subs_refused b _ _ long some s a c.in_err-all_in_range.field-0.0 (sym c.all_in_range.ensures ∙ c.in_err-all_in_range.was) in
    search (rules, e)

pub returns-clause-value : goal.returns-clause-value
returns-clause-value c =
    let b = c.args.body.now in
    let rest = take_rest b 2 in
    let long : eqb (2 + (get_or b 0 0 + get_or b 1 0) * 2) (length b) ≡ true = eq-eqb _ _ (omega arith) in
    let some : eqb (get_or b 0 0 + get_or b 1 0) 0 ≡ false = ne_eqb _ _ c.if-n1-n2-eq0.false in
    let s : c.split_at.result.0.now ≡ subs_in b = c.split_at.ensures.front ∙ ap (take (get_or b 0 0 * 2)) rest in
    let a : c.split_at.result.1.now ≡ apids_in b = c.split_at.ensures.back ∙ ap (drop (get_or b 0 0 * 2)) rest in
    sym (named b _ _ long some s a (sym c.all_in_range.ensures ∙ c.in_ok-all_in_range.was) (sym c.all_in_range-2.ensures ∙ c.in_ok-all_in_range-2.was))

pub returns-clause-few : goal.returns-clause-few
returns-clause-few c =
    let xs : List ℕ = c.split_at.result.0.now in
    let ys : List ℕ = c.split_at.result.1.now in
    le-leb (length (words xs) + length (words ys)) 117 (omega (arith, length-words xs, length-words ys, c.split_at.ensures.front_len, c.split_at.ensures.back_len))
