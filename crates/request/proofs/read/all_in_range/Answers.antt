use Rattle.std.proofs.Common.{◌≡◌, ◌+◌, ◌*◌, [], ◌∷◌, Ok, map, drop, slice_index_or, sym, ap, ◌∙◌, arith, add-one, drop-cons, drop_of_length-le}
use Rattle.std.proofs.lemmas.Bool.Decides.{nat_tests}
use Rattle.packet.specs.Octets.{words}
use Rattle.packet.proofs.Octets.{pair_value, words_of_pairs}
use Rattle.request.specs.Request.{out_of_range, or_else}
use Rattle.request.proofs.read.all_in_range.Goals as goal

pub returns-then-not-contains : goal.returns-then-not-contains
returns-then-not-contains c =
    let pairs = c.as_chunks.result.0.now in
    let i = c.loop-i.i in
    let all : words c.args.numbers.now ≡ map pair_value pairs = words_of_pairs c.args.numbers.now ∙ sym (ap (map pair_value) c.as_chunks.ensures.front) in
    let first : drop i pairs ≡ slice_index_or pairs i [] ∷ drop (i + 1) pairs = rw add-one (drop-cons pairs i [] (omega arith)) in
    let here = ap (λ l. out_of_range c.args.least c.args.most (c.args.at + 2 * i) (map pair_value l)) first in
    let inv = c.loop-i.invariant in
    let outside = c.contains.ensures.value in
    grind (arith, nat_tests)

pub returns : goal.returns
returns c =
    let pairs = c.as_chunks.result.0.now in
    let i = c.loop-i.i in
    let lo = c.args.least in
    let hi = c.args.most in
    let all : words c.args.numbers.now ≡ map pair_value pairs = words_of_pairs c.args.numbers.now ∙ sym (ap (map pair_value) c.as_chunks.ensures.front) in
    let none : drop i pairs ≡ [] = drop_of_length-le pairs (omega arith) in
    let left : out_of_range lo hi c.args.at (words c.args.numbers.now) ≡ out_of_range lo hi (c.args.at + 2 * i) (map pair_value (drop i pairs)) =
    ap (out_of_range lo hi c.args.at) all ∙ sym c.loop-i.invariant in
    sym (ap (λ r. or_else r (Ok tt)) (left ∙ ap (λ l. out_of_range lo hi (c.args.at + 2 * i) (map pair_value l)) none))
