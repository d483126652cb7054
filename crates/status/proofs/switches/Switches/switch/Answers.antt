use Rattle.std.proofs.Common.{◌≡◌, ◌+◌, ◌*◌, [], ◌∷◌, map, drop, slice_index_or, sym, ap, ◌∙◌, arith, add-one, drop-cons, drop_of_length-le}
use Rattle.packet.specs.Octets.{words}
use Rattle.packet.proofs.Octets.{pair_value, words_of_pairs}
use Rattle.status.specs.Switches.{bit, switched}
use Rattle.status.proofs.Maps.{switched_more, switched_none}
use Rattle.status.proofs.switches.Switches.switch.Goals as goal

pub loop-name-preserved : goal.loop-name-preserved
loop-name-preserved g c =
    let pairs = c.as_chunks.result.0.now in
    let i = c.loop-name.name-index in
    let limit = 8 * g.row.N in
    let rest = map pair_value (drop (i + 1) pairs) in
    let first : drop i pairs ≡ slice_index_or pairs i [] ∷ drop (i + 1) pairs = rw add-one (drop-cons pairs i [] (omega arith)) in
    let old = bit c.loop-name.self.octets in
    let on = c.args.on in
    let n = c.from_be_bytes.result in
    ap (switched limit rest on) c.put.ensures
    ∙ (switched_more limit n rest on old
    ∙ (ap (λ m. switched limit (m ∷ rest) on old) c.from_be_bytes.ensures
    ∙ (ap (λ l. switched limit (map pair_value l) on old) (sym first) ∙ c.loop-name.invariant)))

pub returns : goal.returns
returns g c =
    let pairs = c.as_chunks.result.0.now in
    let limit = 8 * g.row.N in
    let all : words c.args.names.now ≡ map pair_value pairs = words_of_pairs c.args.names.now ∙ sym (ap (map pair_value) c.as_chunks.ensures.front) in
    let none : drop c.loop-name.name-index pairs ≡ [] = drop_of_length-le pairs (omega arith) in
    sym (switched_none limit c.args.on (bit c.loop-name.self.octets))
    ∙ (ap (λ l. switched limit (map pair_value l) c.args.on (bit c.loop-name.self.octets)) (sym none)
    ∙ (c.loop-name.invariant ∙ ap (λ l. switched limit l c.args.on (bit c.args.self.now.octets)) (sym all)))
