use Rattle.std.proofs.Common.{◌/◌, length, sym, ◌∙◌, vec_items, arith}
use Rattle.digits.proofs.Digits.{octets-chunks, after_none, pair_more}
use Rattle.digits.proofs.hex.octets.Goals as goal

pub loop-upper-init : goal.loop-upper-init
loop-upper-init c =
    let e = octets-chunks (length c.args.text.now / 2) c.args.text.now (omega arith) in
    rw (c.in_ok-found.ensures.items, after_none, c.as_chunks.ensures.front, c.as_chunks.ensures.back) e

pub loop-upper-preserved : goal.loop-upper-preserved
loop-upper-preserved c =
    pair_more c.args.text.now c.as_chunks.result.0.now c.as_chunks.result.1.now c.loop-upper.upper-index (vec_items c.loop-upper.found) _ c.in_ok-ok_or.field-0
    c.loop-upper-test.true c.loop-upper.invariant (sym c.pair_value.ensures ∙ c.in_ok-ok_or.ensures.ok_part) c.in_ok-push.ensures.items
