use Rattle.std.proofs.Common.{◌<◌, length, get_or, set, ap, ◌∙◌, arith}
use Rattle.std.proofs.lemmas.List.{get_or_default}
use Rattle.std.proofs.lemmas.List.Edits.{map_over_more}
use Rattle.bus.specs.Changes.{lowered}
use Rattle.bus.proofs.mailbox.lower_ranks.Goals as goal

pub loop-mailbox-preserved : goal.loop-mailbox-preserved
loop-mailbox-preserved c =
    let xs = c.args.boxes.now in
    let ys = c.loop-mailbox.boxes in
    let i = c.loop-mailbox.mailbox-index in
    let lt : i < length xs = omega arith in
    let x = get_or ys i c.mailbox-item.result in
    let d = get_or_default ys i c.mailbox-item.result x (omega arith) in
    ap (set ys i) c.move_up.ensures ∙ map_over_more lowered xs ys i x lt c.loop-mailbox.invariant d
