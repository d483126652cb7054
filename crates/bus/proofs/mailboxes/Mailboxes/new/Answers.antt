use Rattle.std.proofs.Common.{◌≡◌, ◌<◌, length, get_or, take, Some, None, List, ap, ◌∙◌, arith}
use Rattle.bus.specs.declared.mailbox.Mailbox.{Mailbox}
use Rattle.bus.specs.Bus.{listed}
use Rattle.bus.specs.Changes.{given, place_for}
use Rattle.bus.proofs.Fresh.{given_yes, given_no}
use Rattle.bus.proofs.mailboxes.Mailboxes.new.Goals.{in-Some, in_default}
use Rattle.bus.proofs.mailboxes.Mailboxes.new.Goals as goal

pub loop-apid-preserved : goal.loop-apid-preserved
loop-apid-preserved c =
    let xs = c.args.apids.now in
    let i = c.loop-apid.apid-index in
    let ms = c.loop-apid.boxes in
    let lt : i < length xs = omega arith in
    let is = c.loop-apid.invariant in
    let at : c.place_for.result ≡ place_for (given (listed (take i xs))) (get_or xs i 0) = c.place_for.ensures ∙ ap (λ (bs : List Mailbox). place_for bs (get_or xs i 0)) is in
    elim c.match-place_for.branch [
      | in-Some w ↦
          (let n = w.in-Some.place in
          let p : place_for (given (listed (take i xs))) (get_or xs i 0) ≡ Some n = cc in
          let y = given_yes xs i lt n p in
          let b = w.boxes-is in
          let f = w.new.ensures in
          cc)
      | in_default w ↦ (let p : place_for (given (listed (take i xs))) (get_or xs i 0) ≡ None = cc in let b = w.boxes-is in let y = given_no xs i lt p in cc)
    ]
