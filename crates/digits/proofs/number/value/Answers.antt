use Rattle.std.proofs.Common.{arith}
use Rattle.digits.proofs.Digits.{decimal_at}
use Rattle.digits.proofs.number.value.Goals as goal

pub returns-in_err-number : goal.returns-in_err-number
returns-in_err-number c =
    rw c.from_residual.ensures
    (λ small.
    let grows = decimal_at c.loop-digit.number c.args.digits.now c.loop-digit.digit-index c.loop-digit-test.true in
    let number = c.loop-digit.invariant.number in
    c.in_err-number.ensures (omega arith))
