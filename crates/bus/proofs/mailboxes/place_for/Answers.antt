use Rattle.std.proofs.Common.{arith}
use Rattle.std.proofs.lemmas.Bool.Decides.{nat_tests}
use Rattle.bus.proofs.Homes.{listed_found}
use Rattle.bus.proofs.mailboxes.place_for.Goals as goal

pub returns-then-number-gt2047 : goal.returns-then-number-gt2047
returns-then-number-gt2047 c = grind (arith, nat_tests, listed_found c.args.boxes.now c.args.number)

pub returns : goal.returns
returns c = grind (arith, nat_tests, listed_found c.args.boxes.now c.args.number)
