use Rattle.std.proofs.Common.{arith}
use Rattle.check_field.proofs.Rows.{rule}
use Rattle.check_field.proofs.table_row.Goals as goal

pub returns : goal.returns
returns c = rule c.args.upper (omega arith)
