use Rattle.std.proofs.Common.{◌≡◌, ◌*◌, ◌%◌, sym, ap, ◌∙◌, arith}
use lib.Bits.{bit_xor}
use Rattle.check_field.proofs.Steps.{by_table}
use Rattle.check_field.proofs.octet_step.Goals as goal

pub returns : goal.returns
returns c =
    let low : c.args.register * 256 % 65536 ≡ c.args.register % 256 * 256 = omega arith in
    ap (bit_xor c.table_row.result) low
    ∙ ap (λ n. bit_xor n (c.args.register % 256 * 256)) c.table_row.ensures
    ∙ sym (by_table c.args.register c.args.octet (omega arith) (omega arith))
