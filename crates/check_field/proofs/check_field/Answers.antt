use Rattle.std.proofs.Common.{fold, ap, ◌∙◌, arith, rules}
use Rattle.std.proofs.lemmas.List.{take_all}
use Rattle.std.proofs.lemmas.List.Sums.{fold_more}
use Rattle.check_field.specs.CheckField.{octet_step, check_field}
use Rattle.check_field.proofs.check_field.Goals as goal

pub loop-octet-preserved : goal.loop-octet-preserved
loop-octet-preserved c = search (rules, fold_more)

pub returns : goal.returns
unfolding check_field
returns c =
    c.loop-octet.invariant ∙ ap (fold octet_step 65535) (take_all c.loop-octet.octet-index c.args.octets.now (omega arith))
