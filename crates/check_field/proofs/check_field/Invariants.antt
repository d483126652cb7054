use Rattle.std.proofs.Common.{◌≡◌, take, fold}
use Rattle.check_field.specs.CheckField.{octet_step}
use Rattle.check_field.proofs.check_field.Given as goal

abbrev pub invariant-loop-octet : goal.invariant-loop-octet
invariant-loop-octet l = l.register ≡ fold octet_step 65535 (take l.octet-index l.octets)
