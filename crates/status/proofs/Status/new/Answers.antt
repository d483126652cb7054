use Rattle.std.proofs.Common.{ap, ◌∙◌}
use Rattle.status.specs.Switches.{bit}
use Rattle.status.proofs.Maps.{bit-zeros}
use Rattle.status.proofs.Status.new.Goals as goal

pub returns : goal.returns
returns c = record { subschedules = ap bit c.of.ensures ∙ bit-zeros 512; apids = ap bit c.of-2.ensures ∙ bit-zeros 256 }
