use Rattle.std.proofs.Common.{sym, ap, ◌∙◌, subst}
use Rattle.bus.specs.Bus.{listed, apids_in, waiting_in}
use Rattle.bus.specs.Kept.{Sound}
use Rattle.bus.proofs.Fresh.{given_apids, given_waits, given_sound}
use Rattle.bus.proofs.Bus.new.Goals as goal

pub invariant_of-result : goal.invariant_of-result
invariant_of-result c =
    record { sound = subst Sound (sym c.new-inner.ensures) (given_sound (listed c.args.apids.now)) }

pub returns : goal.returns
returns c =
    record {
      empty = ap waiting_in c.new-inner.ensures ∙ given_waits (listed c.args.apids.now);
      mailboxes = ap apids_in c.new-inner.ensures ∙ given_apids (listed c.args.apids.now);
    }
