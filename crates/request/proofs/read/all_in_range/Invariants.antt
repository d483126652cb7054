use Rattle.std.proofs.Common.{◌≡◌, ◌+◌, ◌*◌, map, drop}
use Rattle.packet.proofs.Octets.{pair_value}
use Rattle.request.specs.Request.{out_of_range}
use Rattle.request.proofs.read.all_in_range.Given as goal

-- what is found among the numbers that are left is what is found among all
abbrev pub invariant-loop-i : goal.invariant-loop-i
invariant-loop-i l =
    out_of_range l.least l.most (l.at + 2 * l.i) (map pair_value (drop l.i l.number-items))
    ≡ out_of_range l.least l.most l.at (map pair_value l.number-items)
