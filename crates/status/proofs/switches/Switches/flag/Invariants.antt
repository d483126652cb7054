use Rattle.std.proofs.Common.{◌≡◌, ◌*◌, ◌++◌, length, map, take, drop}
use Rattle.packet.proofs.Octets.{pair_value}
use Rattle.status.specs.Switches.{bit, flagged, unwords}
use Rattle.status.proofs.switches.Switches.flag.Given as goal

-- what is written, and then what is left, flagged, is all of it flagged
abbrev pub invariant-loop-i : goal.invariant-loop-i
invariant-loop-i g l =
    (take (2 * l.i) l.out ++ unwords (flagged (bit l.self.octets) (map pair_value (drop l.i l.name-items)))
    ≡ unwords (flagged (bit l.self.octets) (map pair_value l.name-items)))
    × (2 * length l.name-items ≡ length l.out)
