use Rattle.std.proofs.Common.{◌≡◌, ◌*◌, map, drop}
use Rattle.packet.proofs.Octets.{pair_value}
use Rattle.status.specs.Switches.{bit, switched}
use Rattle.status.proofs.switches.Switches.switch.Given as goal

-- the map, switched by the names that are left, is the map at the entry, switched by all
abbrev pub invariant-loop-name : goal.invariant-loop-name
invariant-loop-name g l =
    switched (8 * g.row.N) (map pair_value (drop l.name-index l.name-items)) l.on (bit l.self.octets)
    ≡ switched (8 * g.row.N) (map pair_value l.name-items) l.on (bit l.initial.self.octets)
