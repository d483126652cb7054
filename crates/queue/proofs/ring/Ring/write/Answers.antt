use Rattle.std.proofs.Common.{◌≡◌, length, ap, arith}
use Rattle.queue.specs.Ring.{Memory}
use Rattle.queue.proofs.Rounds.{written}
use Rattle.queue.proofs.ring.Ring.write.Goals as goal

pub returns-clause-round : goal.returns-clause-round
returns-clause-round c =
    let v : length c.self.inside.octets.now ≡ length c.args.self.now.octets = ap (λ (m : Memory). length m.octets) c.self.view_is in
    rw (← c.self.view_is) (written c.self.inside.octets.now c.write_round.new.memory c.args.octets.now c.self.inside.start c.args.at c.onward-from.result
    c.self.invariant (omega arith) (omega arith) c.onward-from.ensures.place c.write_round.ensures)
