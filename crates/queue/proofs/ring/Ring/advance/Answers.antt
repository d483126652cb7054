use Rattle.std.proofs.Common.{◌≡◌, length, refl, ap, ◌∙◌, arith}
use Rattle.queue.specs.Ring.{Memory, round}
use Rattle.queue.proofs.Rounds.{onwards}
use Rattle.queue.proofs.ring.Ring.advance.Goals as goal

pub returns : goal.returns
returns c =
    let m = c.self.inside.octets.now in
    let v : length c.self.inside.octets.now ≡ length c.args.self.now.octets = ap (λ (m : Memory). length m.octets) c.self.view_is in
    let e = c.onward-self-inside.ensures.place in
    rw (← c.self.view_is) (record { octets = refl; start = e; round = ap (round m) e ∙ onwards m c.self.inside.start c.args.n c.self.invariant (omega arith) })
