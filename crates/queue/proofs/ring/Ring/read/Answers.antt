use Rattle.std.proofs.Common.{◌≡◌, length, ap, ◌∙◌, arith}
use Rattle.queue.specs.Ring.{Memory}
use Rattle.queue.proofs.Rounds.{read_on, read_one, read_two}
use Rattle.queue.proofs.ring.Ring.read.Goals as goal

pub returns-then-n-to_end : goal.returns-then-n-to_end
returns-then-n-to_end c =
    let v : length c.self.inside.octets.now ≡ length c.args.self.now.octets = ap (λ (m : Memory). length m.octets) c.self.view_is in
    let m = c.self.inside.octets.now in
    let o = read_on m c.self.inside.start c.args.at (length c.args.out.now) c.onward-from.result c.self.invariant (omega arith) c.onward-from.ensures.place in
    let r = read_one m c.onward-from.result (length c.args.out.now) _ (omega arith) (omega arith) in
    rw (← c.self.view_is) (c.copy_from_slice.ensures.after ∙ r ∙ o)

pub returns-else-n-to_end : goal.returns-else-n-to_end
returns-else-n-to_end c =
    let v : length c.self.inside.octets.now ≡ length c.args.self.now.octets = ap (λ (m : Memory). length m.octets) c.self.view_is in
    let m = c.self.inside.octets.now in
    let o = read_on m c.self.inside.start c.args.at (length c.args.out.now) c.onward-from.result c.self.invariant (omega arith) c.onward-from.ensures.place in
    let r = read_two m c.args.out.now c.copy_from_slice-else-n-to_end.new.self c.copy_from_slice-else-n-to_end-2.new.self
    c.onward-from.result _ _ _ (omega arith) (omega arith) (omega arith) (omega arith)
    c.copy_from_slice-else-n-to_end.ensures.after c.copy_from_slice-else-n-to_end-2.ensures.after (omega arith) (omega arith) in
    rw (← c.self.view_is) (r ∙ o)
