use Rattle.std.proofs.Common.{true, ◌≡◌, arith, ap, ◌∙◌, rules}
use Rattle.destination.specs.Destination.{sized}
use Rattle.queue.specs.Ring.{ringed, waits}
use Rattle.queue.proofs.Rounds.{round_front}
use Rattle.queue.proofs.Step.{is_carried, why_full, is_full, has_space, stepped}
use Rattle.queue.proofs.Same.{same_queue}
use Rattle.queue.proofs.QueueDestination.offer.Goals as goal

pub returns-then-n-size-2 : goal.returns-then-n-size-2
returns-then-n-size-2 c =
    let q = c.args.self.now in
    let p = c.args.packet.now in
    let size : sized p ≡ true = search rules in
    let a = is_carried q p size (omega arith) in
    let y = why_full q p size (omega arith) in
    let b = is_full q p (omega arith) in
    let z = round_front (ringed q.ring) in
    record {
      answer = simp (a, b, y);
      waiting = simp (a, b) (grind (arith, z));
      fixed = λ p. grind arith;
      never = λ e. absurd (cc);
      not_now = λ _. same_queue _ _ (grind arith) (omega arith);
    }

pub push-requires : goal.push-requires
push-requires c =
    let size : sized c.args.packet.now ≡ true = search rules in
    record { carried = is_carried c.args.self.now c.args.packet.now size (omega arith); fits = omega arith; short = omega arith }

pub returns : goal.returns
returns c =
    let q = c.args.self.now in
    let p = c.args.packet.now in
    let size : sized p ≡ true = search rules in
    let a = is_carried q p size (omega arith) in
    let b = has_space q p (omega arith) in
    let s = stepped q p c.push.new.self.ring a (omega arith) c.push.ensures.octets c.push.ensures.size in
    let g = ap (waits (ringed c.push.new.self.ring)) c.push.ensures.used ∙ s.waiting in
    let z = s.size in
    record {
      answer = simp (a, b);
      waiting = simp (a, b, g);
      fixed = λ p. simp z;
      never = λ e. absurd (cc);
      not_now = λ e. absurd (cc);
    }
