use Rattle.std.proofs.Common.{◌≡◌, ◌+◌, ◌≤◌, ◌/◌, ◌%◌, [], ◌∷◌, length, ◌∙◌, refl, arith, rules}
use Rattle.queue.specs.Ring.{ringed}
use Rattle.queue.specs.Keeps.{parts}
use Rattle.queue.proofs.Rounds.{length_ringed}
use Rattle.queue.proofs.Frames.{laid_down}
use Rattle.queue.proofs.Step.{stepped}
use Rattle.queue.proofs.store.Queue.push.Goals as goal

pub invariant_of-self : goal.invariant_of-self
invariant_of-self c =
    let q = c.args.self.now in
    let p = c.args.packet.now in
    let small = (parts (length q.ring.octets) p c.requires.carried).1.0 in
    let h : c.to_be_bytes-header.result ≡ length p / 256 ∷ length p % 256 ∷ [] = search rules in
    let k : q.used + (2 + length p) ≤ length (ringed q.ring) = omega (arith, length_ringed q.ring) in
    let d = laid_down (ringed q.ring) _ p (ringed c.write.new.self) (ringed c.write-2.new.self) q.used k h c.write.ensures.round c.write-2.ensures.round in
    let s = stepped q p c.write-2.new.self c.requires.carried c.requires.fits d (c.write-2.ensures.size ∙ c.write.ensures.size) in
    record { within = omega arith; exact = s.exact; fine = s.fine }

pub returns : goal.returns
returns c =
    let q = c.args.self.now in
    let p = c.args.packet.now in
    let small = (parts (length q.ring.octets) p c.requires.carried).1.0 in
    let h : c.to_be_bytes-header.result ≡ length p / 256 ∷ length p % 256 ∷ [] = search rules in
    let k : q.used + (2 + length p) ≤ length (ringed q.ring) = omega (arith, length_ringed q.ring) in
    record {
      octets = laid_down (ringed q.ring) _ p (ringed c.write.new.self) (ringed c.write-2.new.self) q.used k h c.write.ensures.round c.write-2.ensures.round;
      used = refl;
      start = c.write-2.ensures.start ∙ c.write.ensures.start;
      size = c.write-2.ensures.size ∙ c.write.ensures.size;
    }
