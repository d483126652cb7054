use Rattle.std.proofs.Common.{◌≡◌, ℕ, List, [], length, drop, take, get_or, sym, ap, ◌∙◌, arith, length-take-le}
use Rattle.queue.specs.Ring.{ringed}
use Rattle.queue.specs.Queue.{waits_in}
use Rattle.queue.specs.Rules.{carried}
use Rattle.queue.proofs.Heads.{oldest_of, popped}
use Rattle.destination.proofs.Takes.{take_one}
use Rattle.queue.proofs.QueueDestination.take.Goals as goal

pub invariant_of-self : goal.invariant_of-self
invariant_of-self c =
    let q = c.args.self.now in
    let o = oldest_of q (omega arith) in
    let n = c.first_len-n.ensures.oldest ∙ ap (λ (ws : List (List ℕ)). length (get_or ws 0 [])) o.is in
    let p = popped q c.advance.new.self c.first_len-n.result o n c.advance.ensures.octets c.advance.ensures.round in
    record { within = p.within; exact = p.exact; fine = p.fine }

pub returns : goal.returns
returns c =
    let q = c.args.self.now in
    let a = c.args.area.now in
    let o = oldest_of q (omega arith) in
    let n = c.first_len-n.ensures.oldest ∙ ap (λ (ws : List (List ℕ)). length (get_or ws 0 [])) o.is in
    let p = popped q c.advance.new.self c.first_len-n.result o n c.advance.ensures.octets c.advance.ensures.round in
    let g = take_one (length a) (waits_in q) o.w o.rest (omega arith) o.is in
    let f = g.0 in
    let l = length-take-le c.first_len-n.result a (omega arith) in
    let b : c.read.new.out ≡ o.w = c.read.ensures ∙ ap (λ (j : ℕ). take j (drop 2 (ringed q.ring))) (l ∙ n) ∙ o.body in
    record {
      answer = n ∙ sym (ap length f);
      area = cc;
      waiting = p.waiting ∙ sym g.1;
      fixed = λ r. ap (λ (j : ℕ). carried j r) p.size;
      short = λ t. absurd (omega arith);
      empty = λ e. absurd (let i = o.is in cc);
    }
