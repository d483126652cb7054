use Rattle.std.proofs.Common.{refl, zero-add, arith}
use Rattle.queue.specs.Ring.{waits}
use Rattle.queue.proofs.store.Queue.new.Goals as goal

pub invariant_of-result : goal.invariant_of-result
unfolding waits
invariant_of-result c = record { within = omega arith; exact = refl; fine = refl }

pub returns-clause-empty : goal.returns-clause-empty
unfolding waits
returns-clause-empty c = refl

pub returns-clause-space : goal.returns-clause-space
unfolding waits
returns-clause-space c = λ p. let e = c.new.ensures in simp (e, zero-add)
