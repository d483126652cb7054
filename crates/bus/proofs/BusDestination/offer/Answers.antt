use Rattle.std.proofs.Common.{ℕ, List, ap}
use Rattle.bus.specs.Bus.{carried}
use Rattle.bus.proofs.Same.{same_bus}
use Rattle.bus.proofs.BusDestination.offer.Goals as goal

pub returns : goal.returns
returns c =
    record {
      answer = c.offer.ensures.answer;
      waiting = c.offer.ensures.waiting;
      fixed = λ p. ap (λ (list : List ℕ). carried list p) c.offer.ensures.fixed;
      never = λ e. same_bus _ _ (c.offer.ensures.never e);
      not_now = λ e. same_bus _ _ (c.offer.ensures.not_now e);
    }
