use Rattle.std.proofs.Common.{ℕ, List, ap}
use Rattle.bus.specs.Bus.{carried}
use Rattle.bus.proofs.Same.{same_bus}
use Rattle.bus.proofs.BusDestination.take.Goals as goal

pub returns : goal.returns
returns c =
    record {
      answer = c.take.ensures.answer;
      area = c.take.ensures.area;
      waiting = c.take.ensures.waiting;
      fixed = λ p. ap (λ (list : List ℕ). carried list p) c.take.ensures.fixed;
      short = λ e. same_bus _ _ (c.take.ensures.short e);
      empty = λ e. same_bus _ _ (c.take.ensures.empty e);
    }
