use Rattle.std.proofs.Common.{◌≡◌, ◌++◌, None, All, map, take, vec_items}
use Rattle.script.specs.Run.{brought, lent, completions}
use Rattle.script.proofs.script.Script.entries.Given as goal

abbrev pub invariant-loop-step : goal.invariant-loop-step
invariant-loop-step l =
    record {
      run : map brought (vec_items l.entries) ≡ map lent (take l.step-index (vec_items l.self.steps));
      not_made : All (λ e. e.reply ≡ None) (vec_items l.entries);
    }

abbrev pub invariant-loop-k : goal.invariant-loop-k
invariant-loop-k l =
    record {
      run : map brought (vec_items l.entries) ≡ map lent (vec_items l.self.steps) ++ completions l.k;
      not_made : All (λ e. e.reply ≡ None) (vec_items l.entries);
    }
