-- What a service is, without its bit maps
use Rattle.std.specs.Prelude.{ℕ, Bool, true, false, List, [], ◌∷◌}
use Rattle.report.specs.Report.{Content, next_count}
use Rattle.request.specs.Request.{Named, Asked, enables, disables, asks_status, tests_connection}
use Rattle.status.specs.Status.{subschedules_on, apids_on}
use Rattle.status.specs.Switches.{switched}
use Rattle.service.specs.declared.service.Service.{Service}

-- the clock, the sequence count of the next report, and which numbers are enabled
pub record State : Type 0 where
  pub clock : ℕ
  pub count : ℕ
  pub subschedules : ℕ → Bool
  pub apids : ℕ → Bool

abbrev pub view : Service → State
view s =
    record {
      clock = s.stamp.clock;
      count = s.stamp.sequence_count;
      subschedules = subschedules_on s.status;
      apids = apids_on s.status;
    }

-- a new service: the clock at 0, no report given, everything disabled
abbrev pub initial : State
initial = record { clock = 0; count = 0; subschedules = λ _. false; apids = λ _. false }

abbrev pub clocked : State → ℕ → State
clocked s t = record { clock = t; count = s.count; subschedules = s.subschedules; apids = s.apids }

-- the sequence count after some reports
abbrev pub count_after : ℕ → List Content → ℕ
count_after n [] = n
count_after n (r ∷ rs) = count_after (next_count n) rs

abbrev pub counted : State → List Content → State
counted s rs = record { clock = s.clock; count = count_after s.count rs; subschedules = s.subschedules; apids = s.apids }

-- each number named set to on
abbrev pub switched_by : State → Named → Bool → State
switched_by s n on =
    record {
      clock = s.clock;
      count = s.count;
      subschedules = switched 4096 n.subschedules on s.subschedules;
      apids = switched 2048 n.apids on s.apids;
    }

-- carrying a request out: an enable or a disable sets the status of each number that it names
abbrev pub subschedules_after : Asked → (ℕ → Bool) → ℕ → Bool
subschedules_after (enables n) on = switched 4096 n.subschedules true on
subschedules_after (disables n) on = switched 4096 n.subschedules false on
subschedules_after (asks_status n) on = on
subschedules_after tests_connection on = on

abbrev pub apids_after : Asked → (ℕ → Bool) → ℕ → Bool
apids_after (enables n) on = switched 2048 n.apids true on
apids_after (disables n) on = switched 2048 n.apids false on
apids_after (asks_status n) on = on
apids_after tests_connection on = on

abbrev pub carried : State → Asked → State
carried s q =
    record {
      clock = s.clock;
      count = s.count;
      subschedules = subschedules_after q s.subschedules;
      apids = apids_after q s.apids;
    }
