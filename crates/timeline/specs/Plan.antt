-- What a timeline is, without its bit maps
use Rattle.std.specs.Prelude.{ℕ, min, Bool, false, List, map, replicate, None, count_by, Option}
use Rattle.request.specs.declared.request.Cancel.{Cancel}
use Rattle.request.specs.Request.{Named}
use Rattle.status.specs.Status.{subschedules_on, apids_on}
use Rattle.status.specs.Switches.{switched}
use Rattle.schedule.specs.declared.pending.Pending.{Pending}
use Rattle.schedule.specs.Covers.{covers}
use Rattle.schedule.specs.Slots.{hit, dropped, each}
use Rattle.timeline.specs.declared.timeline.Timeline.{Timeline}

-- which numbers are enabled, how many serials were given, and what the slots hold
pub record Plan : Type 0 where
  pub subschedules : ℕ → Bool
  pub apids : ℕ → Bool
  pub serials : ℕ
  pub slots : List (Option Pending)

abbrev pub plan_of : Timeline → Plan
plan_of t =
    record {
      subschedules = subschedules_on t.status;
      apids = apids_on t.status;
      serials = t.serials;
      slots = t.slots.now;
    }

-- a new timeline where n slots are lent: everything disabled, no serial given, and its slots, at most 256, empty
abbrev pub fresh : ℕ → Plan
fresh n = record { subschedules = λ _. false; apids = λ _. false; serials = 0; slots = replicate (min n 256) None }

-- each number named set to on
abbrev pub switched_by : Plan → Named → Bool → Plan
switched_by p n on =
    record {
      subschedules = switched 4096 n.subschedules on p.subschedules;
      apids = switched 2048 n.apids on p.apids;
      serials = p.serials;
      slots = p.slots;
    }

-- how many pending commands are to end
abbrev pub covered : (Pending → Bool) → Plan → ℕ
covered ends p = count_by (hit ends) p.slots

abbrev pub cancelled : Plan → Cancel → Plan
cancelled p r =
    record { subschedules = p.subschedules; apids = p.apids; serials = p.serials; slots = map (dropped (covers r)) p.slots }

-- no command pending and nothing enabled
abbrev pub wiped : Plan → Plan
wiped p = record { subschedules = λ _. false; apids = λ _. false; serials = p.serials; slots = map (dropped each) p.slots }
