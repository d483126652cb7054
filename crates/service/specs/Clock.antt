-- Setting the clock
use Rattle.std.specs.Prelude.{ℕ, ◌^◌, cond, Ok, Err, Result, nat_lt}
use Rattle.service.specs.declared.answer.Refusal.{Refusal}
use Rattle.service.specs.declared.answer.Refusal.TheVariants.{TimeBeyondRange, ClockBackward}
use Rattle.service.specs.State.{State, clocked}

-- a time has 48 bits, and the clock does not go back
abbrev pub clock_answer : ℕ → ℕ → Result (Unit {0}) Refusal
clock_answer clock t = cond (nat_lt t (2 ^ 48)) (cond (nat_lt t clock) (Err ClockBackward) (Ok tt)) (Err TimeBeyondRange)

abbrev pub clock_after : State → ℕ → State
clock_after s t = cond (nat_lt t (2 ^ 48)) (cond (nat_lt t s.clock) s (clocked s t)) s
