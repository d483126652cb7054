-- What a run means, read off its calls and replies alone
use Rattle.std.specs.Prelude.{ℕ, ◌+◌, ◌%◌, Bool, false, List, [], ◌∷◌, ◌++◌, length, Some, None, Ok, Err, Option, Result}
use Rattle.report.specs.Report.{Content}
use Rattle.request.specs.declared.rejection.Rejection.{Rejection}
use Rattle.request.specs.Request.{Asked, Told, request_of}
use Rattle.service.specs.declared.answer.Outcome.{Outcome}
use Rattle.service.specs.declared.answer.Outcome.TheVariants.{Accepted, Done, Rejected}
use Rattle.service.specs.State.{State, subschedules_after, apids_after}
use Rattle.service.specs.Requests.{Held, holds, judged, accept_reports, finish_reports, whole_reports}
use Rattle.history.specs.declared.call.Reply.{Reply}
use Rattle.history.specs.declared.call.Reply.TheVariants.{Answered, ClockSet, Refused, NoSuchRequest}
use Rattle.history.specs.Log.{Call, requests, accepts, completes, sets_clock, Entry, Log}
use Rattle.history.specs.Session.{held_at, ended}

-- x where the reply says that a request was done, else y
abbrev pub of_done : {X : Type 0} → Outcome → X → X → X
of_done Accepted x y = y
of_done (Done v) x y = x
of_done (Rejected c) x y = y

abbrev pub if_done : {X : Type 0} → Reply → X → X → X
if_done (Answered a) x y = of_done a.outcome x y
if_done ClockSet x y = y
if_done (Refused r) x y = y
if_done NoSuchRequest x y = y

-- x where it says that a request was accepted
abbrev pub of_accepted : {X : Type 0} → Outcome → X → X → X
of_accepted Accepted x y = x
of_accepted (Done v) x y = y
of_accepted (Rejected c) x y = y

abbrev pub if_accepted : {X : Type 0} → Reply → X → X → X
if_accepted (Answered a) x y = of_accepted a.outcome x y
if_accepted ClockSet x y = y
if_accepted (Refused r) x y = y
if_accepted NoSuchRequest x y = y

-- x where a request was answered at all
abbrev pub if_answered : {X : Type 0} → Reply → X → X → X
if_answered (Answered a) x y = x
if_answered ClockSet x y = y
if_answered (Refused r) x y = y
if_answered NoSuchRequest x y = y

-- x where the clock was set
abbrev pub if_set : {X : Type 0} → Reply → X → X → X
if_set (Answered a) x y = y
if_set ClockSet x y = x
if_set (Refused r) x y = y
if_set NoSuchRequest x y = y

-- the request that octets are, where they can be accepted
abbrev pub held_by : List ℕ → Result Told Rejection → Option Held
held_by p (Ok t) = Some (holds p t)
held_by p (Err r) = None

abbrev pub held_of : List ℕ → Option Held
held_of p = held_by p (request_of p)

-- the clock is the last time set, at first 0
abbrev pub clock_by : Call → Reply → ℕ → ℕ
clock_by (requests p) r old = old
clock_by (accepts p) r old = old
clock_by (completes k) r old = old
clock_by (sets_clock t) r old = if_set r t old

abbrev pub clock_of : Log → ℕ
clock_of [] = 0
clock_of (e ∷ h) = clock_by e.call e.reply (clock_of h)

-- for each acceptance asked for, the oldest first, the request, where it was accepted and has not been completed since
abbrev pub accepted_by : Call → Reply → List (Option Held) → List (Option Held)
accepted_by (requests p) r xs = xs
accepted_by (accepts p) r xs = xs ++ if_accepted r (held_of p) None ∷ []
accepted_by (completes k) r xs = if_done r (ended k xs) xs
accepted_by (sets_clock t) r xs = xs

abbrev pub still_accepted : Log → List (Option Held)
still_accepted [] = []
still_accepted (e ∷ h) = accepted_by e.call e.reply (still_accepted h)

-- what a call carried out, where it carried out a request
abbrev pub asked_of : Option Held → Option Asked
asked_of None = None
asked_of (Some h) = Some h.asked

abbrev pub carried_by : Call → Reply → List (Option Held) → Option Asked
carried_by (requests p) r xs = if_done r (asked_of (held_of p)) None
carried_by (accepts p) r xs = None
carried_by (completes k) r xs = if_done r (asked_of (held_at k xs)) None
carried_by (sets_clock t) r xs = None

abbrev pub carried_out : Log → Entry → Option Asked
carried_out h e = carried_by e.call e.reply (still_accepted h)

-- a number is enabled where the last enable or disable carried out that named it was an enable
abbrev pub subschedules_by : Option Asked → (ℕ → Bool) → ℕ → Bool
subschedules_by None on = on
subschedules_by (Some q) on = subschedules_after q on

abbrev pub enabled_subschedule : Log → ℕ → Bool
enabled_subschedule [] = λ _. false
enabled_subschedule (e ∷ h) = subschedules_by (carried_out h e) (enabled_subschedule h)

abbrev pub apids_by : Option Asked → (ℕ → Bool) → ℕ → Bool
apids_by None on = on
apids_by (Some q) on = apids_after q on

abbrev pub enabled_apid : Log → ℕ → Bool
enabled_apid [] = λ _. false
enabled_apid (e ∷ h) = apids_by (carried_out h e) (enabled_apid h)

-- the reports that a call gave
abbrev pub finished_by : (ℕ → Bool) → (ℕ → Bool) → Option Held → List Content
finished_by subschedules apids None = []
finished_by subschedules apids (Some h) = finish_reports subschedules apids h

abbrev pub given_by : (ℕ → Bool) → (ℕ → Bool) → List (Option Held) → Call → Reply → List Content
given_by subschedules apids xs (requests p) r = if_answered r (whole_reports subschedules apids p (judged p (request_of p))) []
given_by subschedules apids xs (accepts p) r = if_answered r (accept_reports p (judged p (request_of p))) []
given_by subschedules apids xs (completes k) r = if_answered r (finished_by subschedules apids (held_at k xs)) []
given_by subschedules apids xs (sets_clock t) r = []

abbrev pub given : Log → Entry → List Content
given h e = given_by (enabled_subschedule h) (enabled_apid h) (still_accepted h) e.call e.reply

-- how many reports were given
abbrev pub reports_given : Log → ℕ
reports_given [] = 0
reports_given (e ∷ h) = reports_given h + length (given h e)

-- what the service is after a run
abbrev pub state_of : Log → State
state_of h =
    record {
      clock = clock_of h;
      count = reports_given h % 16384;
      subschedules = enabled_subschedule h;
      apids = enabled_apid h;
    }
