-- The three states of a request, and what each call on one answers, writes and changes
use Rattle.std.specs.Prelude.{ℕ, Bool, cond, List, [], ◌++◌, length, Some, None, Ok, Err, Option, Result, nat_lt}
use Rattle.report.specs.Report.{Content}
use Rattle.request.specs.declared.rejection.Rejection.{Rejection}
use Rattle.request.specs.declared.request.Ack.{Ack}
use Rattle.request.specs.Rejection.{code_of}
use Rattle.request.specs.Request.{Asked, Told, asked_in, request_of, name_of}
use Rattle.service.specs.declared.answer.Outcome.{Outcome}
use Rattle.service.specs.declared.answer.Outcome.TheVariants.{Accepted as WasAccepted, Done, Rejected}
use Rattle.service.specs.declared.answer.Answer.{Answer}
use Rattle.service.specs.declared.answer.Refusal.{Refusal}
use Rattle.service.specs.declared.answer.Refusal.TheVariants.{AreaTooShort, TimeBeyondRange, ClockBackward}
use Rattle.service.specs.declared.states.Accepted.{Accepted}
use Rattle.service.specs.declared.states.Completed.{Completed}
use Rattle.service.specs.declared.states.Acceptance.{Acceptance}
use Rattle.service.specs.declared.states.Received.{Received}
use Rattle.service.specs.State.{State, counted, carried}
use Rattle.service.specs.Reports.{acceptance_of, rejection_of, completion_of, data_of, octets_of, area_after}

-- the number of each outcome's value: a failure's code, or what was asked for
abbrev pub value_of : Outcome → ℕ
value_of WasAccepted = 0
value_of (Done n) = n
value_of (Rejected r) = code_of r

-- the number of each refusal
abbrev pub refusal_number : Refusal → ℕ
refusal_number AreaTooShort = 101
refusal_number TimeBeyondRange = 111
refusal_number ClockBackward = 112

-- a report area has at least 4,096 octets
abbrev pub too_short : List ℕ → Bool
too_short area = nat_lt (length area) 4096

-- an accepted request, without references
pub record Held : Type 0 where
  pub name : List ℕ
  pub ack : Ack
  pub asked : Asked

abbrev pub held_in : Accepted → Held
held_in a = record { name = a.name; ack = a.telecommand.ack; asked = asked_in a.telecommand.request }

abbrev pub holds : List ℕ → Told → Held
holds p t = record { name = name_of p; ack = t.ack; asked = t.asked }

-- what becomes of a received request
pub data Accepting : Type 0 where
  lacks_room : Accepting
  rejects : Rejection → Accepting
  accepts : Held → Accepting

abbrev pub judged : List ℕ → Result Told Rejection → Accepting
judged p (Ok t) = accepts (holds p t)
judged p (Err r) = rejects r

abbrev pub room_answer : List ℕ → Result (Unit {0}) Refusal
room_answer area = cond (too_short area) (Err AreaTooShort) (Ok tt)

abbrev pub accepting : List ℕ → List ℕ → Accepting
accepting p area = cond (too_short area) lacks_room (judged p (request_of p))

-- acceptance alone
abbrev pub accept_reports : List ℕ → Accepting → List Content
accept_reports p lacks_room = []
accept_reports p (rejects r) = rejection_of r (name_of p)
accept_reports p (accepts h) = acceptance_of h.ack h.name

-- completion alone
abbrev pub finish_reports : (ℕ → Bool) → (ℕ → Bool) → Held → List Content
finish_reports subschedules apids h = data_of subschedules apids h.asked ++ completion_of h.ack h.name

-- both in one call
abbrev pub whole_reports : (ℕ → Bool) → (ℕ → Bool) → List ℕ → Accepting → List Content
whole_reports subschedules apids p lacks_room = []
whole_reports subschedules apids p (rejects r) = rejection_of r (name_of p)
whole_reports subschedules apids p (accepts h) = acceptance_of h.ack h.name ++ finish_reports subschedules apids h

abbrev pub whole_state : State → Accepting → State
whole_state s lacks_room = s
whole_state s (rejects r) = s
whole_state s (accepts h) = carried s h.asked

abbrev pub answered : State → List Content → Outcome → Answer
answered s rs o = record { outcome = o; written = length (octets_of s rs) }

-- the answer of acceptance: the request moves on, or ends, or keeps its state
pub data Accepted' : Type 0 where
  moves_on : Held → Answer → Accepted'
  ends : Answer → Accepted'
  stays : List ℕ → Accepted'

abbrev pub accept_answer : State → List ℕ → Accepting → Accepted'
accept_answer s p lacks_room = stays p
accept_answer s p (rejects r) = ends (answered s (rejection_of r (name_of p)) (Rejected r))
accept_answer s p (accepts h) = moves_on h (answered s (acceptance_of h.ack h.name) WasAccepted)

-- a verdict is an answer, and the request where it was accepted
abbrev pub verdict : Option Accepted → Answer → Accepted'
verdict (Some a) n = moves_on (held_in a) n
verdict None n = ends n

abbrev pub verdict_in : Acceptance → Accepted'
verdict_in a = verdict a.accepted a.answer

abbrev pub meant_acceptance : Result Acceptance Received → Accepted'
meant_acceptance (Ok a) = verdict_in a
meant_acceptance (Err r) = stays r.octets.now

abbrev pub whole_answer : State → List ℕ → Accepting → Result Answer Refusal
whole_answer s p lacks_room = Err AreaTooShort
whole_answer s p (rejects r) = Ok (answered s (rejection_of r (name_of p)) (Rejected r))
whole_answer s p (accepts h) = Ok (answered s (acceptance_of h.ack h.name ++ finish_reports s.subschedules s.apids h) (Done 0))

-- the answer of completion: done, or the request keeps its state
abbrev pub finish_answer : State → Held → List ℕ → Result Answer Held
finish_answer s h area = cond (too_short area) (Err h) (Ok (answered s (finish_reports s.subschedules s.apids h) (Done 0)))

abbrev pub finish_area : State → Held → List ℕ → List ℕ
finish_area s h area = cond (too_short area) area (area_after s (finish_reports s.subschedules s.apids h) area)

abbrev pub finish_state : State → Held → List ℕ → State
finish_state s h area = cond (too_short area) s (counted (carried s h.asked) (finish_reports s.subschedules s.apids h))

abbrev pub meant_completion : Result Completed Accepted → Result Answer Held
meant_completion (Ok c) = Ok c.answer
meant_completion (Err a) = Err (held_in a)
