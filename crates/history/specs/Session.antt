-- One call on a service and the requests that it has accepted
use Rattle.std.specs.Prelude.{◌≡◌, ℕ, zero, suc, ◌+◌, Bool, cond, List, [], ◌∷◌, ◌++◌, map, Some, None, Ok, Err, vec_items, Option, Result, slice_index_or, slice_set}
use Rattle.service.specs.declared.answer.Answer.{Answer}
use Rattle.service.specs.declared.answer.Refusal.{Refusal}
use Rattle.service.specs.declared.answer.Refusal.TheVariants.{AreaTooShort}
use Rattle.service.specs.declared.states.Accepted.{Accepted}
use Rattle.service.specs.State.{State, view, counted}
use Rattle.service.specs.Reports.{area_after}
use Rattle.service.specs.Requests.{Held, held_in, too_short, accepting, accept_reports, whole_reports, whole_state, Accepted', moves_on, ends, stays, accept_answer, whole_answer, finish_answer, finish_area, finish_state}
use Rattle.service.specs.Clock.{clock_answer, clock_after}
use Rattle.history.specs.declared.call.Reply.{Reply}
use Rattle.history.specs.declared.call.Reply.TheVariants.{Answered, ClockSet, Refused, NoSuchRequest}
use Rattle.history.specs.declared.session.Session.{Session}
use Rattle.history.specs.Log.{Call, requests, accepts, completes, sets_clock}

-- the service's state, and for each acceptance asked for the request, where it is still accepted
pub record Machine : Type 0 where
  pub state : State
  pub held : List (Option Held)

abbrev pub held_slot : Option Accepted → Option Held
held_slot None = None
held_slot (Some a) = Some (held_in a)

abbrev pub held_slots : List (Option Accepted) → List (Option Held)
held_slots xs = map held_slot xs

abbrev pub machine_of : Session → Machine
machine_of s = record { state = view s.service; held = held_slots (vec_items s.accepted) }

-- the request of the k-th acceptance, counted from 1
abbrev pub held_at : ℕ → List (Option Held) → Option Held
held_at zero xs = None
held_at (suc k) xs = slice_index_or xs k None

-- that request is accepted no more
abbrev pub ended : ℕ → List (Option Held) → List (Option Held)
ended zero xs = xs
ended (suc k) xs = slice_set xs k None

abbrev pub whole_reply : Result Answer Refusal → Reply
whole_reply (Ok a) = Answered a
whole_reply (Err r) = Refused r

abbrev pub accept_reply : Accepted' → Reply
accept_reply (moves_on h a) = Answered a
accept_reply (ends a) = Answered a
accept_reply (stays p) = Refused AreaTooShort

abbrev pub accept_held : Accepted' → Option Held
accept_held (moves_on h a) = Some h
accept_held (ends a) = None
accept_held (stays p) = None

abbrev pub finish_reply : Result Answer Held → Reply
finish_reply (Ok a) = Answered a
finish_reply (Err h) = Refused AreaTooShort

abbrev pub clock_reply : Result (Unit {0}) Refusal → Reply
clock_reply (Ok u) = ClockSet
clock_reply (Err r) = Refused r

-- the request that can be completed: there is none, or the area is too short for it
abbrev pub can_complete : Option Held → Bool → Result Held Reply
can_complete None short = Err NoSuchRequest
can_complete (Some h) short = cond short (Err (Refused AreaTooShort)) (Ok h)

-- a request taken out, without references
abbrev pub taken : Result Accepted Reply → Result Held Reply
taken (Ok a) = Ok (held_in a)
taken (Err r) = Err r

-- the reply to each call
abbrev pub complete_reply : State → Option Held → List ℕ → Reply
complete_reply s None area = NoSuchRequest
complete_reply s (Some h) area = finish_reply (finish_answer s h area)

abbrev pub step_reply : Machine → Call → List ℕ → Reply
step_reply m (requests p) area = whole_reply (whole_answer m.state p (accepting p area))
step_reply m (accepts p) area = accept_reply (accept_answer m.state p (accepting p area))
step_reply m (completes k) area = complete_reply m.state (held_at k m.held) area
step_reply m (sets_clock t) area = clock_reply (clock_answer m.state.clock t)

-- the area after it
abbrev pub complete_area : State → Option Held → List ℕ → List ℕ
complete_area s None area = area
complete_area s (Some h) area = finish_area s h area

abbrev pub step_area : Machine → Call → List ℕ → List ℕ
step_area m (requests p) area = area_after m.state (whole_reports m.state.subschedules m.state.apids p (accepting p area)) area
step_area m (accepts p) area = area_after m.state (accept_reports p (accepting p area)) area
step_area m (completes k) area = complete_area m.state (held_at k m.held) area
step_area m (sets_clock t) area = area

-- what the service is after it
abbrev pub complete_state : State → Option Held → List ℕ → State
complete_state s None area = s
complete_state s (Some h) area = finish_state s h area

abbrev pub step_state : Machine → Call → List ℕ → State
step_state m (requests p) area = counted (whole_state m.state (accepting p area)) (whole_reports m.state.subschedules m.state.apids p (accepting p area))
step_state m (accepts p) area = counted m.state (accept_reports p (accepting p area))
step_state m (completes k) area = complete_state m.state (held_at k m.held) area
step_state m (sets_clock t) area = clock_after m.state t

abbrev pub complete_held : ℕ → Option Held → List ℕ → List (Option Held) → List (Option Held)
complete_held k None area xs = xs
complete_held k (Some h) area xs = cond (too_short area) xs (ended k xs)

abbrev pub step_held : Machine → Call → List ℕ → List (Option Held)
step_held m (requests p) area = m.held
step_held m (accepts p) area = m.held ++ accept_held (accept_answer m.state p (accepting p area)) ∷ []
step_held m (completes k) area = complete_held k (held_at k m.held) area m.held
step_held m (sets_clock t) area = m.held

abbrev pub step_machine : Machine → Call → List ℕ → Machine
step_machine m c area = record { state = step_state m c area; held = step_held m c area }

-- one call: its reply, the area and the machine after it
pub record Steps (m : Machine) (c : Call) (before : List ℕ) (end : Machine) (reply : Reply) (after : List ℕ) : Type 0 where
  pub reply_is : reply ≡ step_reply m c before
  pub area_is : after ≡ step_area m c before
  pub machine_is : end ≡ step_machine m c before

-- how many requests are still accepted
abbrev pub left_over : List (Option Held) → ℕ
left_over [] = 0
left_over (None ∷ xs) = left_over xs
left_over (Some h ∷ xs) = left_over xs + 1

-- the area after all of these are completed over it, one after the other
abbrev pub end_area : State → List (Option Held) → List ℕ → List ℕ
end_area s [] area = area
end_area s (None ∷ xs) area = end_area s xs area
end_area s (Some h ∷ xs) area = end_area (finish_state s h area) xs (finish_area s h area)
