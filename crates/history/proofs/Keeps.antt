-- Each call keeps the history: what the session is afterwards is what the calls and replies say
use Rattle.std.proofs.Common.{◌≡◌, ℕ, ◌+◌, ◌%◌, ◌^◌, Bool, true, false, cond, ltb, List, [], ◌∷◌, ◌++◌, length, Some, None, Ok, Err, Option, Result, sym, refl, ap, ◌∙◌, subst, arith}
use Rattle.report.specs.Report.{Content}
use Rattle.request.specs.declared.rejection.Rejection.{Rejection}
use Rattle.request.specs.Request.{Told, request_of}
use Rattle.service.specs.declared.answer.Refusal.TheVariants.{TimeBeyondRange, ClockBackward}
use Rattle.service.specs.State.{State, count_after, counted, clocked, carried}
use Rattle.service.specs.Requests.{Held, lacks_room, judged, too_short, accept_reports, whole_reports, whole_state, accept_answer, whole_answer, finish_reports, answered}
use Rattle.history.specs.declared.call.Reply.{Reply}
use Rattle.service.specs.declared.answer.Outcome.TheVariants.{Done}
use Rattle.history.specs.Log.{Call, requests, accepts, completes, sets_clock, Entry, Log, noted}
use Rattle.history.specs.Session.{Machine, held_at, ended, whole_reply, accept_reply, accept_held, finish_reply, clock_reply, complete_reply, complete_state, complete_held, step_reply, step_area, step_state, step_held, step_machine, Steps}
use Rattle.history.specs.Meaning.{if_done, if_accepted, if_answered, if_set, held_by, asked_of, subschedules_by, apids_by, finished_by, clock_of, still_accepted, given, reports_given, state_of}
use Rattle.history.specs.Promise.{after_all, Lawful, History}
use Rattle.history.proofs.Laws.{one_more, clock_rises, reports_numbered}

-- sequence counts go round at 16384
count_given : (g : ℕ) (rs : List Content) → count_after (g % 16384) rs ≡ (g + length rs) % 16384
count_given g [] = ap (λ n. n % 16384) (let e : g ≡ g + 0 = omega arith in e)
count_given g (r ∷ rs) =
    ap (λ n. count_after n rs) (one_more g) ∙ count_given (g + 1) rs
    ∙ ap (λ n. n % 16384) (let e : g + 1 + length rs ≡ g + length (r ∷ rs) = omega arith in e)

-- a state whose count is what some reports make of it
abbrev after : State → List Content → (ℕ → Bool) → (ℕ → Bool) → State
after s rs f g = record { clock = s.clock; count = count_after s.count rs; subschedules = f; apids = g }

module _ (s : State) (p : List ℕ) where
  whole_state_kept : (b : Bool) (r : Result Told Rejection) →
      counted (whole_state s (cond b lacks_room (judged p r))) (whole_reports s.subschedules s.apids p (cond b lacks_room (judged p r)))
      ≡ after s (if_answered (whole_reply (whole_answer s p (cond b lacks_room (judged p r)))) (whole_reports s.subschedules s.apids p (judged p r)) [])
      (subschedules_by (if_done (whole_reply (whole_answer s p (cond b lacks_room (judged p r)))) (asked_of (held_by p r)) None) s.subschedules)
      (apids_by (if_done (whole_reply (whole_answer s p (cond b lacks_room (judged p r)))) (asked_of (held_by p r)) None) s.apids)
  whole_state_kept true r = refl
  whole_state_kept false (Ok t) = refl
  whole_state_kept false (Err e) = refl

  accept_state_kept : (b : Bool) (r : Result Told Rejection) →
      counted s (accept_reports p (cond b lacks_room (judged p r)))
      ≡ after s (if_answered (accept_reply (accept_answer s p (cond b lacks_room (judged p r)))) (accept_reports p (judged p r)) []) s.subschedules s.apids
  accept_state_kept true r = refl
  accept_state_kept false (Ok t) = refl
  accept_state_kept false (Err e) = refl

  accept_held_kept : (b : Bool) (r : Result Told Rejection) →
      accept_held (accept_answer s p (cond b lacks_room (judged p r))) ≡ if_accepted (accept_reply (accept_answer s p (cond b lacks_room (judged p r)))) (held_by p r) None
  accept_held_kept true r = refl
  accept_held_kept false (Ok t) = refl
  accept_held_kept false (Err e) = refl

module _ (s : State) where
  -- a completion of what is held, by whether the area is too short
  finish_state_kept : (h : Held) (b : Bool) →
      cond b s (counted (carried s h.asked) (finish_reports s.subschedules s.apids h))
      ≡ after s (if_answered (finish_reply (cond b (Err h) (Ok (answered s (finish_reports s.subschedules s.apids h) (Done 0))))) (finish_reports s.subschedules s.apids h) [])
      (subschedules_by (if_done (finish_reply (cond b (Err h) (Ok (answered s (finish_reports s.subschedules s.apids h) (Done 0))))) (Some h.asked) None) s.subschedules)
      (apids_by (if_done (finish_reply (cond b (Err h) (Ok (answered s (finish_reports s.subschedules s.apids h) (Done 0))))) (Some h.asked) None) s.apids)
  finish_state_kept h true = refl
  finish_state_kept h false = refl

  finish_held_kept : (h : Held) (b : Bool) (xs ys : List (Option Held)) →
      cond b xs ys ≡ if_done (finish_reply (cond b (Err h) (Ok (answered s (finish_reports s.subschedules s.apids h) (Done 0))))) ys xs
  finish_held_kept h true xs ys = refl
  finish_held_kept h false xs ys = refl

  complete_state_kept : (o : Option Held) (area : List ℕ) →
      complete_state s o area
      ≡ after s (if_answered (complete_reply s o area) (finished_by s.subschedules s.apids o) [])
      (subschedules_by (if_done (complete_reply s o area) (asked_of o) None) s.subschedules) (apids_by (if_done (complete_reply s o area) (asked_of o) None) s.apids)
  complete_state_kept None area = refl
  complete_state_kept (Some h) area = finish_state_kept h (too_short area)

  complete_held_kept : (o : Option Held) (k : ℕ) (area : List ℕ) (xs : List (Option Held)) →
      complete_held k o area xs ≡ if_done (complete_reply s o area) (ended k xs) xs
  complete_held_kept None k area xs = refl
  complete_held_kept (Some h) k area xs = finish_held_kept h (too_short area) xs (ended k xs)

  clock_state : (t : ℕ) (b d : Bool) →
      cond b (cond d s (clocked s t)) s
      ≡ record {
        clock = if_set (clock_reply (cond b (cond d (Err ClockBackward) (Ok tt)) (Err TimeBeyondRange))) t s.clock;
        count = s.count;
        subschedules = s.subschedules;
        apids = s.apids;
      }
  clock_state t true true = refl
  clock_state t true false = refl
  clock_state t false d = refl

-- the machine after one more call is what the log with that call says
module _ (h : Log) where
  abbrev s₀ : State
  s₀ = state_of h

  -- the count of the reports given
  counts : (e : Entry) (t : ℕ) (f g : ℕ → Bool) →
      ◌≡◌ {A = State} (record { clock = t; count = count_after (reports_given h % 16384) (given h e); subschedules = f; apids = g })
      (record { clock = t; count = reports_given (e ∷ h) % 16384; subschedules = f; apids = g })
  counts e t f g = ap (λ (n : ℕ). record { clock = t; count = n; subschedules = f; apids = g }) (count_given (reports_given h) (given h e))

  abbrev entry : Call → List ℕ → Entry
  entry c area = record { call = c; before = area; reply = step_reply (after_all h) c area; after = step_area (after_all h) c area }

  pub state_kept : (c : Call) (area : List ℕ) → step_state (after_all h) c area ≡ state_of (entry c area ∷ h)
  state_kept (requests p) area = whole_state_kept s₀ p (too_short area) (request_of p) ∙ counts (entry (requests p) area) _ _ _
  state_kept (accepts p) area = accept_state_kept s₀ p (too_short area) (request_of p) ∙ counts (entry (accepts p) area) _ _ _
  state_kept (completes k) area = complete_state_kept s₀ (held_at k (still_accepted h)) area ∙ counts (entry (completes k) area) _ _ _
  state_kept (sets_clock t) area = clock_state s₀ t (ltb t (2 ^ 48)) (ltb t (clock_of h)) ∙ counts (entry (sets_clock t) area) _ _ _

  pub held_kept : (c : Call) (area : List ℕ) → step_held (after_all h) c area ≡ still_accepted (entry c area ∷ h)
  held_kept (requests p) area = refl
  held_kept (accepts p) area = ap (λ (o : Option Held). still_accepted h ++ o ∷ []) (accept_held_kept s₀ p (too_short area) (request_of p))
  held_kept (completes k) area = complete_held_kept s₀ (held_at k (still_accepted h)) k area (still_accepted h)
  held_kept (sets_clock t) area = refl

  pub kept : (c : Call) (area : List ℕ) → Lawful h → History (entry c area ∷ h) (step_machine (after_all h) c area)
  kept c area lawful =
      record {
        lawful = (record { reply = refl; area = refl }, lawful);
        agrees = λ i. record { state = state_kept c area i; held = held_kept c area i };
        clock = clock_rises (entry c area ∷ h) (record { reply = refl; area = refl }, lawful);
        reports = reports_numbered (entry c area ∷ h) (record { reply = refl; area = refl }, lawful);
      }

-- one call on a machine that agrees with a history, by what the call said of itself
pub stepped : (h : Log) (m end : Machine) (c : Call) (area : List ℕ) (reply : Reply) (after : List ℕ) →
    Steps m c area end reply after → History h m → History (noted c area reply after h) end
stepped h m end c area reply after steps history =
    let e₁ : reply ≡ step_reply (after_all h) c area = steps.reply_is ∙ ap (λ (n : Machine). step_reply n c area) history.agrees in
    let e₂ : after ≡ step_area (after_all h) c area = steps.area_is ∙ ap (λ (n : Machine). step_area n c area) history.agrees in
    let e₃ : end ≡ step_machine (after_all h) c area = steps.machine_is ∙ ap (λ (n : Machine). step_machine n c area) history.agrees in
    subst (λ (n : Machine). History (noted c area reply after h) n) (sym e₃)
    (subst (λ (r : Reply). History (noted c area r after h) (step_machine (after_all h) c area)) (sym e₁)
    (subst (λ (l : List ℕ). History (noted c area (step_reply (after_all h) c area) l h) (step_machine (after_all h) c area)) (sym e₂)
    (kept h c area history.lawful)))

-- before the first call
pub start : History [] (after_all [])
start = record { lawful = tt; agrees = refl; clock = clock_rises [] tt; reports = refl }
