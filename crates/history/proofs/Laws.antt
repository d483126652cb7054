-- The laws over whole runs, from the rule of each call
use Rattle.std.proofs.Common.{◌≡◌, ℕ, ◌+◌, ◌%◌, ◌^◌, ◌≤◌, Bool, true, false, cond, ltb, List, [], ◌∷◌, ◌++◌, length, take, Some, None, Ok, Err, Option, Result, sym, refl, ap, ◌∙◌, subst, append_assoc, le_refl, arith, length-append}
use Rattle.std.proofs.lemmas.Bool.{ltb-false}
use Rattle.report.specs.Report.{Content, next_count, report_of, reports_of}
use Rattle.report.proofs.Over.{take-over}
use Rattle.request.specs.declared.rejection.Rejection.{Rejection}
use Rattle.request.specs.Request.{Told, request_of}
use Rattle.service.specs.declared.answer.Outcome.TheVariants.{Done}
use Rattle.service.specs.declared.answer.Refusal.TheVariants.{TimeBeyondRange, ClockBackward}
use Rattle.service.specs.State.{State}
use Rattle.service.specs.Reports.{octets_of, area_after}
use Rattle.service.specs.Requests.{Held, lacks_room, judged, too_short, accept_reports, finish_reports, whole_reports, accept_answer, whole_answer, answered}
use Rattle.history.specs.declared.call.Reply.{Reply}
use Rattle.history.specs.Log.{Call, requests, accepts, completes, sets_clock, Entry, Log}
use Rattle.history.specs.Session.{held_at, whole_reply, accept_reply, finish_reply, clock_reply, complete_reply, complete_area, step_reply, step_area}
use Rattle.history.specs.Meaning.{if_answered, if_set, finished_by, given_by, clock_by, clock_of, still_accepted, enabled_subschedule, enabled_apid, given, reports_given, state_of}
use Rattle.history.specs.Promise.{after_all, Rule, Lawful, ClockRises, written_by, written, at, told, numbered}

-- the clock does not go back with a call
set_later : (t c : ℕ) (b d : Bool) → ltb t c ≡ d →
    c ≤ if_set (clock_reply (cond b (cond d (Err ClockBackward) (Ok tt)) (Err TimeBeyondRange))) t c
set_later t c true true e = le_refl c
set_later t c true false e = ltb-false t c e
set_later t c false d e = le_refl c

call_later : (h : Log) (c : Call) (area : List ℕ) → clock_of h ≤ clock_by c (step_reply (after_all h) c area) (clock_of h)
call_later h (requests p) area = le_refl (clock_of h)
call_later h (accepts p) area = le_refl (clock_of h)
call_later h (completes k) area = le_refl (clock_of h)
call_later h (sets_clock t) area = set_later t (clock_of h) (ltb t (2 ^ 48)) (ltb t (clock_of h)) refl

later : (h : Log) (e : Entry) → Rule h e → clock_of h ≤ clock_of (e ∷ h)
later h e rule = subst (λ (r : Reply). clock_of h ≤ clock_by e.call r (clock_of h)) (sym rule.reply) (call_later h e.call e.before)

rises : (newer older : Log) → Lawful (newer ++ older) → clock_of older ≤ clock_of (newer ++ older)
rises [] older l = le_refl (clock_of older)
rises (e ∷ newer) older l =
    let a = later (newer ++ older) e l.0 in
    let b = rises newer older l.1 in
    omega arith

pub clock_rises : (h : Log) → Lawful h → ClockRises h
clock_rises h l newer older e =
    subst (λ (k : Log). clock_of older ≤ clock_of k) (sym e) (rises newer older (subst Lawful e l))

-- reports given now are numbered on from those before
length_at : (t : ℕ) (cs : List Content) → length (at t cs) ≡ length cs
length_at t [] = refl
length_at t (c ∷ cs) = omega (arith, length_at t cs)

numbered-append : (i : ℕ) (xs ys : List (ℕ × Content)) → numbered i (xs ++ ys) ≡ numbered i xs ++ numbered (i + length xs) ys
numbered-append i [] ys = ap (λ (k : ℕ). numbered k ys) (let e : i ≡ i + 0 = omega arith in e)
numbered-append i (x ∷ xs) ys =
    ap (λ (l : List ℕ). report_of (i % 16384) x.0 x.1 ++ l)
    (numbered-append (i + 1) xs ys ∙ ap (λ (k : ℕ). numbered (i + 1) xs ++ numbered k ys) (let e : i + 1 + length xs ≡ i + length (x ∷ xs) = omega arith in e))
    ∙ sym (append_assoc (report_of (i % 16384) x.0 x.1) (numbered (i + 1) xs) (numbered (i + length (x ∷ xs)) ys))

pub one_more : (g : ℕ) → next_count (g % 16384) ≡ (g + 1) % 16384
one_more g = omega arith

counted_on : (g t : ℕ) (cs : List Content) → reports_of (g % 16384) t cs ≡ numbered g (at t cs)
counted_on g t [] = refl
counted_on g t (c ∷ cs) =
    ap (λ (l : List ℕ). report_of (g % 16384) t c ++ l) (ap (λ (k : ℕ). reports_of k t cs) (one_more g) ∙ counted_on (g + 1) t cs)

-- what a call wrote are the reports that it gave
module _ (s : State) (area : List ℕ) where
  takes_back : (rs : List Content) → take (length (octets_of s rs)) (area_after s rs area) ≡ octets_of s rs
  takes_back rs = take-over (octets_of s rs) area (length (octets_of s rs)) refl

  whole_wrote : (p : List ℕ) (b : Bool) (r : Result Told Rejection) →
      written_by (whole_reply (whole_answer s p (cond b lacks_room (judged p r)))) (area_after s (whole_reports s.subschedules s.apids p (cond b lacks_room (judged p r))) area)
      ≡ octets_of s (if_answered (whole_reply (whole_answer s p (cond b lacks_room (judged p r)))) (whole_reports s.subschedules s.apids p (judged p r)) [])
  whole_wrote p true r = refl
  whole_wrote p false (Ok t) = takes_back (whole_reports s.subschedules s.apids p (judged p (Ok t)))
  whole_wrote p false (Err e) = takes_back (whole_reports s.subschedules s.apids p (judged p (Err e)))

  accept_wrote : (p : List ℕ) (b : Bool) (r : Result Told Rejection) →
      written_by (accept_reply (accept_answer s p (cond b lacks_room (judged p r)))) (area_after s (accept_reports p (cond b lacks_room (judged p r))) area)
      ≡ octets_of s (if_answered (accept_reply (accept_answer s p (cond b lacks_room (judged p r)))) (accept_reports p (judged p r)) [])
  accept_wrote p true r = refl
  accept_wrote p false (Ok t) = takes_back (accept_reports p (judged p (Ok t)))
  accept_wrote p false (Err e) = takes_back (accept_reports p (judged p (Err e)))

  finish_wrote : (h : Held) (b : Bool) →
      written_by (finish_reply (cond b (Err h) (Ok (answered s (finish_reports s.subschedules s.apids h) (Done 0))))) (cond b area (area_after s (finish_reports s.subschedules s.apids h) area))
      ≡ octets_of s (if_answered (finish_reply (cond b (Err h) (Ok (answered s (finish_reports s.subschedules s.apids h) (Done 0))))) (finish_reports s.subschedules s.apids h) [])
  finish_wrote h true = refl
  finish_wrote h false = takes_back (finish_reports s.subschedules s.apids h)

  complete_wrote : (o : Option Held) →
      written_by (complete_reply s o area) (complete_area s o area) ≡ octets_of s (if_answered (complete_reply s o area) (finished_by s.subschedules s.apids o) [])
  complete_wrote None = refl
  complete_wrote (Some h) = finish_wrote h (too_short area)

  clock_wrote : (t : ℕ) (b d : Bool) → written_by (clock_reply (cond b (cond d (Err ClockBackward) (Ok tt)) (Err TimeBeyondRange))) area ≡ []
  clock_wrote t true true = refl
  clock_wrote t true false = refl
  clock_wrote t false d = refl

module _ (h : Log) where
  call_wrote : (c : Call) (area : List ℕ) →
      written_by (step_reply (after_all h) c area) (step_area (after_all h) c area)
      ≡ octets_of (state_of h) (given_by (enabled_subschedule h) (enabled_apid h) (still_accepted h) c (step_reply (after_all h) c area))
  call_wrote (requests p) area = whole_wrote (state_of h) area p (too_short area) (request_of p)
  call_wrote (accepts p) area = accept_wrote (state_of h) area p (too_short area) (request_of p)
  call_wrote (completes k) area = complete_wrote (state_of h) area (held_at k (still_accepted h))
  call_wrote (sets_clock t) area = clock_wrote (state_of h) area t (ltb t (2 ^ 48)) (ltb t (clock_of h))

  wrote : (e : Entry) → Rule h e → written_by e.reply e.after ≡ octets_of (state_of h) (given h e)
  wrote e rule =
      ap (written_by e.reply) rule.area
      ∙ subst (λ (r : Reply). written_by r (step_area (after_all h) e.call e.before) ≡ octets_of (state_of h) (given_by (enabled_subschedule h) (enabled_apid h) (still_accepted h) e.call r))
      (sym rule.reply) (call_wrote e.call e.before)

told_length : (h : Log) → length (told h) ≡ reports_given h
told_length [] = refl
told_length (e ∷ h) = omega (arith, told_length h, length-append (told h) (at (clock_of h) (given h e)), length_at (clock_of h) (given h e))

pub reports_numbered : (h : Log) → Lawful h → written h ≡ numbered 0 (told h)
reports_numbered [] l = refl
reports_numbered (e ∷ h) l =
    ap (λ (w : List ℕ). w ++ written_by e.reply e.after) (reports_numbered h l.1)
    ∙ ap (λ (w : List ℕ). numbered 0 (told h) ++ w)
    (wrote h e l.0 ∙ counted_on (reports_given h) (clock_of h) (given h e)
    ∙ ap (λ (k : ℕ). numbered k (at (clock_of h) (given h e))) (let q : reports_given h ≡ 0 + length (told h) = omega (arith, told_length h) in q))
    ∙ sym (numbered-append 0 (told h) (at (clock_of h) (given h e)))
