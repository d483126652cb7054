-- What becomes of a request, by what the area and the verdict said of it
use Rattle.std.proofs.Common.{◌≡◌, ℕ, ◌≤◌, List, ◌++◌, length, Ok, Result, sym, ap}
use Rattle.std.proofs.lemmas.Bool.{cond-false, le-ltb}
use Rattle.request.specs.Request.{request_of}
use Rattle.service.specs.declared.answer.Outcome.TheVariants.{Accepted as WasAccepted, Done}
use Rattle.service.specs.declared.answer.Answer.{Answer}
use Rattle.service.specs.declared.answer.Refusal.{Refusal}
use Rattle.service.specs.State.{State, carried, counted}
use Rattle.service.specs.Reports.{acceptance_of, area_after, Gives}
use Rattle.service.specs.Requests.{Held, Accepting, lacks_room, rejects, accepts, judged, too_short, accepting, accept_reports, finish_reports, whole_reports, whole_state, answered, moves_on, ends, accept_answer, whole_answer}

-- an area with room leaves it to the reader
pub judges : (p area : List ℕ) → 4096 ≤ length area → judged p (request_of p) ≡ accepting p area
judges p area h = sym (cond-false (too_short area) lacks_room (judged p (request_of p)) (le-ltb (length area) 4096 h))

module _ (s : State) (p : List ℕ) where
  -- the three facts of a whole request
  abbrev pub Answers : State → List ℕ → List ℕ → Result Answer Refusal → Accepting → Type 0
  Answers end before after a x =
      (a ≡ whole_answer s p x) × (after ≡ area_after s (whole_reports s.subschedules s.apids p x) before)
      × (end ≡ counted (whole_state s x) (whole_reports s.subschedules s.apids p x))

  -- a rejection ends the request
  pub ended : (x : Accepting) (a : Answer) (before after : List ℕ) (end : State) → ends a ≡ accept_answer s p x
      → after ≡ area_after s (accept_reports p x) before → end ≡ counted s (accept_reports p x) → Answers end before after (Ok a) x
  ended lacks_room a before after end v e w = absurd (let r = v in cc)
  ended (rejects r) a before after end v e w = (cc, e, w)
  ended (accepts h) a before after end v e w = absurd (let r = v in cc)

  -- an acceptance moves it on
  pub accepted : (x : Accepting) (h : Held) (a : Answer) → moves_on h a ≡ accept_answer s p x
      → (x ≡ accepts h) × (a ≡ answered s (acceptance_of h.ack h.name) WasAccepted)
  accepted lacks_room h a v = absurd (let r = v in cc)
  accepted (rejects r) h a v = absurd (let r = v in cc)
  accepted (accepts k) h a v = (cc, cc)

  -- and its completion follows
  pub done : (h : Held) (before after : List ℕ) (end : State) (n : ℕ)
      → Gives s (carried s h.asked) (acceptance_of h.ack h.name ++ finish_reports s.subschedules s.apids h) before after end n
      → Answers end before after (Ok (record { outcome = Done 0; written = n })) (accepts h)
  done h before after end n g = (ap (λ (k : ℕ). Ok (record { outcome = Done 0; written = k })) g.written, g.area, g.state)
