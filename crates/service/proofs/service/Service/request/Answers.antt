use Rattle.std.proofs.Common.{ℕ, ◌+◌, ◌-◌, ◌≤◌, List, length, Ok, take, drop, sym, ap, ◌∙◌, subst, arith, rules}
use borrow.Rule.Slice.PartMut.{put_mid}
use Rattle.request.specs.Request.{request_of}
use Rattle.service.specs.declared.answer.Outcome.TheVariants.{Done}
use Rattle.service.specs.declared.answer.Answer.{Answer}
use Rattle.service.specs.State.{State, view, counted, carried, subschedules_after, apids_after}
use Rattle.service.specs.Reports.{acceptance_of, area_after, Gives}
use Rattle.service.specs.Requests.{Held, held_in, judged, accept_reports, finish_reports, verdict}
use Rattle.service.proofs.Lists.{and_then}
use Rattle.service.proofs.Cases.{judges, Answers, ended, accepted, done}
use Rattle.service.proofs.service.Service.request.Goals as goal

-- It was rejected.
pub returns-in-None : goal.returns-in-None
returns-in-None c =
    let s : State = view c.args.self.now in
    let p : List ℕ = c.args.octets.now in
    let area : List ℕ = c.args.area.now in
    let a = c.receive.result.answer in
    let big : 4096 ≤ length area = search rules in
    let said = ap (λ o. verdict o a) (sym c.in-None.is) ∙ c.receive.ensures.answer in
    let r = ended s p (judged p (request_of p)) a area c.receive.new.area (view c.receive.new.self) said c.receive.ensures.area c.receive.ensures.state in
    let all = subst (Answers s p (view c.receive.new.self) area c.receive.new.area (Ok a)) (judges p area big) r in
    record { answer = all.0; area = all.1; state = all.2 }

-- It was accepted, and is completed.
pub returns-in-Some : goal.returns-in-Some
returns-in-Some c =
    let s : State = view c.args.self.now in
    let p : List ℕ = c.args.octets.now in
    let area : List ℕ = c.args.area.now in
    let h : Held = held_in c.in-Some.request in
    let a : List ℕ = c.receive.new.area in
    let at : ℕ = c.receive.result.answer.written in
    let b : List ℕ = c.finish-n.new.part in
    let n : ℕ = c.finish-n.result in
    let end : State = view c.finish-n.new.self in
    let big : 4096 ≤ length area = search rules in
    let said = ap (λ o. verdict o c.receive.result.answer) (sym c.in-Some.is) ∙ c.receive.ensures.answer in
    let first = accepted s p (judged p (request_of p)) h c.receive.result.answer said in
    let gives = subst (λ (z : State). Gives z (carried z h.asked) (finish_reports z.subschedules z.apids h) (take (length a - at) (drop at a)) b end n)
    (c.receive.ensures.state ∙ ap (λ x. counted s (accept_reports p x)) first.0) c.finish-n.ensures.gives in
    let both =
    and_then s s.subschedules s.apids (subschedules_after h.asked s.subschedules) (apids_after h.asked s.apids)
    (acceptance_of h.ack h.name) (finish_reports s.subschedules s.apids h) area a b at n end (ap (λ (z : Answer). z.written) first.1)
    (c.receive.ensures.area ∙ ap (λ x. area_after s (accept_reports p x) area) first.0) (omega arith) gives in
    let r = done s p h area (put_mid at (length a - at) a b) end (at + n) both in
    let all = subst (Answers s p end area (put_mid at (length a - at) a b) (Ok (record { outcome = Done 0; written = at + n })))
    (sym first.0 ∙ judges p area big) r in
    record { answer = all.0; area = all.1; state = all.2 }
