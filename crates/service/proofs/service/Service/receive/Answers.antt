use Rattle.std.proofs.Common.{ℕ, List, length, ap, ◌∙◌}
use Rattle.service.specs.declared.answer.Outcome.TheVariants.{Rejected}
use Rattle.service.specs.State.{view}
use Rattle.service.specs.Reports.{rejection_of, octets_of, area_after}
use Rattle.service.specs.Requests.{judged, ends, accept_answer, accept_reports}
use Rattle.service.proofs.service.Service.receive.Goals as goal

pub returns-in-Err-clause-answer : goal.returns-in-Err-clause-answer
returns-in-Err-clause-answer c =
    let s = view c.args.self.now in
    let p = c.args.octets.now in
    let r = c.in-Err.rejection in
    ap (λ (k : ℕ). ends (record { outcome = Rejected r; written = k })) c.give_rejection-written.ensures.gives.written
    ∙ ap (λ (m : List ℕ). ends (record { outcome = Rejected r; written = length (octets_of s (rejection_of r m)) })) c.name_of-name.ensures
    ∙ ap (λ x. accept_answer s p (judged p x)) c.in-Err.ensures.value

pub returns-in-Err-clause-area : goal.returns-in-Err-clause-area
returns-in-Err-clause-area c =
    let s = view c.args.self.now in
    let p = c.args.octets.now in
    let r = c.in-Err.rejection in
    c.give_rejection-written.ensures.gives.area
    ∙ ap (λ (m : List ℕ). area_after s (rejection_of r m) c.args.area.now) c.name_of-name.ensures
    ∙ ap (λ x. area_after s (accept_reports p (judged p x)) c.args.area.now) c.in-Err.ensures.value
