use Rattle.std.proofs.Common.{◌≡◌, ℕ, true, false, List, [], ◌∷◌, sym, refl, ap, ◌∙◌, subst, arith}
use Rattle.std.proofs.lemmas.Bool.{cond-true, cond-false}
use Rattle.report.specs.declared.ReportKind.TheVariants.{Status}
use Rattle.report.specs.Report.{Content, content_of}
use Rattle.request.specs.Request.{Named, few, names_in}
use Rattle.service.specs.State.{State, view}
use Rattle.service.specs.Reports.{status_body, Gives}
use Rattle.service.proofs.StatusBody.{few_names, many_names}
use Rattle.service.proofs.service.Service.give_status.Goals as goal

pub returns-clause-gives : goal.returns-clause-gives
returns-clause-gives c =
    let s : State = view c.args.self.now in
    let n : Named = names_in c.args.names in
    let body : List ℕ = status_body s.subschedules s.apids n in
    let yes : few n ≡ true = few_names c.args.names.subschedules.now c.args.names.apids.now (omega arith) in
    let whole : c.as_slice.result.now ≡ body = c.as_slice.ensures.value ∙ c.status_body-body.ensures in
    subst (λ (rs : List Content). Gives s s rs c.args.part.now c.give.new.part (view c.give.new.self) c.give.result)
    (ap (λ (b : List ℕ). content_of Status b ∷ []) whole ∙ sym (cond-true (few n) (content_of Status body ∷ []) [] yes)) c.give.ensures.gives

pub returns-then-names-gt117-clause-gives : goal.returns-then-names-gt117-clause-gives
returns-then-names-gt117-clause-gives c =
    let s : State = view c.args.self.now in
    let n : Named = names_in c.args.names in
    let no : few n ≡ false = many_names c.args.names.subschedules.now c.args.names.apids.now (omega arith) in
    subst (λ (rs : List Content). Gives s s rs c.args.part.now c.args.part.now s 0)
    (sym (cond-false (few n) (content_of Status (status_body s.subschedules s.apids n) ∷ []) [] no)) (record { written = refl; area = refl; state = refl })
