use Rattle.std.proofs.Common.{◌≡◌, ℕ, ◌+◌, true, List, length, Some, None, Option, sym, ap, ◌∙◌, arith}
use Rattle.std.proofs.lemmas.Bool.{cond-true}
use Rattle.report.specs.Report.{Content, over, fits, report_of, content_of}
use Rattle.report.proofs.Over.{length-report}
use Rattle.report.specs.declared.Stamp.{Stamp}
use Rattle.status.specs.Status.{subschedules_on, apids_on}
use Rattle.service.proofs.Lists.{fits_here, one_report}
use Rattle.service.proofs.service.Service.give.Goals as goal

pub returns-clause-gives : goal.returns-clause-gives
returns-clause-gives c =
    let body : List ℕ = c.args.body.now in
    let room : ℕ = length c.args.part.now in
    let n : ℕ = c.args.self.now.stamp.sequence_count in
    let t : ℕ = c.args.self.now.stamp.clock in
    let content : Content = content_of c.args.kind body in
    let yes : fits room (length body) ≡ true = fits_here room (length body) (omega arith) (omega arith) in
    let some : ◌≡◌ {A = Option ℕ} (Some c.unwrap.result) (Some (18 + length body)) =
    sym c.unwrap.ensures ∙ (c.write.ensures.answer ∙ cond-true (fits room (length body)) (Some (18 + length body)) None yes) in
    let size : c.unwrap.result ≡ 18 + length body = cc in
    let one = one_report n t content in
    record {
      written = size ∙ sym (length-report n t content) ∙ ap length (sym one);
      area =
          c.write.ensures.part
          ∙ cond-true (fits room (length body)) (over (report_of n t content) c.args.part.now) c.args.part.now yes
          ∙ ap (λ (w : List ℕ). over w c.args.part.now) (sym one);
      state =
          ap (λ (s : Stamp). record { clock = s.clock; count = s.sequence_count; subschedules = subschedules_on c.args.self.now.status; apids = apids_on c.args.self.now.status })
          c.next-self.ensures;
    }
