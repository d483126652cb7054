use Rattle.std.proofs.Common.{ℕ, List, length, drop, ap, ◌∙◌}
use Rattle.report.specs.Report.{Content, content_of, report_of, read_of}
use Rattle.report.proofs.ReadBack.{reads_back}
use Rattle.report.proofs.Draft.write.Goals as goal

-- What is laid down reads back.
pub returns-clause-read_back : goal.returns-clause-read_back
returns-clause-read_back c _ =
    let content : Content = content_of c.args.self.now.kind c.args.self.now.body.now in
    let report : List ℕ = report_of c.args.self.now.stamp.sequence_count c.args.self.now.stamp.clock content in
    ap read_of c.lay.ensures.part
    ∙ reads_back c.args.self.now.stamp.sequence_count c.args.self.now.stamp.clock content (drop (length report) c.args.part.now) c.if-self-gt-MAX_BODY.false
