use Rattle.std.proofs.Common.{rules}
use Rattle.schedule.specs.Covers.{covers}
use Rattle.timeline.proofs.timeline.Timeline.cancel.Goals as goal

pub returns : goal.returns
returns c = let ended = c.end_all.ensures (covers c.args.cancel) (λ x b h. search rules) in search rules
