use Rattle.std.proofs.Common.{rules}
use Rattle.schedule.specs.Slots.{each}
use Rattle.timeline.proofs.timeline.Timeline.reset.Goals as goal

pub returns : goal.returns
returns c = let ended = c.end_all.ensures each (λ x b h. search rules) in search rules
