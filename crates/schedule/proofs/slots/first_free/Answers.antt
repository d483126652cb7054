use Rattle.std.proofs.Common.{rules, tests, ◌∙◌}
use Rattle.std.specs.Option.{is_none}
use Rattle.std.proofs.lemmas.Iterator.{YieldsList-from_slice}
use Rattle.std.proofs.lemmas.Iterator.Search.{position_from_yields_List}
use Rattle.schedule.proofs.Free.{position_free}
use Rattle.schedule.proofs.slots.first_free.Goals as goal

pub returns : goal.returns
returns c =
    position_from_yields_List is_none _ _ _ c.position.ensures.ran (YieldsList-from_slice c.args.slots.now cc) (λ x b q k. search (rules, tests)) ∙ position_free c.args.slots.now
