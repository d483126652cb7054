use Rattle.std.proofs.Common.{rules, ◌≡◌, ℕ, subst}
use Rattle.std.specs.Option.{option_map}
use Rattle.search.specs.declared.Found.{Found}
use Rattle.bus.specs.Arrival.{Oldest}
use Rattle.bus.proofs.First.{oldest_found}
use Rattle.bus.proofs.arrival.oldest.Goals as goal

pub returns : goal.returns
returns c =
    let k = oldest_found c.args.boxes.now c.requires c.least_from.result c.least_from.ensures.least in
    let e : option_map (λ (f : Found ℕ). f.place) c.least_from.result ≡ c.map.result = search rules in
    subst (Oldest c.args.boxes.now) e k
