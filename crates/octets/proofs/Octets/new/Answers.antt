use Rattle.std.proofs.Common.{◌++◌, drop, replicate, ap, ◌∙◌}
use Rattle.octets.specs.Octets.{kept}
use Rattle.octets.proofs.Kept.{same, laid_len, laid_octets}
use Rattle.octets.proofs.Octets.new.Goals as goal

pub returns-clause-value : goal.returns-clause-value
unfolding kept
returns-clause-value g c =
    let most = c.min-len.ensures in
    same _ _ (laid_len g.row.N _ c.args.octets.now most)
    (ap (λ l. l ++ drop c.min-len.result (replicate g.row.N 0)) c.copy_from_slice.ensures.after ∙ laid_octets g.row.N _ c.args.octets.now most)
