use Rattle.std.proofs.Common.{◌≡◌, None, map, vec_items, refl, arith}
use Rattle.std.proofs.lemmas.List.Elements.{All-push}
use Rattle.script.specs.Run.{lent}
use Rattle.script.proofs.Completions.{completion_more}
use Rattle.script.proofs.script.Script.entries.Goals as goal

pub loop-k-preserved : goal.loop-k-preserved
loop-k-preserved c =
    record {
      run = completion_more (map lent (vec_items c.args.self.now.steps)) c.loop-k.k (vec_items c.loop-k.entries) _ _ c.loop-k.invariant.run c.in_ok-push-2.ensures.items refl
          (omega (arith, c.in_ok-vec-2.field-0.ok.0, c.in_ok-vec-2.ensures.len));
      not_made = rw c.in_ok-push-2.ensures.items (All-push (λ e. e.reply ≡ None) _ _ c.loop-k.invariant.not_made refl);
    }
