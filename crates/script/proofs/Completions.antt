-- One more acceptance is completed
use Rattle.std.proofs.Common.{◌≡◌, ℕ, ◌+◌, List, [], ◌∷◌, ◌++◌, map, length, ap, ◌∙◌, append_assoc, add-one}
use Rattle.std.proofs.lemmas.List.{map-append}
use Rattle.history.specs.declared.call.Entry.{Entry}
use Rattle.history.specs.Log.{Call, call_of, area_in, completes}
use Rattle.script.specs.Run.{brought, completions}

pub completion_more : (calls : List (Call × ℕ)) (n : ℕ) (before after : List Entry) (e : Entry) → map brought before ≡ calls ++ completions n →
    after ≡ before ++ e ∷ [] → call_of e ≡ completes (n + 1) → length (area_in e) ≡ 4096 → map brought after ≡ calls ++ completions (n + 1)
completion_more calls n before after e run pushed call area =
    ap (map brought) pushed ∙ map-append brought before (e ∷ [])
    ∙ ap (λ (l : List (Call × ℕ)). l ++ brought e ∷ []) run
    ∙ ap (λ (b : Call × ℕ). (calls ++ completions n) ++ b ∷ []) (let b : brought e ≡ (completes (n + 1), 4096) = λ i. (call i, area i) in b)
    ∙ append_assoc calls (completions n) ((completes (n + 1), 4096) ∷ [])
    ∙ ap (λ (l : List (Call × ℕ)). calls ++ l) (let m : completions n ++ (completes (n + 1), 4096) ∷ [] ≡ completions (n + 1) = rw add-one in m)
