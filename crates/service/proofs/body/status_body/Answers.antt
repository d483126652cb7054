use Rattle.std.proofs.Common.{◌≡◌, ℕ, ◌+◌, ◌-◌, ◌*◌, ◌/◌, ◌≤◌, List, ◌∷◌, ◌++◌, length, replicate, take, set, sym, refl, ap, ◌∙◌, arith, length-set, length-take}
use borrow.Rule.Slice.PartMut.{put_mid, mid_of, mid_len, same_len_mid}
use Rattle.std.proofs.lemmas.List.{take_all}
use Rattle.packet.specs.Octets.{words}
use Rattle.packet.proofs.Octets.{length-words}
use Rattle.status.specs.Status.{subschedules_on, apids_on}
use Rattle.status.specs.Switches.{flagged, unwords}
use Rattle.service.proofs.StatusBody.{laid, flags}
use Rattle.service.proofs.body.status_body.Goals as goal

pub returns : goal.returns
returns c =
    let xs : List ℕ = c.args.names.subschedules.now in
    let ys : List ℕ = c.args.names.apids.now in
    let n₁ : ℕ = length xs / 2 in
    let n₂ : ℕ = length ys / 2 in
    let out : List ℕ = replicate 236 0 in
    let f₁ : List ℕ = c.flag.new.out in
    let f₂ : List ℕ = c.flag-2.new.out in
    let u₁ : List ℕ = unwords (flagged (subschedules_on c.args.status.now) (words xs)) in
    let u₂ : List ℕ = unwords (flagged (apids_on c.args.status.now) (words ys)) in
    let x₀ : List ℕ = set (set out 0 n₁) 1 n₂ in
    let x₁ : List ℕ = put_mid 2 (2 + n₁ * 2 - 2) x₀ f₁ in
    let size : length out ≡ 236 = refl in
    let size₀ : length x₀ ≡ 236 = length-set (set out 0 n₁) 1 n₂ ∙ length-set out 0 n₁ ∙ size in
    let p₁ : length (mid_of 2 (2 + n₁ * 2 - 2) x₀) ≡ n₁ * 2 = mid_len 2 (2 + n₁ * 2) x₀ (omega arith) ∙ omega arith in
    let l₁ : length f₁ ≡ n₁ * 2 = c.flag.auto.out ∙ p₁ in
    let size₁ : length x₁ ≡ 236 = same_len_mid 2 (2 + n₁ * 2 - 2) x₀ f₁ c.flag.auto.out ∙ size₀ in
    let p₂ : length (mid_of (2 + n₁ * 2) ((2 + n₁ * 2) + n₂ * 2 - (2 + n₁ * 2)) x₁) ≡ n₂ * 2 = mid_len (2 + n₁ * 2) ((2 + n₁ * 2) + n₂ * 2) x₁ (omega arith) ∙ omega arith in
    let l₂ : length f₂ ≡ n₂ * 2 = c.flag-2.auto.out ∙ p₂ in
    let e₁ : f₁ ≡ u₁ = flags (subschedules_on c.args.status.now) xs _ f₁ (n₁ * 2) refl p₁ c.flag.ensures in
    let e₂ : f₂ ≡ u₂ = flags (apids_on c.args.status.now) ys _ f₂ (n₂ * 2) refl p₂ c.flag-2.ensures in
    let end : ℕ = (2 + n₁ * 2) + n₂ * 2 in
    let all : List ℕ = put_mid (2 + n₁ * 2) (end - (2 + n₁ * 2)) x₁ f₂ in
    let whole : take end all ≡ n₁ ∷ n₂ ∷ (f₁ ++ f₂) = laid out n₁ n₂ f₁ f₂ (2 + n₁ * 2) end (omega arith) (omega arith) (omega arith) in
    let short : length (take end all) ≤ 236 = omega (arith, length-take end all) in
    c.new.ensures.octets
    ∙ take_all 236 (take end all) short
    ∙ whole
    ∙ ap (λ (l : List ℕ). n₁ ∷ n₂ ∷ (l ++ f₂)) e₁ ∙ ap (λ (l : List ℕ). n₁ ∷ n₂ ∷ (u₁ ++ l)) e₂
    ∙ ap (λ (k : ℕ). k ∷ n₂ ∷ (u₁ ++ u₂)) (sym (length-words xs)) ∙ ap (λ (k : ℕ). length (words xs) ∷ k ∷ (u₁ ++ u₂)) (sym (length-words ys))
