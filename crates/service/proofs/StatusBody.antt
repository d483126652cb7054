-- The body of a status report, laid down piece by piece
use Rattle.std.proofs.Common.{◌≡◌, ℕ, ◌+◌, ◌-◌, ◌*◌, ◌/◌, ◌≤◌, Bool, true, false, cond, eqb, List, [], ◌∷◌, ◌++◌, length, take, set, sym, refl, ap, ◌∙◌, arith, length-append}
use borrow.Rule.Slice.PartMut.{put_mid}
use Rattle.std.proofs.lemmas.Bool.{cond-true, eq-eqb, le-leb, lt-leb}
use Rattle.packet.specs.Octets.{words}
use Rattle.packet.proofs.Octets.{length-words}
use Rattle.report.specs.Report.{over}
use Rattle.report.proofs.Over.{over_put, take-over}
use Rattle.status.specs.Switches.{flagged, unwords}
use Rattle.request.specs.Request.{few}

two_set : (xs : List ℕ) (a b : ℕ) → 2 ≤ length xs → set (set xs 0 a) 1 b ≡ over (a ∷ b ∷ []) xs
two_set [] a b h = absurd (omega arith)
two_set (x ∷ []) a b h = absurd (omega arith)
two_set (x ∷ y ∷ xs) a b h = refl

-- two octets, then two pieces one after the other
pub laid : (out : List ℕ) (a b : ℕ) (f₁ f₂ : List ℕ) (m e : ℕ) → 2 ≤ length out → m ≡ 2 + length f₁ → e ≡ m + length f₂ →
    take e (put_mid m (e - m) (put_mid 2 (m - 2) (set (set out 0 a) 1 b) f₁) f₂) ≡ a ∷ b ∷ (f₁ ++ f₂)
laid out a b f₁ f₂ m e h hm he =
    let w : List ℕ = a ∷ b ∷ [] in
    let x₀ : List ℕ = set (set out 0 a) 1 b in
    let l₁ : length f₁ ≡ m - 2 = omega arith in
    let l₂ : length f₂ ≡ e - m = omega arith in
    let s₁ : put_mid 2 (m - 2) x₀ f₁ ≡ over (w ++ f₁) out = over_put w out x₀ f₁ 2 (m - 2) refl (two_set out a b h) l₁ in
    let q : length (w ++ f₁) ≡ m = omega (arith, length-append w f₁) in
    let s₂ : put_mid m (e - m) (put_mid 2 (m - 2) x₀ f₁) f₂ ≡ over ((w ++ f₁) ++ f₂) out = over_put (w ++ f₁) out (put_mid 2 (m - 2) x₀ f₁) f₂ m (e - m) q s₁ l₂ in
    ap (take e) s₂ ∙ take-over ((w ++ f₁) ++ f₂) out e (let z : length ((w ++ f₁) ++ f₂) ≡ e = omega (arith, length-append (w ++ f₁) f₂, q) in z)

-- what the flags of the numbers in xs leave in a part that has room for just them
pub flags : (f : ℕ → Bool) (xs part out : List ℕ) (k : ℕ) → k ≡ length xs / 2 * 2 → length part ≡ k →
    out ≡ cond (eqb (length xs / 2 * 2) (length part)) (unwords (flagged f (words xs))) part → out ≡ unwords (flagged f (words xs))
flags f xs part out k e l q = q ∙ cond-true (eqb (length xs / 2 * 2) (length part)) (unwords (flagged f (words xs))) part (eq-eqb (length xs / 2 * 2) (length part) (sym (l ∙ e)))

pub few_names : (xs ys : List ℕ) → length xs / 2 + length ys / 2 ≤ 117 → few (record { subschedules = words xs; apids = words ys }) ≡ true
few_names xs ys h = le-leb (length (words xs) + length (words ys)) 117 (omega (arith, length-words xs, length-words ys))

pub many_names : (xs ys : List ℕ) → 118 ≤ length xs / 2 + length ys / 2 → few (record { subschedules = words xs; apids = words ys }) ≡ false
many_names xs ys h = lt-leb (length (words xs) + length (words ys)) 117 (omega (arith, length-words xs, length-words ys))
