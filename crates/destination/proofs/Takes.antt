-- What a take gives and leaves, by what waits
use Rattle.std.proofs.Common.{◌≡◌, ℕ, ◌≤◌, List, [], ◌∷◌, arith}
use Rattle.std.proofs.lemmas.Bool.{le-ltb}
use Rattle.std.proofs.lemmas.Bool.Decides.{nat_tests}
use Rattle.destination.specs.Destination.{given, left}

pub take_none : (n : ℕ) (ws : List (List ℕ)) → ws ≡ [] → (given n ws ≡ []) × (left n ws ≡ ws)
take_none n ws e = rw e (grind (arith, nat_tests))

pub take_one : (n : ℕ) (ws : List (List ℕ)) (p : List ℕ) (ps : List (List ℕ)) → 228 ≤ n → ws ≡ p ∷ ps → (given n ws ≡ p) × (left n ws ≡ ps)
take_one n ws p ps h e = let b = le-ltb n 228 h in (simp (e, b), simp (e, b))
