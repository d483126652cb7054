-- Free slots, and how many commands are pending
use Rattle.std.proofs.Common.{◌≡◌, ℕ, ◌+◌, Bool, true, false, cond, not, leb, ltb, List, [], ◌∷◌, length, is_some, Some, None, count_by, position, Option, refl, ap, ◌∙◌, arith}
use Rattle.std.specs.Option.{is_none}
use Rattle.std.specs.List.{prefix_len}
use Rattle.std.proofs.lemmas.List.Sums.{sum_by-cons, count_by-le-length}
use Rattle.std.proofs.lemmas.Bool.Decides.{nat_tests}
use Rattle.schedule.specs.Slots.{first_free, free_slot, pendings}

-- one more element counts by itself
pub count_cons : {X : Type 0} (f : X → Bool) (x : X) (xs : List X) → count_by f (x ∷ xs) ≡ cond (f x) 1 0 + count_by f xs
count_cons f x xs = sum_by-cons (λ y. cond (f y) 1 0) x xs

-- no slot is free where as many are pending as there are slots
none_free : {X : Type 0} (xs : List (Option X)) → leb (length xs) (first_free xs) ≡ leb (length xs) (pendings xs)
none_free [] = refl
none_free (None ∷ xs) = let a = count_by-le-length is_some xs in let b = count_cons is_some None xs in grind (arith, nat_tests)
none_free (Some x ∷ xs) = let a = none_free xs in let b = count_cons is_some (Some x) xs in grind (arith, nat_tests)

twice : (b : Bool) → not (not b) ≡ b
twice true = refl
twice false = refl

-- the first slot that holds none
pub position_free : {X : Type 0} (xs : List (Option X)) → position is_none xs ≡ free_slot xs
position_free {X} xs =
    ap (λ (f : Option X → Bool). cond (ltb (prefix_len f xs) (length xs)) (Some (prefix_len f xs)) None) (λ i o. twice (is_some o) i)
    ∙ turned (length xs) (first_free xs) (pendings xs) (none_free xs)
  where
    turned : (n k p : ℕ) → leb n k ≡ leb n p → cond (ltb k n) (Some k) None ≡ cond (leb n p) None (Some k)
    turned n k p h = grind (arith, nat_tests)
