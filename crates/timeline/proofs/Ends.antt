-- One slot more, where the pending commands that a predicate names are ended
use Rattle.std.proofs.Common.{◌≡◌, ℕ, ◌+◌, ◌-◌, ◌<◌, Bool, true, false, cond, List, ◌++◌, map, length, get_or, take, drop, set, None, count_by, Option, sym, ap, ◌∙◌, arith}
use Rattle.std.proofs.lemmas.List.{get_or-append_right, length-map, length-take-le, get_or-drop}
use Rattle.std.proofs.lemmas.List.Edits.{map_over_more}
use Rattle.std.proofs.lemmas.List.Sums.{count_by_more_yes, count_by_more_no}
use Rattle.schedule.specs.Slots.{hit, dropped}

module _ {X : Type 0} (f : X → Bool) (xs ys : List (Option X)) (i n : ℕ) (x : Option X) (lt : i < length xs)
    (count : n ≡ count_by (hit f) (take i xs)) (inv : ys ≡ map (dropped f) (take i xs) ++ drop i xs) (read : x ≡ get_or ys i x) where
  was : get_or xs i x ≡ x
  was =
      let n : length (map (dropped f) (take i xs)) ≡ i = length-map (take i xs) (dropped f) ∙ length-take-le i xs (omega arith) in
      sym (read ∙ (ap (λ z. get_or z i x) inv ∙ (get_or-append_right (map (dropped f) (take i xs)) (drop i xs) i i x n (omega arith) ∙ (get_or-drop i xs (i - i) x ∙ ap (λ z. get_or xs z x) (omega arith)))))

  written : (b : Bool) → hit f x ≡ b → set ys i (cond b None x) ≡ map (dropped f) (take (i + 1) xs) ++ drop (i + 1) xs
  written b h = ap (λ t. set ys i (cond t None x)) (sym h) ∙ map_over_more (dropped f) xs ys i x lt inv read

  -- the slot holds one of them
  pub ended : hit f x ≡ true → (n + 1 ≡ count_by (hit f) (take (i + 1) xs)) × (set ys i None ≡ map (dropped f) (take (i + 1) xs) ++ drop (i + 1) xs)
  ended h = ((let m = count_by_more_yes (hit f) xs i x lt (ap (hit f) was ∙ h) in omega arith), written true h)

  -- it holds none of them
  pub kept : hit f x ≡ false → (n ≡ count_by (hit f) (take (i + 1) xs)) × (set ys i (get_or ys i x) ≡ map (dropped f) (take (i + 1) xs) ++ drop (i + 1) xs)
  kept h = ((let m = count_by_more_no (hit f) xs i x lt (ap (hit f) was ∙ h) in omega arith), ap (set ys i) (sym read) ∙ written false h)
