-- The requests still accepted, the latest first
use Rattle.std.proofs.Common.{◌≡◌, ◌+◌, List, [], ◌∷◌, ◌++◌, reverse, Some, None, Option, sym, ap, ◌∙◌, arith}
use Rattle.std.proofs.lemmas.List.{map-append, reverse-append}
use Rattle.service.specs.declared.states.Accepted.{Accepted}
use Rattle.service.specs.Requests.{Held}
use Rattle.history.specs.Session.{held_slot, held_slots, left_over}

left_append : (xs : List (Option Held)) (o : Option Held) → left_over (xs ++ o ∷ []) ≡ left_over xs + left_over (o ∷ [])
left_append [] o = omega arith
left_append (None ∷ xs) o = left_append xs o
left_append (Some h ∷ xs) o = omega (arith, left_append xs o)

module _ (xs ys : List (Option Accepted)) (x : Option Accepted) (popped : xs ≡ ys ++ x ∷ []) where
  slots : held_slots xs ≡ held_slots ys ++ held_slot x ∷ []
  slots = ap held_slots popped ∙ map-append held_slot ys (x ∷ [])

  pub left_popped : left_over (held_slots xs) ≡ left_over (held_slots ys) + left_over (held_slot x ∷ [])
  left_popped = ap left_over slots ∙ left_append (held_slots ys) (held_slot x)

  pub latest_popped : held_slot x ∷ reverse (held_slots ys) ≡ reverse (held_slots xs)
  latest_popped = sym (ap reverse slots ∙ reverse-append (held_slots ys) (held_slot x ∷ []))
