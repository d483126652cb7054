-- Ending the pending commands that a predicate names
use Rattle.std.specs.Prelude.{◌≡◌, ℕ, Bool, List, map, count_by, Option}
use Rattle.std.specs.Borrow.{Bor}
use Rattle.std.specs.Fn.{Shared, FnReturnsAt}
use Rattle.schedule.specs.Slots.{hit, dropped}

-- a closure answers what a predicate says
abbrev pub Tells : {F X : Type 0} → Shared F (Bor X × Unit {0}) Bool → F → (X → Bool) → Type 0
Tells {F} {X} g f ends = (x : X) (b : Bool) → FnReturnsAt g f x b → b ≡ ends x

-- those that are to end are counted, and their slots emptied
abbrev pub EndsThose : {X : Type 0} → (X → Bool) → List (Option X) → ℕ → List (Option X) → Type 0
EndsThose ends xs n ys = (n ≡ count_by (hit ends) xs) × (ys ≡ map (dropped ends) xs)
