-- What it means that slots hold exactly some commands
use Rattle.std.specs.Prelude.{◌≡◌, ℕ, ◌-◌, ◌<◌, Bool, not, List, [], ◌∷◌, ◌++◌, map, filter, length, replicate, Some, None, Option}
use Rattle.schedule.specs.declared.pending.Pending.{Pending}

-- each command in a slot is one of ps, and each of ps is in one slot: taken out one after the other, none is left
abbrev pub Holds : List (Option Pending) → List Pending → Type 0
Holds [] ps = ps ≡ []
Holds (None ∷ xs) ps = Holds xs ps
Holds (Some c ∷ xs) ps = (us : List Pending) × ((vs : List Pending) × ((ps ≡ us ++ c ∷ vs) × Holds xs (us ++ vs)))

-- the serials fall, from below n on
abbrev pub Falls : ℕ → List Pending → Type 0
Falls n [] = Unit {0}
Falls n (c ∷ cs) = (c.serial < n) × Falls c.serial cs

-- those with a property, and those without it
abbrev pub those : (Pending → Bool) → List Pending → List Pending
those f ps = filter f ps

abbrev pub without : (Pending → Bool) → List Pending → List Pending
without f ps = filter (λ p. not (f p)) ps

-- n slots that hold these commands, the free ones behind them
abbrev pub slots_of : ℕ → List Pending → List (Option Pending)
slots_of n ps = map Some ps ++ replicate (n - length ps) None
