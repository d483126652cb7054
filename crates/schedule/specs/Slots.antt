-- The slots of the table
use Rattle.std.specs.Prelude.{ℕ, Bool, true, false, cond, List, length, is_some, Some, None, count_by, Option, nat_le}
use Rattle.std.specs.List.{prefix_len}

-- the first free slot, or as many as there are
abbrev pub first_free : {X : Type 0} → List (Option X) → ℕ
first_free xs = prefix_len is_some xs

-- how many commands are pending
abbrev pub pendings : {X : Type 0} → List (Option X) → ℕ
pendings xs = count_by is_some xs

-- the slot for one more command: there is none where as many are pending as there are slots
abbrev pub free_slot : {X : Type 0} → List (Option X) → Option ℕ
free_slot xs = cond (nat_le (length xs) (pendings xs)) None (Some (first_free xs))

-- whether a slot holds a command that is to end
abbrev pub hit : {X : Type 0} → (X → Bool) → Option X → Bool
hit ends None = false
hit ends (Some p) = ends p

abbrev pub dropped : {X : Type 0} → (X → Bool) → Option X → Option X
dropped ends o = cond (hit ends o) None o

-- that each command is to end
abbrev pub each : {X : Type 0} → X → Bool
each x = true
