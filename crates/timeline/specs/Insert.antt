-- Making a command pending
use Rattle.std.specs.Prelude.{ℕ, ◌+◌, Bool, cond, List, length, Some, Ok, Err, Option, Result, nat_le, slice_set}
use Rattle.schedule.specs.declared.pending.Pending.{Pending}
use Rattle.schedule.specs.Pending.{pended}
use Rattle.schedule.specs.Slots.{first_free, pendings}
use Rattle.timeline.specs.declared.insert_error.InsertError.{InsertError}
use Rattle.timeline.specs.declared.insert_error.InsertError.TheVariants.{TagNotLater, NoFreeSlot, SerialsUsedUp}
use Rattle.timeline.specs.Plan.{Plan}

-- the code of each failure
abbrev pub insert_code : InsertError → ℕ
insert_code TagNotLater = 21
insert_code NoFreeSlot = 22
insert_code SerialsUsedUp = 23

-- the serial, or what stands in the way: a tag that is not later than the clock, then as many pending as there are slots, then serials used up
abbrev pub judged_by : Bool → Bool → Bool → ℕ → Result ℕ InsertError
judged_by late full out serial = cond late (Err TagNotLater) (cond full (Err NoFreeSlot) (cond out (Err SerialsUsedUp) (Ok serial)))

abbrev pub is_late : ℕ → ℕ → Bool
is_late clock tag = nat_le tag clock

abbrev pub is_full : List (Option Pending) → Bool
is_full xs = nat_le (length xs) (pendings xs)

abbrev pub used_up : ℕ → Bool
used_up serials = nat_le 4294967295 serials

abbrev pub insert_answer : ℕ → Plan → ℕ → Result ℕ InsertError
insert_answer clock p tag = judged_by (is_late clock tag) (is_full p.slots) (used_up p.serials) (p.serials + 1)

-- a command in the first free slot
abbrev pub added : List (Option Pending) → Pending → List (Option Pending)
added xs c = slice_set xs (first_free xs) (Some c)

abbrev pub inserted : Plan → ℕ → ℕ → List ℕ → Plan
inserted p s tag octets =
    record {
      subschedules = p.subschedules;
      apids = p.apids;
      serials = p.serials + 1;
      slots = added p.slots (pended (p.serials + 1) s tag octets);
    }

abbrev pub if_ok : {X : Type 0} → Result ℕ InsertError → X → X → X
if_ok (Ok n) x y = x
if_ok (Err e) x y = y

abbrev pub insert_after : ℕ → Plan → ℕ → ℕ → List ℕ → Plan
insert_after clock p s tag octets = if_ok (insert_answer clock p tag) (inserted p s tag octets) p
