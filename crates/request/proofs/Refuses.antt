-- The data that name subschedules and APIDs, by what is found of each list of numbers
use Rattle.std.proofs.Common.{◌≡◌, ℕ, ◌+◌, ◌*◌, true, false, eqb, List, length, get_or, Some, None, Ok, Err, Option, Result, refl, ◌∙◌}
use Rattle.packet.specs.Octets.{words}
use Rattle.request.specs.declared.rejection.Rejection.{Rejection}
use Rattle.request.specs.Request.{or_else, out_of_range, subs_in, apids_in, named_of}

goes_on : {X : Type 0} (o : Option Rejection) (r : Result X Rejection) → or_else {X = Unit {0}} o (Ok tt) ≡ Ok tt → or_else o r ≡ r
goes_on None r e = refl
goes_on (Some f) r e = cc

stops : {X : Type 0} (o : Option Rejection) (r : Result X Rejection) (f : Rejection) → or_else {X = Unit {0}} o (Ok tt) ≡ Err f → or_else o r ≡ Err f
stops None r f e = cc
stops (Some g) r f e = cc

-- data of the right length that name something
module _ (b subs apids : List ℕ) (long : eqb (2 + (get_or b 0 0 + get_or b 1 0) * 2) (length b) ≡ true)
    (some : eqb (get_or b 0 0 + get_or b 1 0) 0 ≡ false) (s : subs ≡ subs_in b) (a : apids ≡ apids_in b) where
  abbrev low : Result (Unit {0}) Rejection
  low = or_else {X = Unit {0}} (out_of_range 1 4095 12 (words subs)) (Ok tt)

  abbrev high : Result (Unit {0}) Rejection
  high = or_else {X = Unit {0}} (out_of_range 0 2047 (12 + get_or b 0 0 * 2) (words apids)) (Ok tt)

  pub subs_refused : (f : Rejection) → low ≡ Err f → named_of b ≡ Err f
  subs_refused f e = rw (long, some, ← s) (stops _ _ f e)

  pub apids_refused : (f : Rejection) → low ≡ Ok tt → high ≡ Err f → named_of b ≡ Err f
  apids_refused f e h = rw (long, some, ← s, ← a) (goes_on _ _ e ∙ stops _ _ f h)

  pub named : low ≡ Ok tt → high ≡ Ok tt → named_of b ≡ Ok (record { subschedules = words subs; apids = words apids })
  named e h = rw (long, some, ← s, ← a) (goes_on _ _ e ∙ goes_on _ _ h)
