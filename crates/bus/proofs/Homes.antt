-- The mailbox for an APID
use Rattle.std.proofs.Common.{◌≡◌, ℕ, suc, ◌+◌, ◌<◌, Bool, true, false, cond, not, ◌||◌, eqb, ltb, List, [], ◌∷◌, ◌++◌, length, get_or, Some, None, Option, refl, ap, arith}
use Rattle.std.specs.List.{position}
use Rattle.std.specs.Option.{is_some, option_eq, option_to_list}
use Rattle.std.proofs.lemmas.Bool.{eqb-true}
use Rattle.std.proofs.lemmas.Bool.Decides.{nat_tests}
use Rattle.std.proofs.lemmas.List.Sums.{passes_at_first}
use Rattle.bus.specs.declared.mailbox.Mailbox.{Mailbox}
use Rattle.bus.specs.Bus.{no_box, apids_in, is_in, is_for, home}

first_is : (o : Option ℕ) (a n l : ℕ) (rest : List ℕ) → is_in a rest ≡ ltb n l → is_in a (option_to_list o ++ rest) ≡ ltb (cond (not (option_eq eqb o (Some a))) (1 + n) 0) (suc l)
first_is None a n l rest e = grind (arith, nat_tests)
first_is (Some x) a n l rest e = split (eqb x a)
  where
    split : (b : Bool) → (b || is_in a rest) ≡ ltb (cond (not b) (1 + n) 0) (suc l)
    split true = grind (arith, nat_tests)
    split false = grind (arith, nat_tests)

-- an APID is listed where a mailbox is for it
pub listed_is : (ms : List Mailbox) (a : ℕ) → is_in a (apids_in ms) ≡ ltb (home ms a) (length ms)
listed_is [] a = refl
listed_is (m ∷ ms) a = first_is m.apid a (home ms a) (length ms) (apids_in ms) (listed_is ms a)

pub listed_found : (ms : List Mailbox) (a : ℕ) → is_in a (apids_in ms) ≡ is_some (position (is_for a) ms)
listed_found ms a = let l = listed_is ms a in grind arith

own : (o : Option ℕ) (a : ℕ) → option_eq eqb o (Some a) ≡ true → o ≡ Some a
own None a e = absurd (cc)
own (Some x) a e = ap Some (eqb-true x a e)

pub home_apid : (ms : List Mailbox) (a : ℕ) → home ms a < length ms → (get_or ms (home ms a) no_box).apid ≡ Some a
home_apid ms a l = own _ a (passes_at_first (is_for a) ms no_box l)
