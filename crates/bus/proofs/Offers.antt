-- A packet whose APID has a mailbox: what an offer of it is answered, and what it leaves
use Rattle.std.proofs.Common.{◌≡◌, ℕ, ◌<◌, true, false, not, List, length, get_or, Some, None, Option, refl, ap, arith}
use Rattle.std.specs.List.{position}
use Rattle.std.specs.Option.{is_some}
use Rattle.std.proofs.lemmas.Bool.Decides.{nat_tests}
use Rattle.bus.specs.declared.mailbox.Held.{Held}
use Rattle.bus.specs.declared.mailbox.Mailbox.{Mailbox}
use Rattle.destination.specs.Destination.{sized}
use Rattle.packet.specs.Packet.{apid_of}
use Rattle.bus.specs.Bus.{no_box, is_in, is_for, carried, why, apids_in, home, space, is_full}
use Rattle.bus.proofs.Homes.{listed_is}

unlisted : (ms : List Mailbox) (a : ℕ) → position (is_for a) ms ≡ None → is_in a (apids_in ms) ≡ false
unlisted ms a e = let l = listed_is ms a in grind arith

-- no mailbox is for its APID
pub not_carried : (ms : List Mailbox) (p : List ℕ) → position (is_for (apid_of p)) ms ≡ None → carried (apids_in ms) p ≡ false
not_carried ms p e = let u = unlisted ms (apid_of p) e in grind arith

pub why_not : (ms : List Mailbox) (p : List ℕ) → sized p ≡ true → position (is_for (apid_of p)) ms ≡ None → why (apids_in ms) p ≡ 4
why_not ms p size e = let u = unlisted ms (apid_of p) e in grind (arith, nat_tests)

module _ (ms : List Mailbox) (i : ℕ) (p : List ℕ) (place : position (is_for (apid_of p)) ms ≡ Some i) where
  pub home_is : (i < length ms) × (home ms (apid_of p) ≡ i)
  home_is = grind (arith, nat_tests)

  pub space_is : space ms p ≡ not (is_full (get_or ms i no_box))
  space_is = let h = home_is in ap (λ (k : ℕ). not (is_full (get_or ms k no_box))) h.1

  pub is_carried : sized p ≡ true → carried (apids_in ms) p ≡ true
  is_carried size = let l = listed_is ms (apid_of p) in grind (arith, nat_tests)

  pub why_full : sized p ≡ true → why (apids_in ms) p ≡ 3
  why_full size = let l = listed_is ms (apid_of p) in grind (arith, nat_tests)

pub none_held : (o : Option Held) → is_some o ≡ false → o ≡ None
none_held None e = refl
none_held (Some h) e = absurd (cc)
