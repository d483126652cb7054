-- A queue keeps the law of destinations
use Rattle.std.specs.Prelude.{◌≡◌, ℕ, ◌+◌, ◌<◌, ◌≤◌, true, List, length}
use Rattle.std.proofs.Common.{ap, arith, le-leb}
use Rattle.std.proofs.lemmas.Bool.Decides.{nat_tests}
use Rattle.destination.specs.Destination.{Laws}
use Rattle.queue.specs.Rules.{carried, spent, why}
use Rattle.queue.specs.Queue.{waits_in, carried_by, space_in, cause_of}

pub parts : (L : ℕ) (p : List ℕ) → carried L p ≡ true → (12 ≤ length p) × ((length p ≤ 228) × (2 + length p ≤ L))
parts L p e = grind (arith, nat_tests)

positive : (L : ℕ) (p : List ℕ) → 0 < why L p
positive L p = grind (arith, nat_tests)

pub queue_laws : Laws waits_in carried_by space_in cause_of
queue_laws = record {
  least = λ s p e. (parts (length s.ring.octets) p e).0;
  most = λ s p e. (parts (length s.ring.octets) p e).1.0;
  carried = λ s. s.fine;
  empty = λ s p w e.
      let h = (parts (length s.ring.octets) p e).1.1 in
      let n : spent (waits_in s) ≡ 0 = ap spent w in
      le-leb _ _ (omega arith);
  causes = λ s p. positive (length s.ring.octets) p;
}
