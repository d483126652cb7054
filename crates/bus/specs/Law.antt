-- The bus keeps the law of a destination
use Rattle.std.specs.Prelude.{◌≡◌, ℕ, zero, suc, ◌+◌, ◌<◌, ◌≤◌, Bool, true, false, cond, not, List, [], ◌∷◌, length, count_by, slice_index_or, refl}
use Rattle.std.proofs.Common.{ap, sym, arith, ◌∙◌}
use Rattle.std.proofs.lemmas.List.FromFn.{length-map-range_with_len}
use Rattle.std.proofs.lemmas.List.Sums.{sum_by-cons}
use Rattle.std.proofs.lemmas.Bool.Decides.{nat_tests}
use Rattle.destination.specs.Destination.{Laws}
use Rattle.bus.specs.declared.mailbox.Mailbox.{Mailbox}
use Rattle.packet.specs.Packet.{apid_of}
use Rattle.bus.specs.Bus.{no_box, is_full, filled, of_rank, waiting_in, apids_in, carried, why, home, space}
use Rattle.bus.specs.Kept.{Carried}

pub count_cons : {X : Type 0} (f : X → Bool) (x : X) (xs : List X) → count_by f (x ∷ xs) ≡ cond (f x) 1 0 + count_by f xs
count_cons f x xs = sum_by-cons (λ y. cond (f y) 1 0) x xs

-- where none is filled, each is empty
pub none_full : (ms : List Mailbox) (i : ℕ) → filled ms ≡ 0 → is_full (slice_index_or ms i no_box) ≡ false
none_full [] i z = refl
none_full (x ∷ xs) zero z = let n = count_cons is_full x xs in grind arith
none_full (x ∷ xs) (suc i) z = let n = count_cons is_full x xs in none_full xs i (omega arith)

none_waiting : (ms : List Mailbox) → waiting_in ms ≡ [] → filled ms ≡ 0
unfolding waiting_in
none_waiting ms e = sym (length-map-range_with_len (of_rank ms) 0 (filled ms)) ∙ ap length e

sizes : (list p : List ℕ) → carried list p ≡ true → (12 ≤ length p) × (length p ≤ 228)
sizes list p e = grind (arith, nat_tests)

positive : (list p : List ℕ) → 0 < why list p
positive list p = grind (arith, nat_tests)

pub bus_laws : {S : Type 0} (boxes : S → List Mailbox) → ((s : S) → Carried (boxes s)) →
    Laws {S = S} (λ s. waiting_in (boxes s)) (λ s p. carried (apids_in (boxes s)) p) (λ s p. space (boxes s) p) (λ s p. why (apids_in (boxes s)) p)
bus_laws boxes all = record {
  least = λ s p e. (sizes (apids_in (boxes s)) p e).0;
  most = λ s p e. (sizes (apids_in (boxes s)) p e).1;
  carried = all;
  empty = λ s p w e. ap not (none_full (boxes s) (home (boxes s) (apid_of p)) (none_waiting (boxes s) w));
  causes = λ s p. positive (apids_in (boxes s)) p;
}
