-- One offer: what it is answered, by the code's tests, and what the queue holds after it
use Rattle.std.proofs.Common.{◌≡◌, ℕ, ◌+◌, ◌<◌, ◌≤◌, true, false, List, ◌∷◌, [], ◌++◌, length, take, arith}
use Rattle.std.proofs.lemmas.Bool.Decides.{nat_tests}
use Rattle.std.proofs.lemmas.List.Folds.{list_all-append}
use Rattle.std.specs.List.{list_all}
use Rattle.destination.specs.Destination.{sized}
use Rattle.queue.specs.declared.store.Queue.{Queue}
use Rattle.queue.specs.Ring.{Memory, ringed, encode, waits, put_at}
use Rattle.queue.specs.Rules.{carried, spent}
use Rattle.queue.specs.Queue.{waits_in, carried_by, space_in, cause_of}
use Rattle.queue.proofs.Frames.{spent_used, grown, exact_again}
use Rattle.queue.proofs.Rounds.{length_ringed}

module _ (q : Queue) (p : List ℕ) (size : sized p ≡ true) (fits : 2 + length p ≤ length q.ring.octets) where
  pub is_carried : carried_by q p ≡ true
  is_carried = grind (arith, nat_tests)

  pub why_full : cause_of q p ≡ 1
  why_full = grind (arith, nat_tests)

spent_is : (q : Queue) → spent (waits_in q) ≡ q.used
spent_is q = spent_used (ringed q.ring) q.used (omega (arith, length_ringed q.ring, q.within)) q.exact

pub is_full : (q : Queue) (p : List ℕ) → length q.ring.octets < q.used + (2 + length p) → space_in q p ≡ false
is_full q p h = let s = spent_is q in grind (arith, nat_tests)

pub has_space : (q : Queue) (p : List ℕ) → q.used + (2 + length p) ≤ length q.ring.octets → space_in q p ≡ true
has_space q p h = let s = spent_is q in grind (arith, nat_tests)

-- a memory with a packet laid down behind the octets that are used, u of them now
pub record Stepped (q : Queue) (m : Memory) (p : List ℕ) (u : ℕ) : Type 0 where
  pub size : length m.octets ≡ length q.ring.octets
  pub waiting : waits (ringed m) u ≡ waits_in q ++ p ∷ []
  pub exact : encode (waits (ringed m) u) ≡ take u (ringed m)
  pub fine : list_all (carried (length m.octets)) (waits (ringed m) u) ≡ true

pub stepped : (q : Queue) (p : List ℕ) (m : Memory) → carried_by q p ≡ true → q.used + (2 + length p) ≤ length q.ring.octets →
    ringed m ≡ put_at (ringed q.ring) q.used p → length m.octets ≡ length q.ring.octets → Stepped q m p (q.used + (2 + length p))
stepped q p m c l d s =
    let t = ringed q.ring in
    let k : q.used + (2 + length p) ≤ length t = omega (arith, length_ringed q.ring) in
    let g = grown t p (ringed m) q.used k d q.exact in
    let a = list_all-append (carried (length q.ring.octets)) (waits_in q) (p ∷ []) in
    let f = q.fine in
    record { size = s; waiting = g; exact = exact_again t p (ringed m) q.used k d q.exact; fine = rw (s, g, a) (simp (f, c)) }
