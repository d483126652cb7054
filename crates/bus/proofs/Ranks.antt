-- Ranks: one more at the end, and all one lower
use Rattle.std.proofs.Common.{◌≡◌, ℕ, zero, suc, ◌+◌, ◌<◌, Bool, true, false, cond, List, [], ◌∷◌, ◌++◌, map, length, get_or, set, count_by, Some, None, Option, sym, refl, ap, ◌∙◌, arith}
use Rattle.std.specs.List.{range_with_len}
use Rattle.std.specs.Option.{is_some}
use Rattle.std.proofs.lemmas.List.FromFn.{map-range_with_len_more}
use Rattle.std.proofs.lemmas.List.Sums.{sum_by-set, get_or-le-sum_by}
use Rattle.std.proofs.lemmas.Bool.{eq-eqb}
use Rattle.std.proofs.lemmas.Bool.Decides.{nat_tests}
use Rattle.bus.specs.declared.mailbox.Held.{Held}
use Rattle.bus.specs.declared.mailbox.Mailbox.{Mailbox}
use Rattle.bus.specs.Law.{count_cons, none_full}
use Rattle.bus.specs.Bus.{no_box, octets_of, held, is_full, ranks_as, has_rank, filled, of_rank, waiting_in}
use Rattle.bus.specs.Changes.{moved_up, lowered}
use Rattle.bus.specs.Kept.{Ranked}

count_set : {X : Type 0} (f : X → Bool) (xs : List X) (i : ℕ) (y d : X) → i < length xs → count_by f (set xs i y) + cond (f (get_or xs i d)) 1 0 ≡ count_by f xs + cond (f y) 1 0
count_set f xs i y d h = sum_by-set (λ z. cond (f z) 1 0) xs i y d h

range_same : {X : Type 0} (f g : ℕ → X) (a b n : ℕ) → ((k : ℕ) → k < n → f (a + k) ≡ g (b + k)) → map f (range_with_len a n) ≡ map g (range_with_len b n)
range_same f g a b zero h = refl
range_same f g a b (suc n) h =
    let p : a + 0 ≡ a = omega arith in
    let q : b + 0 ≡ b = omega arith in
    let x = h 0 (omega arith) in
    let r = range_same f g (a + 1) (b + 1) n
    (λ k l.
    let u : a + (k + 1) ≡ a + 1 + k = omega arith in
    let v : b + (k + 1) ≡ b + 1 + k = omega arith in
    let y = h (k + 1) (omega arith) in cc) in
    cc

pub full_ranked : (o : Option Held) (k : ℕ) → ranks_as k o ≡ true → is_some o ≡ true
full_ranked None k e = e
full_ranked (Some h) k e = refl

-- the rank of a packet that is held
pub held_rank : (o : Option Held) → is_some o ≡ true → (k : ℕ) × (ranks_as k o ≡ true)
held_rank None e = absurd (cc)
held_rank (Some h) e = (h.rank, eq-eqb h.rank h.rank refl)

-- a rank that neither the old mailbox nor the new one has
other_rank : (ms : List Mailbox) (i : ℕ) (m : Mailbox) (k : ℕ) → has_rank k (get_or ms i no_box) ≡ false → has_rank k m ≡ false → of_rank (set ms i m) k ≡ of_rank ms k
other_rank [] i m k h j = refl
other_rank (x ∷ xs) zero m k h j = simp (h, j)
other_rank (x ∷ xs) (suc i) m k h j = ap (λ (r : List ℕ). cond (has_rank k x) (held x) r) (other_rank xs i m k h j)

-- a rank that no mailbox had
new_rank : (ms : List Mailbox) (i : ℕ) (m : Mailbox) (k : ℕ) → i < length ms → has_rank k m ≡ true → count_by (has_rank k) ms ≡ 0 → of_rank (set ms i m) k ≡ held m
new_rank [] i m k lt e z = absurd (omega arith)
new_rank (x ∷ xs) zero m k lt e z = simp e
new_rank (x ∷ xs) (suc i) m k lt e z =
    let c = count_cons (has_rank k) x xs in
    let f : has_rank k x ≡ false = grind arith in
    let r = new_rank xs i m k (omega arith) e (omega arith) in
    simp (f, r)

-- an empty mailbox filled, with the next rank
module _ (ms : List Mailbox) (i : ℕ) (m : Mailbox) (h : Held) (lt : i < length ms) (was : (get_or ms i no_box).packet ≡ None) (is : m.packet ≡ Some h) (next : h.rank ≡ filled ms) where
  pub filled_set : filled (set ms i m) ≡ filled ms + 1
  filled_set =
      let s = count_set is_full ms i m no_box lt in
      let a = ap is_some was in
      let b = ap is_some is in
      grind arith

  pub ranked_set : Ranked ms → Ranked (set ms i m)
  ranked_set r k =
      let s = count_set (has_rank k) ms i m no_box lt in
      let o = r k in
      let f = filled_set in
      let a = ap (ranks_as k) was in
      let b = ap (ranks_as k) is in
      grind (arith, nat_tests)

  pub waits_set : Ranked ms → waiting_in (set ms i m) ≡ waiting_in ms ++ held m ∷ []
  unfolding waiting_in
  waits_set r =
      let n = filled ms in
      let f = filled_set in
      let none : count_by (has_rank n) ms ≡ 0 = let o = r n in grind (arith, nat_tests) in
      let at_n : has_rank n m ≡ true = let b = ap (ranks_as n) is in grind (arith, nat_tests) in
      let same = range_same (of_rank (set ms i m)) (of_rank ms) 0 0 n
      (λ k l. other_rank ms i m (0 + k) (ap (ranks_as (0 + k)) was) (let b = ap (ranks_as (0 + k)) is in grind (arith, nat_tests))) in
      let more = map-range_with_len_more (of_rank (set ms i m)) 0 n n (omega arith) in
      let new = new_rank ms i m n lt at_n none in
      cc

rank_lower : (o : Option Held) (k : ℕ) → ranks_as k (moved_up o) ≡ ranks_as (k + 1) o
rank_lower None k = refl
rank_lower (Some h) k = grind (arith, nat_tests)

octets_lower : (o : Option Held) (k : ℕ) → ranks_as k (moved_up o) ≡ true → octets_of (moved_up o) ≡ octets_of o
octets_lower None k e = refl
octets_lower (Some h) k e = grind arith

full_lower : (o : Option Held) → cond (is_some (moved_up o)) 1 0 + cond (ranks_as 0 o) 1 0 ≡ cond (is_some o) 1 0
full_lower None = refl
full_lower (Some h) = grind arith

of_lower : (ms : List Mailbox) (k : ℕ) → of_rank (map lowered ms) k ≡ of_rank ms (k + 1)
of_lower [] k = refl
of_lower (x ∷ xs) k = let a = rank_lower x.packet k in let o = octets_lower x.packet k in let r = of_lower xs k in grind arith

count_lower : (ms : List Mailbox) (k : ℕ) → count_by (has_rank k) (map lowered ms) ≡ count_by (has_rank (k + 1)) ms
count_lower [] k = refl
count_lower (x ∷ xs) k =
    let a = count_cons (has_rank k) (lowered x) (map lowered xs) in
    let b = count_cons (has_rank (k + 1)) x xs in
    let e = rank_lower x.packet k in
    let r = count_lower xs k in
    cc

filled_lower : (ms : List Mailbox) → filled (map lowered ms) + count_by (has_rank 0) ms ≡ filled ms
filled_lower [] = refl
filled_lower (x ∷ xs) =
    let a = count_cons is_full (lowered x) (map lowered xs) in
    let b = count_cons is_full x xs in
    let c = count_cons (has_rank 0) x xs in
    let e = full_lower x.packet in
    let r = filled_lower xs in
    omega arith

-- the oldest let go, every other rank one lower
module _ (ms : List Mailbox) (r : Ranked ms) (some : 0 < filled ms) where
  filled_less : filled ms ≡ suc (filled (map lowered ms))
  filled_less = let o = r 0 in let f = filled_lower ms in grind (arith, nat_tests)

  pub ranked_lower : Ranked (map lowered ms)
  ranked_lower k =
      let o = r (k + 1) in
      let c = count_lower ms k in
      let f = filled_less in
      grind (arith, nat_tests)

  pub waits_lower : waiting_in ms ≡ of_rank ms 0 ∷ waiting_in (map lowered ms)
  unfolding waiting_in
  waits_lower =
      let same = range_same (of_rank (map lowered ms)) (of_rank ms) 0 1 (filled (map lowered ms))
      (λ k l. let u : 0 + k + 1 ≡ 1 + k = omega arith in of_lower ms (0 + k) ∙ ap (of_rank ms) u) in
      ap (λ (n : ℕ). map (of_rank ms) (range_with_len 0 n)) filled_less ∙ ap (λ (w : List (List ℕ)). of_rank ms 0 ∷ w) (sym same)

-- the one mailbox of a rank
pub only_rank : (ms : List Mailbox) (i k : ℕ) → i < length ms → has_rank k (get_or ms i no_box) ≡ true → count_by (has_rank k) ms ≡ 1 → of_rank ms k ≡ held (get_or ms i no_box)
only_rank [] i k lt e c = absurd (omega arith)
only_rank (x ∷ xs) zero k lt e c = simp e
only_rank (x ∷ xs) (suc i) k lt e c =
    let n = count_cons (has_rank k) x xs in
    let g = get_or-le-sum_by (λ y. cond (has_rank k y) 1 0) xs i no_box (omega arith) in
    let f : has_rank k x ≡ false = grind arith in
    let r = only_rank xs i k (omega arith) e (grind arith) in
    simp (f, r)

-- a rank that is counted is at some place
pub ranked_at : (ms : List Mailbox) (k : ℕ) → 0 < count_by (has_rank k) ms → (i : ℕ) × ((i < length ms) × (has_rank k (get_or ms i no_box) ≡ true))
ranked_at [] k c = absurd (omega arith)
ranked_at (x ∷ xs) k c = split (λ l. ranked_at xs k l) (has_rank k x) refl
  where
    split : (0 < count_by (has_rank k) xs → (i : ℕ) × ((i < length xs) × (has_rank k (get_or xs i no_box) ≡ true))) → (b : Bool) → has_rank k x ≡ b →
        (i : ℕ) × ((i < length (x ∷ xs)) × (has_rank k (get_or (x ∷ xs) i no_box) ≡ true))
    split rec true h = (0, (omega arith, h))
    split rec false h = let n = count_cons (has_rank k) x xs in let s = rec (grind arith) in let l = s.1.0 in (suc s.0, (omega arith, s.1.1))

-- where each is empty, none is filled
pub all_empty : (ms : List Mailbox) → ((i : ℕ) → i < length ms → is_full (get_or ms i no_box) ≡ false) → filled ms ≡ 0
all_empty [] h = refl
all_empty (x ∷ xs) h =
    let n = count_cons is_full x xs in
    let a = h 0 (omega arith) in
    let r = all_empty xs (λ i l. h (suc i) (omega arith)) in
    grind arith

pub some_full : (ms : List Mailbox) (i : ℕ) → is_full (get_or ms i no_box) ≡ true → 0 < filled ms
some_full ms i f = split (filled ms) refl
  where
    split : (n : ℕ) → filled ms ≡ n → 0 < n
    split zero z = absurd (let e = none_full ms i z in cc)
    split (suc n) z = omega arith

-- with none filled nothing waits
pub none_waits : (ms : List Mailbox) → filled ms ≡ 0 → waiting_in ms ≡ []
unfolding waiting_in
none_waits ms z = ap (λ (n : ℕ). map (of_rank ms) (range_with_len 0 n)) z

-- the packet of rank 0 waits before the others
pub oldest_waits : (ms : List Mailbox) → Ranked ms → (i : ℕ) → i < length ms → has_rank 0 (get_or ms i no_box) ≡ true → waiting_in ms ≡ held (get_or ms i no_box) ∷ waiting_in (map lowered ms)
oldest_waits ms r i l e =
    let some = some_full ms i (full_ranked (get_or ms i no_box).packet 0 e) in
    let o : count_by (has_rank 0) ms ≡ 1 = let c = r 0 in grind (arith, nat_tests) in
    waits_lower ms r some ∙ ap (λ (p : List ℕ). p ∷ waiting_in (map lowered ms)) (only_rank ms i 0 l e o)

-- no rank is above the number filled
pub rank_filled : (ms : List Mailbox) → Ranked ms → (i k : ℕ) → i < length ms → has_rank k (get_or ms i no_box) ≡ true → k < filled ms
rank_filled ms r i k l e =
    let o = r k in
    let g = get_or-le-sum_by (λ y. cond (has_rank k y) 1 0) ms i no_box l in
    grind (arith, nat_tests)
