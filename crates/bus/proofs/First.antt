-- What the search for the least rank finds
use Rattle.std.proofs.Common.{◌≡◌, ℕ, zero, suc, ◌<◌, true, ltb, List, [], ◌∷◌, map, length, get_or, Some, None, count_by, Option, refl, subst, sym, ◌∙◌, ap, arith}
use Rattle.std.proofs.lemmas.List.{get_or-map, length-map}
use Rattle.std.proofs.lemmas.Bool.{eq-eqb, eqb-true, ltb-true, ltb-false, false_from_ne_true}
use Rattle.std.proofs.lemmas.Bool.Decides.{nat_tests}
use Rattle.search.specs.declared.Found.{Found}
use Rattle.search.specs.Least.{below, LeastFrom}
use Rattle.search.proofs.Numbers.{below_numbers}
use Rattle.std.specs.Option.{option_map}
use Rattle.std.specs.Ordering.{nat_cmp}
use Rattle.bus.specs.declared.mailbox.Held.{Held}
use Rattle.bus.specs.declared.mailbox.Mailbox.{Mailbox}
use Rattle.bus.specs.Bus.{no_box, ranks_as, has_rank}
use Rattle.bus.specs.Kept.{Ranked}
use Rattle.bus.specs.Arrival.{rank_of, Oldest}
use Rattle.bus.proofs.Ranks.{full_ranked, held_rank, ranked_at, some_full, all_empty}

ranked : (o : Option Held) (q : ℕ) → option_map (λ (h : Held). h.rank) o ≡ Some q → ranks_as q o ≡ true
ranked None q e = absurd (cc)
ranked (Some h) q e = eq-eqb h.rank q (cc)

rank_is : (o : Option Held) (q : ℕ) → ranks_as q o ≡ true → option_map (λ (h : Held). h.rank) o ≡ Some q
rank_is None q e = absurd (cc)
rank_is (Some h) q e = ap Some (eqb-true h.rank q e)

-- a filled place has its mailbox's rank
sat : (ms : List Mailbox) (i : ℕ) (q : ℕ) → get_or (map rank_of ms) i None ≡ Some q → (i < length ms) × (has_rank q (get_or ms i no_box) ≡ true)
sat [] i q e = absurd (cc)
sat (x ∷ xs) zero q e = (omega arith, ranked x.packet q e)
sat (x ∷ xs) (suc i) q e = let s = sat xs i q e in let l = s.0 in (omega arith, s.1)

sits : (ms : List Mailbox) (i k : ℕ) → i < length ms → has_rank k (get_or ms i no_box) ≡ true → get_or (map rank_of ms) i None ≡ Some k
sits ms i k l e = get_or-map rank_of ms i no_box None l ∙ rank_is (get_or ms i no_box).packet k e

found_oldest : (ms : List Mailbox) → Ranked ms → (f : Found ℕ) → LeastFrom ltb (map rank_of ms) 0 (Some f) → Oldest ms (Some f.place)
found_oldest ms r f w =
    let s = sat ms f.place f.key w.sits in
    let full = some_full ms f.place (full_ranked (get_or ms f.place no_box).packet f.key s.1) in
    let o : 0 < count_by (has_rank 0) ms = let c = r 0 in grind (arith, nat_tests) in
    let j = ranked_at ms 0 o in
    let l = j.1.0 in
    let lm = length-map ms rank_of in
    let b = w.least j.0 (omega arith) 0 (sits ms j.0 0 l j.1.1) refl in
    let u : f.key ≡ 0 = let v = ltb-false 0 f.key b in omega arith in
    (s.0, ap (λ (k : ℕ). has_rank k (get_or ms f.place no_box)) (sym u) ∙ s.1)

found_none : (ms : List Mailbox) → LeastFrom ltb (map rank_of ms) 0 None → Oldest ms None
found_none ms h =
    let lm = length-map ms rank_of in
    all_empty ms
    (λ i l. false_from_ne_true _
    (λ f.
    let r = held_rank (get_or ms i no_box).packet f in
    let b = ltb-true r.0 0 (h i (omega arith) r.0 (sits ms i r.0 l r.1)) in
    omega arith))

-- the place of what the search found is that of the oldest packet
pub oldest_found : (ms : List Mailbox) → Ranked ms → (r : Option (Found ℕ)) → LeastFrom (below nat_cmp) (map rank_of ms) 0 r → Oldest ms (option_map (λ (f : Found ℕ). f.place) r)
oldest_found ms k None h = found_none ms (subst (λ b. LeastFrom b (map rank_of ms) 0 None) below_numbers h)
oldest_found ms k (Some f) h = found_oldest ms k f (subst (λ b. LeastFrom b (map rank_of ms) 0 (Some f)) below_numbers h)
