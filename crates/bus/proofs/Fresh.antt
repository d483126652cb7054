-- A new bus
use Rattle.std.proofs.Common.{◌≡◌, Bool, false, ℕ, zero, suc, ◌+◌, ◌-◌, ◌<◌, true, false, cond, ltb, List, [], ◌∷◌, ◌++◌, map, length, get_or, take, set, replicate, count_by, Some, None, sym, refl, ap, ◌∙◌, append_assoc, append-nil, arith}
use Rattle.std.specs.List.{position, position_or_len, list_all}
use Rattle.std.specs.Option.{option_to_list}
use Rattle.std.proofs.lemmas.List.{set_at, length-map, length_push, map_push, get_or_append_left, get_or-map, get_or-append_right, get_or-replicate, length-append, length-replicate}
use Rattle.std.proofs.lemmas.List.Concat.{flat_map-append}
use Rattle.std.proofs.lemmas.List.Sums.{fold_more, position_or_len_is}
use Rattle.std.proofs.lemmas.Bool.Decides.{nat_tests}
use Rattle.bus.specs.declared.mailbox.Mailbox.{Mailbox}
use Rattle.bus.specs.Law.{count_cons, none_full}
use Rattle.bus.specs.Bus.{no_box, wanted, with_one, listed, carried, apids_in, is_full, is_unused, has_rank, filled, waiting_in}
use Rattle.bus.specs.Changes.{fresh, given, place_for}
use Rattle.bus.specs.Kept.{Sound}
use Rattle.bus.proofs.Ranks.{none_waits}

no_apids : (n : ℕ) → apids_in (replicate n no_box) ≡ []
no_apids zero = refl
no_apids (suc n) = no_apids n

own_apids : (list : List ℕ) → apids_in (map fresh list) ≡ list
own_apids [] = refl
own_apids (a ∷ list) = ap (λ (l : List ℕ). a ∷ l) (own_apids list)

-- the mailboxes are for the APIDs of the list
pub given_apids : (list : List ℕ) → apids_in (given list) ≡ list
given_apids list =
    flat_map-append (λ (m : Mailbox). option_to_list m.apid) (map fresh list) (replicate (8 - length list) no_box)
    ∙ ap (λ (l : List ℕ). apids_in (map fresh list) ++ l) (no_apids (8 - length list)) ∙ append-nil (apids_in (map fresh list)) ∙ own_apids list

-- the first unused one stands behind them
pub given_unused : (list : List ℕ) → position is_unused (given list) ≡ cond (ltb (length list) 8) (Some (length list)) None
given_unused list =
    let front = map fresh list in
    let n = 8 - length list in
    let lf = length-map list fresh in
    let lr = length-replicate n no_box in
    let l = length-append front (replicate n no_box) in
    let e : position_or_len is_unused (given list) ≡ length list = position_or_len_is _ (given list) (length list) no_box (omega arith)
    (λ k h. ap is_unused (get_or_append_left front (replicate n no_box) no_box k (omega arith) ∙ get_or-map fresh list k 0 no_box h))
    (λ h.
    let a = get_or-append_right front (replicate n no_box) (length list) (length list) no_box lf (omega arith) in
    let b = get_or-replicate n (length list - length list) no_box no_box (omega arith) in
    ap is_unused (a ∙ b)) in
    grind (arith, nat_tests)

-- one more mailbox given
given_more : (a : ℕ) (list : List ℕ) → length list < 8 → set (given list) (length list) (fresh a) ≡ given (list ++ a ∷ [])
given_more a list h =
    let l = length_push list a in
    let k = 8 - length (list ++ a ∷ []) in
    let n : 8 - length list ≡ suc k = omega arith in
    ap (λ (j : ℕ). set (map fresh list ++ replicate j no_box) (length list) (fresh a)) n
    ∙ set_at (map fresh list) no_box (replicate k no_box) (fresh a) (length list) (length-map list fresh)
    ∙ sym (append_assoc (map fresh list) (fresh a ∷ []) (replicate k no_box))
    ∙ ap (λ (f : List Mailbox). f ++ replicate k no_box) (sym (map_push fresh list a))

-- one more number looked at
module _ (xs : List ℕ) (i : ℕ) (lt : i < length xs) where
  more : listed (take (i + 1) xs) ≡ with_one (listed (take i xs)) (get_or xs i 0)
  more = fold_more with_one [] xs i 0 lt

  place_is : place_for (given (listed (take i xs))) (get_or xs i 0) ≡ cond (wanted (listed (take i xs)) (get_or xs i 0)) (Some (length (listed (take i xs)))) None
  place_is =
      let list = listed (take i xs) in
      let a = given_apids list in
      let u = given_unused list in
      rw (a, u) (grind arith)

  pub given_yes : (n : ℕ) → place_for (given (listed (take i xs))) (get_or xs i 0) ≡ Some n → set (given (listed (take i xs))) n (fresh (get_or xs i 0)) ≡ given (listed (take (i + 1) xs))
  given_yes n e =
      let list = listed (take i xs) in
      let p = place_is in
      let w : (wanted list (get_or xs i 0) ≡ true) × (length list ≡ n) = grind arith in
      let few : length list < 8 = let v = w.0 in grind (arith, nat_tests) in
      let m = more in
      let g = given_more (get_or xs i 0) list few in
      let s = simp w.0 at m in
      let y = w.1 in
      cc

  pub given_no : place_for (given (listed (take i xs))) (get_or xs i 0) ≡ None → given (listed (take i xs)) ≡ given (listed (take (i + 1) xs))
  given_no e =
      let list = listed (take i xs) in
      let p = place_is in
      let w : wanted list (get_or xs i 0) ≡ false = grind arith in
      let m = more in
      let s = simp w at m in
      cc

count_none : (f : Mailbox → Bool) → f no_box ≡ false → ((a : ℕ) → f (fresh a) ≡ false) → (list : List ℕ) (n : ℕ) → count_by f (map fresh list ++ replicate n no_box) ≡ 0
count_none f unused each [] zero = refl
count_none f unused each [] (suc n) = let c = count_cons f no_box (replicate n no_box) in let r = count_none f unused each [] n in grind arith
count_none f unused each (a ∷ list) n = let c = count_cons f (fresh a) (map fresh list ++ replicate n no_box) in let r = count_none f unused each list n in let e = each a in grind arith

none_filled : (list : List ℕ) → filled (given list) ≡ 0
none_filled list = count_none is_full refl (λ _. refl) list (8 - length list)

pub given_waits : (list : List ℕ) → waiting_in (given list) ≡ []
given_waits list = none_waits (given list) (none_filled list)

pub given_sound : (list : List ℕ) → Sound (given list)
given_sound list =
    let z = none_filled list in
    record {
      ranks = λ k. let o = count_none (has_rank k) refl (λ _. refl) list (8 - length list) in grind (arith, nat_tests);
      homes = λ k f. absurd (let n = none_full (given list) k z in cc);
      carries = ap (list_all (carried (apids_in (given list)))) (given_waits list);
    }
