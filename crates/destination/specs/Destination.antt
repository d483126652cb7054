-- What a destination means: packets waiting, a fixed yes or no whether it carries a packet, a present one whether it has space
use Rattle.std.specs.Prelude.{◌≡◌, List, [], ◌∷◌, ◌++◌, Bool, true, cond, ◌&&◌, ℕ, ◌≤◌, ◌<◌, length, nat_le, drop, ltb, slice_index_or, Ok, Err, Result}
use Rattle.std.specs.List.{list_all}
use Rattle.destination.specs.declared.Refused.{Refused}
use Rattle.destination.specs.declared.Refused.TheVariants.{NotNow, Never}

-- the lengths that a destination may carry: 12 to 228 octets
abbrev pub sized : List ℕ → Bool
sized p = nat_le 12 (length p) && nat_le (length p) 228

-- the answer to an offer: is it carried, is there space
abbrev pub offered : Bool → Bool → ℕ → Result (Unit {0}) Refused
offered carried space cause = cond carried (cond space (Ok tt) (Err (NotNow cause))) (Err (Never cause))

-- what waits after it
abbrev pub waiting_after : Bool → Bool → List (List ℕ) → List ℕ → List (List ℕ)
waiting_after carried space ws p = cond carried (cond space (ws ++ p ∷ []) ws) ws

-- what a take gives into an area of n octets: the oldest packet; and what is left waiting
abbrev pub given : ℕ → List (List ℕ) → List ℕ
given n ws = cond (ltb n 228) [] (slice_index_or ws 0 [])

abbrev pub left : ℕ → List (List ℕ) → List (List ℕ)
left n ws = cond (ltb n 228) ws (drop 1 ws)

-- octets over the start of an area
abbrev pub laid : List ℕ → List ℕ → List ℕ
laid p area = p ++ drop (length p) area

-- the law: it carries 12 to 228 octets only, every waiting packet is one that it carries, with nothing waiting it has space for each that it carries, and causes are positive
pub record Laws {S : Type 0} (waiting : S → List (List ℕ)) (carries : S → List ℕ → Bool) (roomy : S → List ℕ → Bool) (cause : S → List ℕ → ℕ) : Type 0 where
  pub least : (s : S) (p : List ℕ) → carries s p ≡ true → 12 ≤ length p
  pub most : (s : S) (p : List ℕ) → carries s p ≡ true → length p ≤ 228
  pub carried : (s : S) → list_all (carries s) (waiting s) ≡ true
  pub empty : (s : S) (p : List ℕ) → waiting s ≡ [] → carries s p ≡ true → roomy s p ≡ true
  pub causes : (s : S) (p : List ℕ) → 0 < cause s p
