-- Slots that hold exactly some commands: how many, with some taken out, with one more
use Rattle.std.proofs.Common.{◌≡◌, ℕ, zero, suc, ◌+◌, ◌-◌, ◌<◌, ◌≤◌, Bool, true, false, not, cond, List, [], ◌∷◌, ◌++◌, map, length, set, replicate, is_some, Some, None, count_by, Option, sym, refl, ap, ◌∙◌, subst, arith}
use Rattle.std.proofs.lemmas.List.Sums.{sum_by-append}
use Rattle.std.proofs.lemmas.List.Filters.{sum_by-filter_both}
use Rattle.std.proofs.lemmas.List.Elements.{filter-append}
use Rattle.std.proofs.lemmas.List.{length-append, length-map, length-replicate}
use Rattle.std.proofs.lemmas.Bool.{cond_both}
use Rattle.schedule.specs.declared.pending.Pending.{Pending}
use Rattle.schedule.specs.Slots.{first_free, pendings, hit, dropped, each}
use Rattle.schedule.proofs.Free.{count_cons}
use Rattle.holding.specs.Holding.{Holds, Falls, those, without, slots_of}

pub empty_held : (n : ℕ) → Holds (replicate n None) []
empty_held zero = refl
empty_held (suc n) = empty_held n

-- one of a list counts by itself
count_among : (f : Pending → Bool) (us : List Pending) (c : Pending) (vs : List Pending) → count_by f (us ++ c ∷ vs) ≡ cond (f c) 1 0 + count_by f (us ++ vs)
count_among f us c vs =
    let a = sum_by-append (λ p. cond (f p) 1 0) us (c ∷ vs) in
    let b = sum_by-append (λ p. cond (f p) 1 0) us vs in
    let d = count_cons f c vs in
    omega arith

pub hits_held : (f : Pending → Bool) (xs : List (Option Pending)) (ps : List Pending) → Holds xs ps → count_by (hit f) xs ≡ count_by f ps
hits_held f [] ps h = ap (count_by f) (sym h)
hits_held f (None ∷ xs) ps h =
    let a = count_cons (hit f) None xs in
    let b = hits_held f xs ps h in
    omega arith
hits_held f (Some c ∷ xs) ps (us, (vs, (e, h))) =
    let a = count_cons (hit f) (Some c) xs in
    let b = hits_held f xs (us ++ vs) h in
    let d = count_among f us c vs in
    omega (arith, ap (count_by f) e)

count_all : (ps : List Pending) → count_by each ps ≡ length ps
count_all [] = refl
count_all (c ∷ cs) = omega (arith, count_cons each c cs, count_all cs)

some_held : (o : Option Pending) → is_some o ≡ hit each o
some_held None = refl
some_held (Some c) = refl

pub pendings_held : (xs : List (Option Pending)) (ps : List Pending) → Holds xs ps → pendings xs ≡ length ps
pendings_held xs ps h = ap (λ (f : Option Pending → Bool). count_by f xs) (λ i o. some_held o i) ∙ (hits_held each xs ps h ∙ count_all ps)

-- a command among others, taken out and left
without_at : (f : Pending → Bool) (us : List Pending) (c : Pending) (vs : List Pending) (b : Bool) → f c ≡ b → without f (us ++ c ∷ vs) ≡ without f us ++ cond (not b) (c ∷ without f vs) (without f vs)
without_at f us c vs b e = filter-append (λ p. not (f p)) us (c ∷ vs) ∙ ap (λ t. without f us ++ cond (not t) (c ∷ without f vs) (without f vs)) e

without_yes : (f : Pending → Bool) (us : List Pending) (c : Pending) (vs : List Pending) → f c ≡ true → without f (us ++ c ∷ vs) ≡ without f (us ++ vs)
without_yes f us c vs e = without_at f us c vs true e ∙ sym (filter-append (λ p. not (f p)) us vs)

pub dropped_held : (f : Pending → Bool) (xs : List (Option Pending)) (ps : List Pending) → Holds xs ps → Holds (map (dropped f) xs) (without f ps)
dropped_held f [] ps h = ap (without f) h
dropped_held f (None ∷ xs) ps h = dropped_held f xs ps h
dropped_held f (Some c ∷ xs) ps (us, (vs, (q, h))) =
    let k = dropped_held f xs (us ++ vs) h in
    cond_both (f c) None (Some c) (λ o. Holds (o ∷ map (dropped f) xs) (without f ps))
    (λ e. subst (Holds (map (dropped f) xs)) (sym (ap (without f) q ∙ without_yes f us c vs e)) k)
    (λ e. (
      without f us,
      (
        without f vs,
        (
          ap (without f) q ∙ without_at f us c vs false e,
          subst (Holds (map (dropped f) xs)) (filter-append (λ p. not (f p)) us vs) k,
        ),
      ),
    ))

pub added_held : (c : Pending) (xs : List (Option Pending)) (ps : List Pending) → Holds xs ps → pendings xs < length xs → Holds (set xs (first_free xs) (Some c)) (c ∷ ps)
added_held c [] ps h l = absurd (omega arith)
added_held c (None ∷ xs) ps h l = ([], (ps, (refl, h)))
added_held c (Some d ∷ xs) ps (us, (vs, (q, h))) l =
    let k : pendings xs < length xs = omega (arith, count_cons is_some (Some d) xs) in
    let n : suc (first_free xs) ≡ 1 + first_free xs = omega arith in
    subst (λ (m : ℕ). Holds (set (Some d ∷ xs) m (Some c)) (c ∷ ps)) n
    (c ∷ us, (vs, (ap (λ (z : List Pending). c ∷ z) q, added_held c xs (us ++ vs) h k)))

filled : (k : ℕ) (ps : List Pending) → Holds (map Some ps ++ replicate k None) ps
filled k [] = empty_held k
filled k (c ∷ cs) = ([], (cs, (refl, filled k cs)))

pub slots_held : (n : ℕ) (ps : List Pending) → Holds (slots_of n ps) ps
slots_held n ps = filled (n - length ps) ps

pub length_slots : (n : ℕ) (ps : List Pending) → length ps ≤ n → length (slots_of n ps) ≡ n
length_slots n ps h =
    let none : Option Pending = None in
    let a = length-append (map Some ps) (replicate (n - length ps) none) in
    let b = length-map ps (λ (c : Pending). Some c) in
    let d = length-replicate (n - length ps) none in
    omega arith

pub falls_more : (m n : ℕ) (ps : List Pending) → m ≤ n → Falls m ps → Falls n ps
falls_more m n [] h f = tt
falls_more m n (c ∷ cs) h (l, f) = (omega arith, f)

pub falls_without : (f : Pending → Bool) (n : ℕ) (ps : List Pending) → Falls n ps → Falls n (without f ps)
falls_without f n [] h = tt
falls_without f n (c ∷ cs) (l, h) =
    let k = falls_without f c.serial cs h in
    cond_both (not (f c)) (c ∷ without f cs) (without f cs) (Falls n) (λ _. (l, k)) (λ _. falls_more c.serial n (without f cs) (omega arith) k)

pub parted : (f g : Pending → Bool) (ps : List Pending) → count_by f ps ≡ count_by f (without g ps) + count_by f (those g ps)
parted f g ps = sym (sum_by-filter_both (λ p. not (g p)) g (λ p. twice (g p)) (λ p. cond (f p) 1 0) ps)
  where
    twice : (b : Bool) → b ≡ not (not b)
    twice true = refl
    twice false = refl

pub all_reached : (ps : List Pending) → without each ps ≡ []
all_reached [] = refl
all_reached (c ∷ cs) = all_reached cs
