-- The order of a list of commands does not depend on the slots that hold them
use Rattle.std.proofs.Common.{◌≡◌, ℕ, ◌<◌, Bool, true, false, cond, List, [], ◌∷◌, ◌++◌, Some, None, Option, sym, refl, ap, ◌∙◌, subst, arith}
use Rattle.schedule.specs.declared.moment.Moment.{Moment}
use Rattle.schedule.specs.declared.pending.Pending.{Pending}
use Rattle.schedule.specs.Pending.{moment_of}
use Rattle.schedule.specs.Listing.{before, listed}
use Rattle.summary.specs.Summary.{put, in_order}
use Rattle.summary.proofs.Turns.{before_chain, before_back, lo, hi, eq, side}
use Rattle.summary.proofs.InOrder.{put_lo, put_hi, put_eq}
use Rattle.holding.specs.Holding.{Holds, Falls}
use Rattle.holding.proofs.Holding.{falls_more}

-- c is before d
module _ (c d : Pending) (b : before (moment_of c) (moment_of d) ≡ true) where
  -- d goes behind c
  behind : (l : List Pending) → put d (c ∷ l) ≡ c ∷ put d l
  behind l = put_hi d c l (before_back (moment_of c) (moment_of d) b) b

  -- c goes in front, where it is before the first
  front : (x : Pending) (l : List Pending) → before (moment_of c) (moment_of x) ≡ true → put c (put d (x ∷ l)) ≡ c ∷ put d (x ∷ l)
  front x l h =
      elim (side (moment_of d) (moment_of x)) [
        | lo e ↦ ap (put c) (put_lo d x l e) ∙ (put_lo c d (x ∷ l) b ∙ ap (λ (z : List Pending). c ∷ z) (sym (put_lo d x l e)))
        | hi e f ↦ ap (put c) (put_hi d x l e f) ∙ (put_lo c x (put d l) h ∙ ap (λ (z : List Pending). c ∷ z) (sym (put_hi d x l e f)))
        | eq e f g ↦ ap (put c) (put_eq d x l e f) ∙ (put_lo c d l b ∙ ap (λ (z : List Pending). c ∷ z) (sym (put_eq d x l e f)))
      ]

  rising_swap : (l : List Pending) → put c (put d l) ≡ put d (put c l)
  rising_swap [] = put_lo c d [] b ∙ sym (behind [])
  rising_swap (x ∷ l) =
      let k = rising_swap l in
      elim (side (moment_of c) (moment_of x)) [
        | lo e ↦ front x l e ∙ sym (ap (put d) (put_lo c x l e) ∙ behind (x ∷ l))
        | hi e f ↦
            let t : before (moment_of x) (moment_of d) ≡ true = before_chain (moment_of x) (moment_of c) (moment_of d) f b in
            let u = before_back (moment_of x) (moment_of d) t in
            ap (put c) (put_hi d x l u t)
            ∙ (put_hi c x (put d l) e f ∙ (ap (λ (z : List Pending). x ∷ z) k ∙ sym (ap (put d) (put_hi c x l e f) ∙ put_hi d x (put c l) u t)))
        | eq e f g ↦
            let t : before (moment_of x) (moment_of d) ≡ true = subst (λ (m : Moment). before m (moment_of d) ≡ true) g b in
            let u = before_back (moment_of x) (moment_of d) t in
            ap (put c) (put_hi d x l u t) ∙ (put_eq c x (put d l) e f ∙ sym (ap (put d) (put_eq c x l e f) ∙ behind l))
      ]

pub put_swap : (c d : Pending) (l : List Pending) → (c.serial ≡ d.serial → ⊥) → put c (put d l) ≡ put d (put c l)
put_swap c d l n =
    elim (side (moment_of c) (moment_of d)) [
      | lo e ↦ rising_swap c d e l
      | hi e f ↦ sym (rising_swap d c f l)
      | eq e f g ↦ absurd (n (ap (λ (m : Moment). m.serial) g))
    ]

-- put where it is listed
abbrev placed : Bool → Pending → List Pending → List Pending
placed b c l = cond b (put c l) l

placed_swap : (a b : Bool) (c d : Pending) (l : List Pending) → (c.serial ≡ d.serial → ⊥) → placed a c (placed b d l) ≡ placed b d (placed a c l)
placed_swap true true c d l n = put_swap c d l n
placed_swap true false c d l n = refl
placed_swap false true c d l n = refl
placed_swap false false c d l n = refl

-- the order of the commands themselves
abbrev list_of : ℕ → List Pending → List Pending
list_of s [] = []
list_of s (c ∷ cs) = placed (listed s c) c (list_of s cs)

falls_at : (n : ℕ) (us : List Pending) (c : Pending) (vs : List Pending) → Falls n (us ++ c ∷ vs) → c.serial < n
falls_at n [] c vs (l, f) = l
falls_at n (u ∷ us) c vs (l, f) = let h = falls_at u.serial us c vs f in omega arith

falls_out : (n : ℕ) (us : List Pending) (c : Pending) (vs : List Pending) → Falls n (us ++ c ∷ vs) → Falls n (us ++ vs)
falls_out n [] c vs (l, f) = falls_more c.serial n vs (omega arith) f
falls_out n (u ∷ us) c vs (l, f) = (l, falls_out u.serial us c vs f)

-- one of falling serials may be put last
listed_last : (s n : ℕ) (us : List Pending) (c : Pending) (vs : List Pending) → Falls n (us ++ c ∷ vs) → list_of s (us ++ c ∷ vs) ≡ placed (listed s c) c (list_of s (us ++ vs))
listed_last s n [] c vs f = refl
listed_last s n (u ∷ us) c vs (l, f) =
    let h = falls_at u.serial us c vs f in
    ap (placed (listed s u) u) (listed_last s u.serial us c vs f)
    ∙ placed_swap (listed s u) (listed s c) u c (list_of s (us ++ vs)) (λ e. omega arith)

order_held : (s n : ℕ) (xs : List (Option Pending)) (ps : List Pending) → Falls n ps → Holds xs ps → in_order s xs ≡ list_of s ps
order_held s n [] ps f h = ap (list_of s) (sym h)
order_held s n (None ∷ xs) ps f h = order_held s n xs ps f h
order_held s n (Some c ∷ xs) ps f (us, (vs, (q, h))) =
    let g : Falls n (us ++ c ∷ vs) = subst (Falls n) q f in
    ap (placed (listed s c) c) (order_held s n xs (us ++ vs) (falls_out n us c vs g) h)
    ∙ (sym (listed_last s n us c vs g) ∙ ap (list_of s) (sym q))

pub orders_held : (s n : ℕ) (xs ys : List (Option Pending)) (ps : List Pending) → Falls n ps → Holds xs ps → Holds ys ps → in_order s xs ≡ in_order s ys
orders_held s n xs ys ps f h k = order_held s n xs ps f h ∙ sym (order_held s n ys ps f k)
