-- A memory read round from a place: reading, writing, and going on
use Rattle.std.proofs.Common.{◌≡◌, ℕ, ◌+◌, ◌-◌, ◌≤◌, List, [], ◌++◌, length, take, drop, sym, refl, ap, ◌∙◌, append_assoc, append-nil, arith, length-append, length-drop, take-append-drop, length-take-le, take_all, take-take, drop-drop, take_at, take-add, drop_at, inl, inr, lt-ltb, le-ltb, ◌<◌}
use Rattle.std.proofs.lemmas.Bool.{cases_lt}
use Rattle.std.proofs.lemmas.Grind.{common_steps}
use lib.Seq.{take-append-le, drop-append-le, take-append-add, drop-append-add}
use Rattle.std.proofs.lemmas.List.{drop_all}
use Rattle.queue.specs.Ring.{Memory, round, ringed, ahead}

pub length-round : (m : List ℕ) (a : ℕ) → a ≤ length m → length (round m a) ≡ length m
unfolding round
length-round m a h = grind (arith, common_steps)

-- so many octets are read round, also from a place past their end
pub length_ringed : (m : Memory) → length (ringed m) ≡ length m.octets
unfolding round
length_ringed m = grind (arith, common_steps)

-- from the front on they stand as they are
pub round_front : (m : List ℕ) → round m 0 ≡ m
unfolding round
round_front m = append-nil m

-- parts of two lists in a row, past the first
past_drop : (xs ys : List ℕ) (n k : ℕ) → n ≡ length xs + k → drop n (xs ++ ys) ≡ drop k ys
past_drop xs ys n k e = ap (λ (i : ℕ). drop i (xs ++ ys)) e ∙ drop-append-add xs ys k

past_take : (xs ys : List ℕ) (n k : ℕ) → n ≡ length xs + k → take n (xs ++ ys) ≡ xs ++ take k ys
past_take xs ys n k e = ap (λ (i : ℕ). take i (xs ++ ys)) e ∙ take-append-add xs ys k

pub read_near : (m : List ℕ) (a n : ℕ) → n ≤ length m - a → take n (drop a m) ≡ take n (round m a)
unfolding round
read_near m a n h =
    let l = length-drop a m in
    sym (take-append-le n (drop a m) (take a m) (omega arith))

pub read_far : (m : List ℕ) (a n : ℕ) → a ≤ length m → n ≤ length m → length m - a ≤ n →
    drop a m ++ take (n - (length m - a)) m ≡ take n (round m a)
unfolding round
read_far m a n h k f =
    let l = length-drop a m in
    let e = past_take (drop a m) (take a m) n (n - (length m - a)) (omega arith) in
    let t = take-take (n - (length m - a)) a m (omega arith) in cc

pub write_near : (m xs : List ℕ) (a : ℕ) → a + length xs ≤ length m →
    round (take a m ++ (xs ++ drop (length xs) (drop a m))) a ≡ xs ++ drop (length xs) (round m a)
unfolding round
write_near m xs a h =
    let l = length-drop a m in
    let lt = length-take-le a m (omega arith) in
    let d = drop_at (take a m) (xs ++ drop (length xs) (drop a m)) a lt in
    let t = take_at (take a m) (xs ++ drop (length xs) (drop a m)) a lt in
    let e = drop-append-le (length xs) (drop a m) (take a m) (omega arith) in
    let s = append_assoc xs (drop (length xs) (drop a m)) (take a m) in cc

pub write_far : (m xs : List ℕ) (a k j : ℕ) → a ≤ length m → k ≡ length m - a → length xs ≤ length m → k ≤ length xs → j ≡ length xs - k →
    round (drop k xs ++ drop j (take a m ++ take k xs)) a ≡ xs ++ drop (length xs) (round m a)
unfolding round
write_far m xs a k j h ek lx kx ej =
    let l = length-drop a m in
    let lt = length-take-le a m h in
    let lk = length-take-le k xs kx in
    let ld = length-drop k xs in
    let lj = length-drop j (take a m) in
    let d : drop j (take a m ++ take k xs) ≡ drop j (take a m) ++ take k xs = drop-append-le j (take a m) (take k xs) (omega arith) in
    let s = append_assoc (drop k xs) (drop j (take a m)) (take k xs) in
    let b = drop k xs ++ drop j (take a m) in
    let lb : length b ≡ a = omega (arith, length-append (drop k xs) (drop j (take a m))) in
    let d1 = drop_at b (take k xs) a lb in
    let t1 = take_at b (take k xs) a lb in
    let r = past_drop (drop a m) (take a m) (length xs) j (omega arith) in
    let w = take-append-drop k xs in
    let v = append_assoc (take k xs) (drop k xs) (drop j (take a m)) in
    cc

onwards_near : (m : List ℕ) (a n : ℕ) → n < length m - a → round m (a + n) ≡ round (round m a) n
unfolding round
onwards_near m a n h = grind (arith, append_assoc, drop-append-le n (drop a m) (take a m), take-append-le n (drop a m) (take a m), drop-drop, take-add, length-drop)

onwards_far : (m : List ℕ) (a n : ℕ) → a ≤ length m → length m - a ≤ n → n ≤ length m → round m (n - (length m - a)) ≡ round (round m a) n
unfolding round
onwards_far m a n h f k =
    let j = n - (length m - a) in
    let ld = length-drop a m in
    let lt = length-take-le a m h in
    let d = past_drop (drop a m) (take a m) n j (omega arith) in
    let t = past_take (drop a m) (take a m) n j (omega arith) in
    let w = take-append-drop a m in
    grind (arith, append_assoc, drop-append-le j (take a m) (drop a m), take-append-le j (take a m) (drop a m))

-- reading round from a place further on is going round what is read from here
pub onwards : (m : List ℕ) (a n : ℕ) → a ≤ length m → n ≤ length m → round m (ahead (length m) a n) ≡ round (round m a) n
onwards m a n h k =
    elim (cases_lt n (length m - a)) [
      | inl s ↦ simp (lt-ltb n (length m - a) s) (onwards_near m a n s)
      | inr f ↦ simp (le-ltb n (length m - a) f) (onwards_far m a n h f k)
    ]

same_parts : (a b c d : List ℕ) → length a ≡ length c → a ++ b ≡ c ++ d → (a ≡ c) × (b ≡ d)
same_parts a b c d l e =
    let n = length a in
    (sym (take_at a b n refl) ∙ ap (take n) e ∙ take_at c d n (sym l), sym (drop_at a b n refl) ∙ ap (drop n) e ∙ drop_at c d n (sym l))

laid_behind : (t k p : List ℕ) (u : ℕ) → length k ≡ length t → u + length p ≤ length t → round k u ≡ p ++ drop (length p) (round t u) → k ≡ take u t ++ (p ++ drop (u + length p) t)
unfolding round
laid_behind t k p u l h e =
    let ld = length-drop u t in
    let lk = length-drop u k in
    let c = drop-append-le (length p) (drop u t) (take u t) (omega arith) in
    let d = drop-drop (length p) u t in
    let q = p ++ drop (u + length p) t in
    let s = append_assoc p (drop (u + length p) t) (take u t) in
    let lq : length q ≡ length t - u = omega (arith, length-append p (drop (u + length p) t), length-drop (u + length p) t) in
    let both : drop u k ++ take u k ≡ q ++ take u t = cc in
    let r = same_parts (drop u k) (take u k) q (take u t) (omega arith) both in
    let w = take-append-drop u k in
    let x = r.0 in
    let y = r.1 in
    cc

-- what is written u octets on from a place, as read from that place
pub written : (m n p : List ℕ) (a u f : ℕ) → a ≤ length m → u + length p ≤ length m → length n ≡ length m → f ≡ ahead (length m) a u →
    round n f ≡ p ++ drop (length p) (round m f) → round n a ≡ take u (round m a) ++ (p ++ drop (u + length p) (round m a))
written m n p a u f h k l ef e =
    let t = round m a in
    let k' = round n a in
    let lt : length t ≡ length m = length-round m a h in
    let lk : length k' ≡ length n = length-round n a (omega arith) in
    let o1 : round m f ≡ round t u = ap (round m) ef ∙ onwards m a u h (omega arith) in
    let o2 : round n f ≡ round k' u = ap (round n) ef ∙ ap (λ (z : ℕ). round n (ahead z a u)) (sym l) ∙ onwards n a u (omega arith) (omega arith) in
    laid_behind t k' p u (omega arith) (omega arith) (sym o2 ∙ e ∙ ap (λ (z : List ℕ). p ++ drop (length p) z) o1)

-- so many octets from u on, as read from a place; none of them lies before that place
pub read_on : (m : List ℕ) (a u n f : ℕ) → a ≤ length m → u + n ≤ length m → f ≡ ahead (length m) a u → take n (round m f) ≡ take n (drop u (round m a))
unfolding round
read_on m a u n f h l e =
    let t = round m a in
    let o = onwards m a u h (omega arith) in
    ap (λ (z : ℕ). take n (round m z)) e ∙ ap (take n) o ∙ take-append-le n (drop u t) (take u t) (omega (arith, length-round m a h, length-drop u t))

-- what the code's two ways of reading and of writing leave
pub read_one : (m : List ℕ) (a n k : ℕ) → n ≤ length m - a → k ≡ n → take k (drop a m) ≡ take n (round m a)
read_one m a n k h e = let r = read_near m a n h in cc

pub read_two : (m out x y : List ℕ) (a t k j : ℕ) → a ≤ length m → length out ≤ length m → t ≡ length m - a → t ≤ length out →
    x ≡ take t (drop a m) → y ≡ take j m → j ≡ length out - t → length out - t ≤ k →
    take t (x ++ drop t out) ++ (y ++ drop k (drop t (x ++ drop t out))) ≡ take (length out) (round m a)
read_two m out x y a t k j h l et lt ex ey ej lk =
    let ld = length-drop a m in
    let w : take t (drop a m) ≡ drop a m = take_all t (drop a m) (omega arith) in
    let lx : length x ≡ t = ap length (ex ∙ w) ∙ ld ∙ sym et in
    let t1 = take_at x (drop t out) t lx in
    let d1 = drop_at x (drop t out) t lx in
    let lo = length-drop t out in
    let n : drop k (drop t out) ≡ [] = drop_all k (drop t out) (omega arith) in
    let z = append-nil y in
    let r = read_far m a (length out) h l (omega arith) in
    let e : j ≡ length out - (length m - a) = omega arith in cc

pub write_one : (m xs x : List ℕ) (a k : ℕ) → a + length xs ≤ length m → k ≡ length xs → x ≡ xs →
    round (take a m ++ (x ++ drop k (drop a m))) a ≡ xs ++ drop (length xs) (round m a)
write_one m xs x a k h e f = let w = write_near m xs a h in cc

pub write_two : (m xs x y : List ℕ) (a t j k : ℕ) → a ≤ length m → length xs ≤ length m → t ≡ length m - a → t ≤ length xs →
    x ≡ take t xs → y ≡ take k (drop t xs) → k ≡ length xs - t → j ≡ length xs - t →
    round (y ++ drop j (take a m ++ (x ++ drop t (drop a m)))) a ≡ xs ++ drop (length xs) (round m a)
write_two m xs x y a t j k h l et lt ex ey ek ej =
    let ld = length-drop a m in
    let lx = length-drop t xs in
    let w : take k (drop t xs) ≡ drop t xs = take_all k (drop t xs) (omega arith) in
    let n : drop t (drop a m) ≡ [] = drop_all t (drop a m) (omega arith) in
    let z = append-nil x in
    let r = write_far m xs a t j h et l lt ej in cc
