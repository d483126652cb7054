-- The oldest packet of the used octets, and what is left when it is let go
use Rattle.std.proofs.Common.{◌≡◌, ◌<◌, ℕ, ◌+◌, ◌-◌, ◌/◌, ◌%◌, ◌≤◌, true, List, [], ◌∷◌, ◌++◌, length, take, drop, sym, refl, ap, ◌∙◌, append_assoc, arith, length-append, length-drop, take-append-drop, length-take-le, take_at, drop_at}
use Rattle.std.specs.List.{list_all}
use Rattle.std.proofs.lemmas.List.{drop-take}
use lib.Seq.{take-append-le}
use Rattle.queue.specs.Ring.{Memory, round, ringed, framed, encode, parse, waits}
use Rattle.queue.specs.declared.store.Queue.{Queue}
use Rattle.queue.specs.Queue.{waits_in}
use Rattle.queue.specs.Rules.{carried}
use Rattle.queue.specs.Keeps.{parts}
use Rattle.queue.proofs.Frames.{parse-encode}
use Rattle.queue.proofs.Rounds.{length_ringed}

-- the oldest of some packets that lie in the first u octets of m, and those behind it
pub record Oldest (m : List ℕ) (u L : ℕ) (ws : List (List ℕ)) : Type 0 where
  pub w : List ℕ
  pub rest : List (List ℕ)
  pub is : ws ≡ w ∷ rest
  pub header : take 2 m ≡ length w / 256 ∷ length w % 256 ∷ []
  pub small : length w ≤ 228
  pub fits : 2 + length w ≤ u
  pub body : take (length w) (drop 2 m) ≡ w
  pub tail : drop (2 + length w) (take u m) ≡ encode rest
  pub fine : list_all (carried L) rest ≡ true

oldest : (m : List ℕ) (u L : ℕ) (ws : List (List ℕ)) → u ≤ length m → encode ws ≡ take u m → list_all (carried L) ws ≡ true → 0 < u → Oldest m u L ws
oldest m u L [] h x f t =
    let l = length-take-le u m h in
    let z : length (take u m) ≡ 0 = sym (ap length x) in absurd (omega arith)
oldest m u L (w ∷ rest) h x f t =
    let l = length-take-le u m h in
    let s : m ≡ (framed w ++ encode rest) ++ drop u m = sym (take-append-drop u m) ∙ ap (λ (y : List ℕ). y ++ drop u m) (sym x) in
    let d2 : drop 2 m ≡ (w ++ encode rest) ++ drop u m = ap (drop 2) s in
    let a = append_assoc w (encode rest) (drop u m) in
    let lx : length (framed w ++ encode rest) ≡ length (take u m) = ap length x in
    let la = length-append w (encode rest) in
    let p : (carried L w ≡ true) × (list_all (carried L) rest ≡ true) = grind arith in
    let q = parts L w p.0 in
    record {
      w = w;
      rest = rest;
      is = refl;
      header = ap (take 2) s;
      small = q.1.0;
      fits = omega arith;
      body = ap (take (length w)) (d2 ∙ a) ∙ take_at w (encode rest ++ drop u m) (length w) refl;
      tail = ap (drop (2 + length w)) (sym x) ∙ drop_at (framed w) (encode rest) (2 + length w) (omega arith);
      fine = p.1;
    }

pub oldest_of : (q : Queue) → 0 < q.used → Oldest (ringed q.ring) q.used (length q.ring.octets) (waits_in q)
oldest_of q some = oldest (ringed q.ring) q.used (length q.ring.octets) (waits_in q) (omega (arith, length_ringed q.ring, q.within)) q.exact q.fine some

-- the used octets after the first k are let go: the start moves on, and the ring is read from there
pub let_go : (t : List ℕ) (u k : ℕ) → k ≤ u → u ≤ length t → take (u - k) (round t k) ≡ drop k (take u t)
unfolding round
let_go t u k h l =
    let ld = length-drop k t in
    let a = take-append-le (u - k) (drop k t) (take k t) (omega arith) in
    let e : k + (u - k) ≡ u = omega arith in
    let d = drop-take k (u - k) t in
    cc

-- what lies in a memory once it is let go
pub record Popped (m : Memory) (u L : ℕ) (rest : List (List ℕ)) : Type 0 where
  pub within : u ≤ length m.octets
  pub size : length m.octets ≡ L
  pub waiting : waits (ringed m) u ≡ rest
  pub exact : encode (waits (ringed m) u) ≡ take u (ringed m)
  pub fine : list_all (carried (length m.octets)) (waits (ringed m) u) ≡ true

pub popped : (q : Queue) (m : Memory) (n : ℕ) (h : Oldest (ringed q.ring) q.used (length q.ring.octets) (waits_in q)) → n ≡ length h.w →
    m.octets ≡ q.ring.octets → ringed m ≡ round (ringed q.ring) (2 + n) → Popped m (q.used - (2 + n)) (length q.ring.octets) h.rest
unfolding waits
popped q m n h i o r =
    let t = ringed q.ring in
    let u = q.used - (2 + n) in
    let b = h.fits in
    let w = q.within in
    let l = ap length o in
    let lt = length_ringed q.ring in
    let lm = length_ringed m in
    let i2 : 2 + n ≡ 2 + length h.w = omega arith in
    let s : take u (ringed m) ≡ encode h.rest = ap (take u) r ∙ let_go t q.used (2 + n) (omega arith) (omega arith) ∙ ap (λ (j : ℕ). drop j (take q.used t)) i2 ∙ h.tail in
    let l1 = length-take-le u (ringed m) (omega arith) in
    let e : parse u (take u (ringed m)) ≡ h.rest = ap (parse u) s ∙ parse-encode h.rest u (omega (arith, ap length s)) in
    record {
      within = omega arith;
      size = l;
      waiting = e;
      exact = ap encode e ∙ sym s;
      fine = rw (l, e) h.fine;
    }
