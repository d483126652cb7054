-- Packets behind their lengths, one after another: laid down, and read again
use Rattle.std.proofs.Common.{◌≡◌, ℕ, zero, suc, ◌+◌, ◌*◌, ◌/◌, ◌%◌, ◌≤◌, List, [], ◌∷◌, ◌++◌, length, take, drop, sym, refl, ap, ◌∙◌, append_assoc, append-nil, arith, length-append, length-drop, drop-drop, length-take-le, take_at, drop_at}
use Rattle.std.specs.List.{sum_by}
use Rattle.std.proofs.lemmas.List.Concat.{flat_map-append, length-flat_map}
use Rattle.queue.specs.Ring.{framed, encode, parse, waits, put_at}
use Rattle.queue.specs.Rules.{spent}

-- what was laid down is read again
pub parse-encode : (ws : List (List ℕ)) (k : ℕ) → length (encode ws) ≤ k → parse k (encode ws) ≡ ws
parse-encode [] zero h = refl
parse-encode [] (suc k) h = refl
parse-encode (p ∷ ps) zero h = absurd (omega arith)
parse-encode (p ∷ ps) (suc k) h =
    let e : length p ≡ 256 * (length p / 256) + length p % 256 = omega arith in
    let t = take_at p (encode ps) _ e in
    let d = drop_at p (encode ps) _ e in
    let l = length-append p (encode ps) in
    let i = parse-encode ps k (omega arith) in
    cc

length-framed : (p : List ℕ) → length (framed p) ≡ 2 + length p
length-framed p = omega arith

-- how many octets packets take up
pub length-encode : (ws : List (List ℕ)) → length (encode ws) ≡ spent ws
length-encode ws = length-flat_map framed ws ∙ (λ i. sum_by (λ p. length-framed p i) ws)

-- the waiting packets take up the used octets
pub spent_used : (m : List ℕ) (u : ℕ) → u ≤ length m → encode (waits m u) ≡ take u m → spent (waits m u) ≡ u
spent_used m u h x = sym (length-encode (waits m u)) ∙ ap length x ∙ length-take-le u m h

-- the used part after a packet is laid down
pub used_part : (m p : List ℕ) (u : ℕ) → u + (2 + length p) ≤ length m → take (u + (2 + length p)) (put_at m u p) ≡ take u m ++ framed p
used_part m p u h =
    let k = u + (2 + length p) in
    let lt = length-take-le u m (omega arith) in
    let lf = length-append (take u m) (framed p) in
    ap (take k) (sym (append_assoc (take u m) (framed p) (drop k m))) ∙ take_at (take u m ++ framed p) (drop k m) k (omega arith)

-- a header written behind the used octets, and a packet behind it
pub laid_down : (m h p n k : List ℕ) (u : ℕ) → u + (2 + length p) ≤ length m → h ≡ length p / 256 ∷ length p % 256 ∷ [] →
    n ≡ take u m ++ (h ++ drop (u + length h) m) → k ≡ take (u + 2) n ++ (p ++ drop (u + 2 + length p) n) → k ≡ put_at m u p
laid_down m h p n k u l eh en ek =
    let two : length h ≡ 2 = ap length eh in
    let lt = length-take-le u m (omega arith) in
    let lf = length-append (take u m) h in
    let a = append_assoc (take u m) h (drop (u + length h) m) in
    let b : n ≡ (take u m ++ h) ++ drop (u + length h) m = en ∙ sym a in
    let t : take (u + 2) n ≡ take u m ++ h = ap (take (u + 2)) b ∙ take_at (take u m ++ h) (drop (u + length h) m) (u + 2) (omega arith) in
    let d : drop (u + 2) n ≡ drop (u + length h) m = ap (drop (u + 2)) b ∙ drop_at (take u m ++ h) (drop (u + length h) m) (u + 2) (omega arith) in
    let e1 = drop-drop (length p) (u + 2) n in
    let e2 = drop-drop (length p) (u + length h) m in
    let i : u + length h + length p ≡ u + (2 + length p) = omega arith in
    let c = append_assoc (take u m) h (p ++ drop (u + (2 + length p)) m) in
    cc

module _ (m p n : List ℕ) (u : ℕ) (h : u + (2 + length p) ≤ length m) (is : n ≡ put_at m u p) where
  lt : length (take u m) ≡ u
  lt = length-take-le u m (omega arith)

  lf : length (take u m ++ framed p) ≡ u + (2 + length p)
  lf = omega (arith, lt, length-append (take u m) (framed p))

  split : n ≡ (take u m ++ framed p) ++ drop (u + (2 + length p)) m
  split = is ∙ sym (append_assoc (take u m) (framed p) (drop (u + (2 + length p)) m))

  pub length_put : length n ≡ length m
  length_put = ap length split ∙ omega (arith, lf, length-append (take u m ++ framed p) (drop (u + (2 + length p)) m), length-drop (u + (2 + length p)) m)

  used_now : encode (waits m u) ≡ take u m → take (u + (2 + length p)) n ≡ encode (waits m u ++ p ∷ [])
  used_now x =
      let s = flat_map-append framed (waits m u) (p ∷ []) in
      let z = append-nil (framed p) in
      let t = ap (take (u + (2 + length p))) is ∙ used_part m p u h in
      cc

  -- one packet more waits
  pub grown : encode (waits m u) ≡ take u m → waits n (u + (2 + length p)) ≡ waits m u ++ p ∷ []
  unfolding waits
  grown x =
      let e = used_now x in
      let l = length-take-le (u + (2 + length p)) n (omega (arith, length_put)) in
      ap (parse (u + (2 + length p))) e ∙ parse-encode (waits m u ++ p ∷ []) (u + (2 + length p)) (omega (arith, ap length e))

  pub exact_again : encode (waits m u) ≡ take u m → encode (waits n (u + (2 + length p))) ≡ take (u + (2 + length p)) n
  exact_again x = ap encode (grown x) ∙ sym (used_now x)
