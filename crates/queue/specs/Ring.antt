-- The memory of a queue: a ring of octets, and the packets that lie in it
use Rattle.std.specs.Prelude.{ℕ, zero, suc, ◌+◌, ◌-◌, ◌*◌, ◌/◌, ◌%◌, cond, List, [], ◌∷◌, ◌++◌, length, take, drop, nat_lt}
use Rattle.std.specs.List.{flat_map}

-- a memory read round from a place: from there to its end, then from its front up to there
unfoldable pub round : List ℕ → ℕ → List ℕ
round m place = drop place m ++ take place m

-- octets that are lent, and the place in them from which they are read
pub record Memory : Type 0 where
  pub octets : List ℕ
  pub start : ℕ

-- all of them, read round from the start
abbrev pub ringed : Memory → List ℕ
ringed m = round m.octets m.start

-- the place n octets on in a ring of so many octets
abbrev pub ahead : ℕ → ℕ → ℕ → ℕ
ahead ring place n = cond (nat_lt n (ring - place)) (place + n) (n - (ring - place))

-- how a packet lies there: two octets with its length, most significant first, then its own
abbrev pub framed : List ℕ → List ℕ
framed p = length p / 256 ∷ length p % 256 ∷ p

-- packets one after another
abbrev pub encode : List (List ℕ) → List ℕ
encode ps = flat_map framed ps

-- the packets that lie one after another in some octets, at most k of them: each length read, then so many octets
abbrev pub parse : ℕ → List ℕ → List (List ℕ)
parse zero xs = []
parse (suc k) [] = []
parse (suc k) (h ∷ []) = []
parse (suc k) (h ∷ l ∷ xs) = take (256 * h + l) xs ∷ parse k (drop (256 * h + l) xs)

-- the packets in the first u octets
unfoldable pub waits : List ℕ → ℕ → List (List ℕ)
waits octets u = parse u (take u octets)

-- octets with a packet laid down after the first u
abbrev pub put_at : List ℕ → ℕ → List ℕ → List ℕ
put_at octets u p = take u octets ++ (framed p ++ drop (u + (2 + length p)) octets)
