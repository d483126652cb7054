-- What is kept of some octets
use Rattle.std.proofs.Common.{◌≡◌, ℕ, ◌-◌, ◌≤◌, ◌++◌, List, length, take, drop, replicate, min, refl, ap, ◌∙◌, arith, length-take, length-take-le, take_all, take_at}
use Rattle.std.proofs.lemmas.List.{take_min, drop-replicate}
use Rattle.std.specs.Coded.{Coded-set, coded_list, coded_ℕ, le_prop}
use mathlib.Core.HLevel.{is_prop→PathP}
use Rattle.octets.specs.declared.Octets.{Octets}
use Rattle.octets.specs.Padded.{padded, padded_back}
use Rattle.octets.specs.Octets.{seen, kept}

-- what is kept shows the first octets
pub seen_kept : (n : ℕ) (xs : List ℕ) → seen (kept n xs) ≡ take n xs
unfolding kept
seen_kept n xs = take_at (take n xs) (replicate (n - length (take n xs)) 0) (length (take n xs)) refl

-- a fact has one proof
pub same : {n : ℕ} (o p : Octets n) → o.len ≡ p.len → o.octets ≡ p.octets → o ≡ p
same {n} o p h k =
    λ i. record {
      len = h i;
      octets = k i;
      few = is_prop→PathP (λ j. h j ≤ n) (λ j. le_prop) o.few p.few i;
      whole = is_prop→PathP (λ j. length (k j) ≡ n) (λ j. Coded-set coded_ℕ _ _) o.whole p.whole i;
      clean = is_prop→PathP (λ j. drop (h j) (k j) ≡ replicate (n - h j) 0) (λ j. Coded-set (coded_list coded_ℕ) _ _) o.clean p.clean i;
    }

-- a value keeps just the octets that it shows, so equal octets are equal values
pub kept_seen : {n : ℕ} (o : Octets n) → kept n (seen o) ≡ o
unfolding kept
kept_seen {n} o =
    let l : length (seen o) ≡ o.len = length-take-le o.len o.octets (omega (arith, o.few, o.whole)) in
    let t : take n (seen o) ≡ seen o = take_all n (seen o) (omega (arith, l, o.few)) in
    same (kept n (seen o)) o (ap length t ∙ l) (ap (padded n) t ∙ padded_back n o.len o.octets o.few o.whole o.clean)

-- the first octets, as many as fit, laid over zeros
module _ (n k : ℕ) (xs : List ℕ) (most : k ≡ min (length xs) n) where
  pub laid_len : k ≡ length (take n xs)
  laid_len = omega (arith, length-take n xs)

  pub laid_octets : take k xs ++ drop k (replicate n 0) ≡ padded n (take n xs)
  laid_octets =
      ap (λ l. l ++ drop k (replicate n 0)) (ap (λ m. take m xs) (laid_len ∙ length-take n xs) ∙ take_min n xs)
      ∙ ap (λ l. take n xs ++ l) (drop-replicate k n 0 ∙ ap (λ m. replicate (n - m) 0) laid_len)
