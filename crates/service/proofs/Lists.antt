-- Lists of reports: one, two lists one after the other, and the area that they stand in
use Rattle.std.proofs.Common.{◌≡◌, ℕ, ◌+◌, ◌-◌, ◌≤◌, Bool, true, List, [], ◌∷◌, ◌++◌, length, take, drop, sym, refl, ap, ◌∙◌, append_assoc, append-nil, arith, length-append}
use borrow.Rule.Slice.PartMut.{put_mid}
use Rattle.std.proofs.lemmas.Bool.Decides.{nat_tests}
use Rattle.report.specs.Report.{Content, over, fits, next_count, report_of, reports_of}
use Rattle.report.proofs.Over.{over_rest}
use Rattle.service.specs.State.{State, count_after, counted}
use Rattle.service.specs.Reports.{octets_of, area_after, Gives}

pub fits_here : (room n : ℕ) → n ≤ 962 → 980 ≤ room → fits room n ≡ true
fits_here room n a b = grind (arith, nat_tests)

pub one_report : (n t : ℕ) (c : Content) → reports_of n t (c ∷ []) ≡ report_of n t c
one_report n t c = append-nil (report_of n t c)

pub reports_append : (n t : ℕ) (xs ys : List Content) → reports_of n t (xs ++ ys) ≡ reports_of n t xs ++ reports_of (count_after n xs) t ys
reports_append n t [] ys = refl
reports_append n t (x ∷ xs) ys =
    ap (λ (l : List ℕ). report_of n t x ++ l) (reports_append (next_count n) t xs ys)
    ∙ sym (append_assoc (report_of n t x) (reports_of (next_count n) t xs) (reports_of (count_after (next_count n) xs) t ys))

pub count_append : (n : ℕ) (xs ys : List Content) → count_after n (xs ++ ys) ≡ count_after (count_after n xs) ys
count_append n [] ys = refl
count_append n (x ∷ xs) ys = count_append (next_count n) xs ys

-- a state with other numbers enabled
abbrev pub with : State → (ℕ → Bool) → (ℕ → Bool) → State
with s f g = record { clock = s.clock; count = s.count; subschedules = f; apids = g }

-- reports written from a place on, after those before it
pub and_then : (s : State) (f₁ g₁ f g : ℕ → Bool) (xs ys : List Content) (e a b : List ℕ) (at n : ℕ) (end : State) →
    at ≡ length (octets_of s xs) → a ≡ area_after s xs e → at ≤ length a →
    Gives (counted (with s f₁ g₁) xs) (with (counted (with s f₁ g₁) xs) f g) ys (take (length a - at) (drop at a)) b end n →
    Gives s (with s f g) (xs ++ ys) e (put_mid at (length a - at) a b) end (at + n)
and_then s f₁ g₁ f g xs ys e a b at n end starts first within then =
    let p : List ℕ = octets_of s xs in
    let q : List ℕ = reports_of (count_after s.count xs) s.clock ys in
    let w = reports_append s.count s.clock xs ys in
    record {
      written =
          (let l = length-append p q in let k : at + n ≡ length (p ++ q) = omega (arith, then.written) in k) ∙ ap length (sym w);
      area =
          over_rest p e a q b at (sym starts) first within then.area ∙ ap (λ (l : List ℕ). over l e) (sym w);
      state =
          then.state
          ∙ ap (λ (c : ℕ). record { clock = s.clock; count = c; subschedules = f; apids = g }) (sym (count_append s.count xs ys));
    }
