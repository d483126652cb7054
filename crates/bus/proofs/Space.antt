-- A mailbox is empty exactly where no packet waits for its APID
use Rattle.std.proofs.Common.{◌≡◌, ℕ, ◌<◌, true, not, eqb, List, [], map, length, get_or, count_by, sym, refl, ap, ◌∙◌, inl, inr, arith}
use Rattle.std.specs.List.{range_with_len}
use Rattle.std.proofs.lemmas.List.{get_or_past, get_or_default, get_or-map, length-map}
use Rattle.std.proofs.lemmas.Option.{same_Some}
use Rattle.std.proofs.lemmas.List.FromFn.{length-map-range_with_len, get_or-map-range_with_len}
use Rattle.std.proofs.lemmas.List.Folds.{list_any_at, Any-from_list_any}
use Rattle.std.proofs.lemmas.Bool.{eq-eqb, eqb-true, cases_lt}
use Rattle.std.proofs.lemmas.Bool.Decides.{nat_tests}
use Rattle.std.specs.Cmp.{both_ways}
use Rattle.bus.specs.declared.mailbox.Mailbox.{Mailbox}
use Rattle.packet.specs.Packet.{apid_of}
use Rattle.bus.specs.Bus.{no_box, is_in, held, home, space, is_full, has_rank, filled, of_rank, waiting_in}
use Rattle.bus.specs.Kept.{Sound}
use Rattle.bus.proofs.Ranks.{full_ranked, held_rank, ranked_at, only_rank, rank_filled}
use Rattle.bus.proofs.Homes.{home_apid}

module _ (ms : List Mailbox) (a : ℕ) where
  at_rank : (k : ℕ) → k < filled ms → get_or (map apid_of (waiting_in ms)) k 0 ≡ apid_of (of_rank ms k)
  unfolding waiting_in
  at_rank k l =
      let r = length-map-range_with_len (of_rank ms) 0 (filled ms) in
      get_or-map apid_of (map (of_rank ms) (range_with_len 0 (filled ms))) k [] 0 (omega arith) ∙ ap apid_of (get_or-map-range_with_len (of_rank ms) 0 (filled ms) k k [] l (omega arith))

  long : length (map apid_of (waiting_in ms)) ≡ filled ms
  unfolding waiting_in
  long = length-map (map (of_rank ms) (range_with_len 0 (filled ms))) apid_of ∙ length-map-range_with_len (of_rank ms) 0 (filled ms)

  back : (k : ℕ) → k < filled ms → apid_of (of_rank ms k) ≡ a → is_in a (map apid_of (waiting_in ms)) ≡ true
  back k l e =
      let g = long in
      list_any_at _ (map apid_of (waiting_in ms)) k 0 (omega arith) (ap (λ (x : ℕ). eqb x a) (at_rank k l ∙ e) ∙ eq-eqb a a refl)

  there : is_in a (map apid_of (waiting_in ms)) ≡ true → (k : ℕ) × ((k < filled ms) × (apid_of (of_rank ms k) ≡ a))
  there e =
      let s = Any-from_list_any (λ x. eqb x a) (map apid_of (waiting_in ms)) e in
      let g = long in
      let l : s.0 < filled ms = omega arith in
      (s.0, (l, sym (at_rank s.0 l) ∙ get_or_default (map apid_of (waiting_in ms)) s.0 0 s.1 s.2 ∙ s.3 ∙ eqb-true s.1 a s.4))

module _ (ms : List Mailbox) (s : Sound ms) where
  one : (k : ℕ) → k < filled ms → count_by (has_rank k) ms ≡ 1
  one k l = let r = s.ranks k in grind (arith, nat_tests)

  waits_where_full : (a : ℕ) → is_full (get_or ms (home ms a) no_box) ≡ true → is_in a (map apid_of (waiting_in ms)) ≡ true
  waits_where_full a f =
      let i = home ms a in
      let l : i < length ms = elim (cases_lt i (length ms)) [ inl l ↦ l | inr g ↦ absurd (let e = get_or_past ms i no_box g in let z = ap is_full e in cc) ] in
      let r = held_rank (get_or ms i no_box).packet f in
      let few = rank_filled ms s.ranks i r.0 l r.1 in
      let o = only_rank ms i r.0 l r.1 (one r.0 few) in
      let h = s.homes i f in
      let x = apid_of (held (get_or ms i no_box)) in
      let lx : home ms x < length ms = omega arith in
      let e : x ≡ a = same_Some x a (sym (home_apid ms x lx) ∙ ap (λ (j : ℕ). (get_or ms j no_box).apid) h ∙ home_apid ms a l) in
      back ms a r.0 few (ap apid_of o ∙ e)

  full_where_waits : (a : ℕ) → is_in a (map apid_of (waiting_in ms)) ≡ true → is_full (get_or ms (home ms a) no_box) ≡ true
  full_where_waits a e =
      let t = there ms a e in
      let k = t.0 in
      let l = t.1.0 in
      let c = one k l in
      let r = ranked_at ms k (omega arith) in
      let j = r.0 in
      let f = full_ranked (get_or ms j no_box).packet k r.1.1 in
      let o = only_rank ms j k r.1.0 r.1.1 c in
      let x : apid_of (held (get_or ms j no_box)) ≡ a = ap apid_of (sym o) ∙ t.1.1 in
      let h : home ms a ≡ j = ap (home ms) (sym x) ∙ s.homes j f in
      ap (λ (i : ℕ). is_full (get_or ms i no_box)) h ∙ f

  -- space for a packet is that none waits for its APID
  pub space_says : (p : List ℕ) → space ms p ≡ not (is_in (apid_of p) (map apid_of (waiting_in ms)))
  space_says p = ap not (both_ways _ _ (waits_where_full (apid_of p)) (full_where_waits (apid_of p)))
