-- What an offer and a take keep
use Rattle.std.proofs.Common.{◌≡◌, ℕ, zero, suc, ◌<◌, ◌≤◌, true, List, [], ◌∷◌, ◌++◌, map, length, get_or, set, Some, None, Option, sym, refl, ap, ◌∙◌, inl, inr, arith}
use Rattle.std.specs.List.{list_all}
use Rattle.std.specs.Option.{is_some, option_to_list}
use Rattle.std.proofs.lemmas.List.{take_all, get_or-set_same, get_or-set_other}
use Rattle.std.proofs.lemmas.List.Folds.{list_all-append, position_or_len-set}
use Rattle.std.proofs.lemmas.Bool.{cases_eq}
use Rattle.bus.specs.declared.mailbox.Held.{Held}
use Rattle.bus.specs.declared.mailbox.Mailbox.{Mailbox}
use Rattle.octets.proofs.Kept.{seen_kept}
use Rattle.packet.specs.Packet.{apid_of}
use Rattle.bus.specs.Bus.{no_box, home, is_for, is_full, octets_of, held, filled, of_rank, waiting_in, apids_in, carried}
use Rattle.bus.specs.Changes.{holding, moved_up, lowered}
use Rattle.bus.specs.Kept.{Homed, Sound}
use Rattle.bus.proofs.Ranks.{ranked_set, waits_set, ranked_lower, waits_lower}

apids_set : (ms : List Mailbox) (i : ℕ) (m : Mailbox) → m.apid ≡ (get_or ms i no_box).apid → apids_in (set ms i m) ≡ apids_in ms
apids_set [] i m e = refl
apids_set (x ∷ xs) zero m e = ap (λ (o : Option ℕ). option_to_list o ++ apids_in xs) e
apids_set (x ∷ xs) (suc i) m e = ap (λ (l : List ℕ). option_to_list x.apid ++ l) (apids_set xs i m e)

pub apids_lower : (ms : List Mailbox) → apids_in (map lowered ms) ≡ apids_in ms
apids_lower [] = refl
apids_lower (x ∷ xs) = ap (λ (l : List ℕ). option_to_list x.apid ++ l) (apids_lower xs)

home_lower : (ms : List Mailbox) (a : ℕ) → home (map lowered ms) a ≡ home ms a
home_lower [] a = refl
home_lower (x ∷ xs) a = let r = home_lower xs a in cc

homes_set : (ms : List Mailbox) (i : ℕ) (m : Mailbox) → i < length ms → m.apid ≡ (get_or ms i no_box).apid → home ms (apid_of (held m)) ≡ i → Homed ms → Homed (set ms i m)
homes_set ms i m lt e own h k f =
    let same = λ (a : ℕ). position_or_len-set (is_for a) ms i m no_box (ap (λ (o : Option ℕ). is_for a (record { apid = o; packet = None })) e) in
    elim (cases_eq k i) [
      | inl s ↦
          (let g : get_or (set ms i m) k no_box ≡ m = ap (λ (j : ℕ). get_or (set ms i m) j no_box) s ∙ get_or-set_same ms i m no_box lt in
          same _ ∙ ap (λ (x : Mailbox). home ms (apid_of (held x))) g ∙ own ∙ sym s)
      | inr ne ↦
          (let g = get_or-set_other ms i k m no_box ne in
          same _ ∙ ap (λ (x : Mailbox). home ms (apid_of (held x))) g ∙ h k (ap is_full (sym g) ∙ f))
    ]

at_lower : (ms : List Mailbox) (k : ℕ) → get_or (map lowered ms) k no_box ≡ lowered (get_or ms k no_box)
at_lower [] k = refl
at_lower (x ∷ xs) zero = refl
at_lower (x ∷ xs) (suc k) = at_lower xs k

-- a packet that is still held is the same
still : (o : Option Held) → is_some (moved_up o) ≡ true → (octets_of (moved_up o) ≡ octets_of o) × (is_some o ≡ true)
still None f = absurd (cc)
still (Some h) f = grind arith

homes_lower : (ms : List Mailbox) → Homed ms → Homed (map lowered ms)
homes_lower ms h k f =
    let g = at_lower ms k in
    let s = still (get_or ms k no_box).packet (ap is_full (sym g) ∙ f) in
    home_lower ms _ ∙ ap (λ (x : Mailbox). home ms (apid_of (held x))) g ∙ ap (λ (p : List ℕ). home ms (apid_of p)) s.0 ∙ h k s.1

-- a packet put into the empty mailbox at place i
abbrev pub posted : List Mailbox → ℕ → List ℕ → List Mailbox
posted ms i p = set ms i (holding (get_or ms i no_box) (filled ms) p)

module _ (ms : List Mailbox) (i : ℕ) (p : List ℕ) (s : Sound ms) (lt : i < length ms) (was : (get_or ms i no_box).packet ≡ None) (short : length p ≤ 228) where
  pub posted_apids : apids_in (posted ms i p) ≡ apids_in ms
  posted_apids = apids_set ms i (holding (get_or ms i no_box) (filled ms) p) refl

  posted_held : held (holding (get_or ms i no_box) (filled ms) p) ≡ p
  posted_held = seen_kept 228 p ∙ take_all 228 p short

  pub posted_waits : waiting_in (posted ms i p) ≡ waiting_in ms ++ p ∷ []
  posted_waits =
      let m = holding (get_or ms i no_box) (filled ms) p in
      waits_set ms i m _ lt was refl refl s.ranks ∙ ap (λ (q : List ℕ). waiting_in ms ++ q ∷ []) posted_held

  pub posted_sound : carried (apids_in ms) p ≡ true → home ms (apid_of p) ≡ i → Sound (posted ms i p)
  posted_sound c own =
      let m = holding (get_or ms i no_box) (filled ms) p in
      let a = list_all-append (carried (apids_in ms)) (waiting_in ms) (p ∷ []) in
      let f = s.carries in
      record {
        ranks = ranked_set ms i m _ lt was refl refl s.ranks;
        homes = homes_set ms i m lt refl (ap (λ (q : List ℕ). home ms (apid_of q)) posted_held ∙ own) s.homes;
        carries = rw (posted_apids, posted_waits, a) (simp (f, c));
      }

-- the oldest packet let go
pub lowered_sound : (ms : List Mailbox) → Sound ms → 0 < filled ms → Sound (map lowered ms)
lowered_sound ms s some =
    let e : list_all (carried (apids_in ms)) (of_rank ms 0 ∷ waiting_in (map lowered ms)) ≡ true = ap (list_all (carried (apids_in ms))) (sym (waits_lower ms s.ranks some)) ∙ s.carries in
    let a = apids_lower ms in
    record {
      ranks = ranked_lower ms s.ranks some;
      homes = homes_lower ms s.homes;
      carries = rw a (grind arith);
    }
