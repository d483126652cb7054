use Rattle.std.proofs.Common.{◌≡◌, ℕ, ◌≤◌, true, false, not, length, get_or, set, Some, None, Err, refl, sym, ap, ◌∙◌, subst, rules}
use Rattle.std.specs.List.{position}
use Rattle.std.proofs.lemmas.List.{get_or_default}
use Rattle.destination.specs.Destination.{sized}
use Rattle.destination.specs.declared.Refused.TheVariants.{Never}
use Rattle.packet.specs.Packet.{apid_of}
use Rattle.bus.specs.Bus.{no_box, is_for, is_full, filled, space, waiting_in, apids_in}
use Rattle.bus.specs.Changes.{holding}
use Rattle.bus.specs.Kept.{Sound}
use Rattle.bus.proofs.Keeping.{posted, posted_apids, posted_waits, posted_sound}
use Rattle.bus.proofs.Offers.{not_carried, why_not, home_is, space_is, is_carried, why_full, none_held}
use Rattle.bus.proofs.mailboxes.Mailboxes.offer.Goals as goal

pub returns-in_err-place : goal.returns-in_err-place
returns-in_err-place c =
    let ms = c.args.self.now.boxes in
    let p = c.args.packet.now in
    let size : sized p ≡ true = search rules in
    let none : c.find.result ≡ None = search rules in
    let at : position (is_for (apid_of p)) ms ≡ None = ap (λ (a : ℕ). position (is_for a) ms) (sym c.apid_of.ensures) ∙ sym c.find.ensures ∙ none in
    let a = not_carried ms p at in
    let w = why_not ms p size at in
    let r : c.from_residual-in_err-place.result ≡ Err (Never 4) = search rules in
    record { answer = r ∙ simp (a, w); waiting = simp a; fixed = refl; never = λ _. refl; not_now = λ _. refl; sound = c.requires }

pub returns-then-is_full : goal.returns-then-is_full
returns-then-is_full c =
    let ms = c.args.self.now.boxes in
    let p = c.args.packet.now in
    let i = c.in_ok-place.place in
    let size : sized p ≡ true = search rules in
    let some : c.find.result ≡ Some i = search rules in
    let at : position (is_for (apid_of p)) ms ≡ Some i = ap (λ (a : ℕ). position (is_for a) ms) (sym c.apid_of.ensures) ∙ sym c.find.ensures ∙ some in
    let g = get_or_default ms i c.index-self-place.result no_box (home_is ms i p at).0 in
    let full : is_full (get_or ms i no_box) ≡ true = ap is_full (sym g) ∙ sym c.is_full.ensures ∙ c.if-is_full.true in
    let a = is_carried ms i p at size in
    let w = why_full ms i p at size in
    let s : space ms p ≡ false = space_is ms i p at ∙ ap not full in
    record { answer = simp (a, s, w); waiting = simp (a, s); fixed = refl; never = λ _. refl; not_now = λ _. refl; sound = c.requires }

pub returns : goal.returns
returns c =
    let ms = c.args.self.now.boxes in
    let p = c.args.packet.now in
    let i = c.in_ok-place.place in
    let m = c.put.new.self in
    let size : sized p ≡ true = search rules in
    let most : length p ≤ 228 = search rules in
    let some : c.find.result ≡ Some i = search rules in
    let at : position (is_for (apid_of p)) ms ≡ Some i = ap (λ (a : ℕ). position (is_for a) ms) (sym c.apid_of.ensures) ∙ sym c.find.ensures ∙ some in
    let h = home_is ms i p at in
    let g = get_or_default ms i c.index-self-place.result no_box h.0 in
    let empty : is_full (get_or ms i no_box) ≡ false = ap is_full (sym g) ∙ sym c.is_full.ensures ∙ c.if-is_full.false in
    let was = none_held (get_or ms i no_box).packet empty in
    let a = is_carried ms i p at size in
    let s : space ms p ≡ true = space_is ms i p at ∙ ap not empty in
    let g2 = get_or_default ms i c.index-self-place-2.result no_box h.0 in
    let n = c.count_filled-rank.ensures in
    let put : m ≡ holding (get_or ms i no_box) (filled ms) p = c.put.ensures ∙ (λ j. holding (g2 j) (n j) p) in
    let after : set ms i m ≡ posted ms i p = ap (set ms i) put in
    let w = posted_waits ms i p c.requires h.0 was most in
    record {
      answer = simp (a, s);
      waiting = ap waiting_in after ∙ w ∙ sym (simp (a, s));
      fixed = ap apids_in after ∙ posted_apids ms i p c.requires h.0 was most;
      never = λ f. absurd (cc);
      not_now = λ f. absurd (cc);
      sound = subst Sound (sym after) (posted_sound ms i p c.requires h.0 was most a h.1);
    }
