use Rattle.std.proofs.Common.{◌≡◌, ℕ, List, length, get_or, Some, rules, refl, sym, ap, ◌∙◌, subst, arith}
use Rattle.std.proofs.lemmas.List.{get_or_default}
use Rattle.octets.specs.Octets.{seen}
use Rattle.destination.specs.Destination.{laid}
use Rattle.bus.specs.Bus.{waiting_in, apids_in, octets_of, held, no_box}
use Rattle.bus.specs.Kept.{Sound}
use Rattle.bus.proofs.Ranks.{none_waits, oldest_waits, some_full, full_ranked}
use Rattle.bus.proofs.Keeping.{apids_lower, lowered_sound}
use Rattle.destination.proofs.Takes.{take_none, take_one}
use Rattle.bus.proofs.mailboxes.Mailboxes.take.Goals as goal

pub returns-in_default : goal.returns-in_default
returns-in_default c =
    let ms = c.args.self.now.boxes in
    let area = c.args.area.now in
    let t = take_none (length area) (waiting_in ms) (none_waits ms c.in_default.ensures) in
    record {
      answer = sym (ap length t.0);
      area = sym (ap (λ (p : List ℕ). laid p area) t.0);
      waiting = sym t.1;
      fixed = refl;
      short = λ _. refl;
      empty = λ _. refl;
      sound = c.requires;
    }

pub returns : goal.returns
returns c =
    let ms = c.args.self.now.boxes in
    let area = c.args.area.now in
    let i = c.in-Some.place in
    let o = c.in-Some.ensures in
    let waits = oldest_waits ms c.requires.ranks i o.0 o.1 in
    let t = take_one (length area) (waiting_in ms) _ _ (omega arith) waits in
    let g = get_or_default ms i c.index-self-place.result no_box o.0 in
    let is : (get_or ms i c.index-self-place.result).packet ≡ Some c.unwrap-held.result.now = search rules in
    let u : seen c.unwrap-held.result.now.octets ≡ held (get_or ms i no_box) = sym (ap octets_of is) ∙ ap held g in
    let some = some_full ms i (full_ranked _ 0 o.1) in
    record {
      answer = c.copy_to-n.ensures.answer ∙ ap length u ∙ sym (ap length t.0);
      area = c.copy_to-n.ensures.area ∙ ap (λ (p : List ℕ). laid p area) (u ∙ sym t.0);
      waiting = ap waiting_in c.lower_ranks.ensures ∙ sym t.1;
      fixed = ap apids_in c.lower_ranks.ensures ∙ apids_lower ms;
      short = λ t. absurd (omega arith);
      empty = λ e. absurd (cc);
      sound = subst Sound (sym c.lower_ranks.ensures) (lowered_sound ms c.requires some);
    }
