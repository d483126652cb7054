use Rattle.std.proofs.Common.{rules, ◌≡◌, ℕ, ◌<◌, List, [], length, get_or, set, Some, vec_items, vec_len, refl, sym, ◌∙◌, subst, arith}
use Rattle.std.proofs.Math.ListN.{length-set}
use Rattle.std.proofs.Math.Seq.{map-set_same}
use Rattle.std.proofs.lemmas.Bool.Decides.{nat_tests}
use Rattle.std.proofs.lemmas.List.{nil_from_length, with_items_is}
use Rattle.std.specs.Vec.{with_items}
use Rattle.history.specs.declared.call.Entry.{Entry}
use Rattle.history.specs.Log.{call_of, area_in}
use Rattle.history.specs.Session.{machine_of, held_slots, Steps}
use Rattle.history.specs.Promise.{History, after_all}
use Rattle.history.proofs.Keeps.{start}
use Rattle.history.proofs.Runs.{turn, rest_set, made_more}
use Rattle.history.proofs.session.run.Goals as goal

pub loop-entry-init : goal.loop-entry-init
loop-entry-init c =
    let empty : vec_len c.args.places ≡ 0 = grind (arith, nat_tests) in
    let none : vec_items c.args.places ≡ [] = nil_from_length (vec_items c.args.places) (omega (arith, c.args.places.ok.0)) in
    let begun : after_all [] ≡ machine_of (record { service = c.new.result; accepted = c.args.places }) =
    sym (λ i. record { state = c.new.ensures i; held = held_slots (none i) }) in
    record {
      history = subst (History []) begun start;
      rest = refl;
      made = search rules;
      calls = refl;
      accepted = omega arith;
      room = omega arith;
    }

pub loop-entry-preserved : goal.loop-entry-preserved
loop-entry-preserved c =
    let ns : List Entry = c.args.entries.now in
    let ms : List Entry = c.loop-entry.entries in
    let i : ℕ = c.loop-entry.entry-index in
    let old : Entry = get_or ms i c.entry-item.result in
    let h : i < length ms = omega arith in
    let area = with_items_is old.area c.step.new.area (omega (arith, c.step.auto.area, c.as_mut_slice.ensures.len)) in
    let new : Entry = record { call = old.call; area = with_items old.area c.step.new.area; reply = Some c.step.result } in
    let steps : Steps (machine_of c.loop-entry.session) (call_of old) (area_in old) (machine_of c.step.new.self) c.step.result (area_in new) =
    rw area (rw c.as_mut_slice.ensures.value at c.step.ensures.steps) in
    record {
      history = turn ns ms i c.entry-item.result new c.step.result _ _ h (omega arith) c.loop-entry.invariant.rest refl steps c.loop-entry.invariant.history;
      rest = rest_set ns ms i new c.loop-entry.invariant.rest;
      made = made_more ms i new h (search rules) c.loop-entry.invariant.made;
      calls = map-set_same call_of ms i new c.entry-item.result refl ∙ c.loop-entry.invariant.calls;
      accepted = omega (arith, c.step.ensures.kept.0);
      room = let e : length (set ms i new) ≡ length ms = length-set ms i new in omega (arith, c.step.ensures.kept.1);
    }
