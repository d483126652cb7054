-- Requests still accepted, by the number of their acceptance, and whether there is room to complete them
use Rattle.std.proofs.Common.{◌≡◌, ℕ, zero, suc, ◌-◌, ◌≤◌, Bool, true, false, cond, List, length, get_or, set, Some, None, Ok, Err, Option, Result, refl, ap, ◌∙◌, arith}
use Rattle.std.proofs.lemmas.List.{get_or-map, map-set, set-get_or}
use Rattle.service.specs.declared.answer.Refusal.{Refusal}
use Rattle.service.specs.declared.answer.Refusal.TheVariants.{AreaTooShort}
use Rattle.service.specs.declared.states.Accepted.{Accepted}
use Rattle.service.specs.declared.answer.Answer.{Answer}
use Rattle.service.specs.State.{State}
use Rattle.service.specs.Requests.{Held, too_short, finish_answer, finish_area, finish_state}
use Rattle.history.specs.declared.call.Reply.TheVariants.{Answered, Refused}
use Rattle.history.specs.Log.{completes}
use Rattle.history.specs.Session.{held_slot, held_slots, held_at, ended, can_complete, complete_held, finish_reply, Steps}

pub at_place : (xs : List (Option Accepted)) (n : ℕ) → 1 ≤ n → n ≤ length xs → held_at n (held_slots xs) ≡ held_slot (get_or xs (n - 1) None)
at_place xs zero low high = absurd (omega arith)
at_place xs (suc k) low high =
    get_or-map held_slot xs k None None (omega arith) ∙ ap (λ (j : ℕ). held_slot (get_or xs j None)) (let e : k ≡ suc k - 1 = omega arith in e)

pub ended_place : (xs : List (Option Accepted)) (n : ℕ) → 1 ≤ n → held_slots (set xs (n - 1) None) ≡ ended n (held_slots xs)
ended_place xs zero low = absurd (omega arith)
ended_place xs (suc k) low =
    ap (λ (j : ℕ). held_slots (set xs j None)) (let e : suc k - 1 ≡ k = omega arith in e) ∙ map-set held_slot xs k None

-- what a place holds, also after the request there is taken out
pub ruleset places = (at_place, ended_place, set-get_or)

pub room_refused : (b : Bool) (r : Refusal) (h : Held) → Err r ≡ cond {A = Result (Unit {0}) Refusal} b (Err AreaTooShort) (Ok tt) → Err (Refused r) ≡ can_complete (Some h) b
room_refused true r h e = let z : r ≡ AreaTooShort = cc in ap (λ (x : Refusal). Err (Refused x)) z
room_refused false r h e = cc

pub room_there : (b : Bool) (u : Unit {0}) → Ok u ≡ cond {A = Result (Unit {0}) Refusal} b (Err AreaTooShort) (Ok tt) → b ≡ false
room_there true u e = cc
room_there false u e = refl

-- a completion of a request that was taken out
can_find : (o : Option Held) (b : Bool) (h : Held) → Ok h ≡ can_complete o b → o ≡ Some h
can_find None b h e = cc
can_find (Some x) true h e = cc
can_find (Some x) false h e = cc

pub completed : (s end : State) (xs ys : List (Option Held)) (n : ℕ) (area after : List ℕ) (h : Held) (a : Answer) →
    Ok h ≡ can_complete (held_at n xs) (too_short area) → ys ≡ complete_held n (held_at n xs) area xs →
    Ok a ≡ finish_answer s h area → after ≡ finish_area s h area → end ≡ finish_state s h area →
    Steps (record { state = s; held = xs }) (completes n) area (record { state = end; held = ys }) (Answered a) after
completed s end xs ys n area after h a found left answer written state =
    let held = can_find (held_at n xs) (too_short area) h found in
    record {
      reply_is = rw held (ap finish_reply answer);
      area_is = rw held written;
      machine_is = rw (state, left, held);
    }
