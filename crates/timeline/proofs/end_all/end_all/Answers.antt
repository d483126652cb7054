use Rattle.std.proofs.Common.{◌≡◌, ◌++◌, map, take, drop, count_by, true, false, sym, refl, ap, ◌∙◌, append-nil, arith}
use Rattle.std.proofs.lemmas.List.{take_all, drop_all}
use Rattle.schedule.specs.Slots.{hit, dropped}
use Rattle.timeline.proofs.Ends.{ended, kept}
use Rattle.timeline.proofs.end_all.end_all.Goals as goal
use Rattle.timeline.proofs.end_all.end_all.Goals.{in-Some+then-ends, in-Some+else-ends, in_default}

pub loop-slot-preserved : goal.loop-slot-preserved
loop-slot-preserved g c =
    let few = c.loop-slot.invariant.0 in
    let xs = c.args.slots.now in
    let ys = c.loop-slot.slots in
    let i = c.loop-slot.slot-index in
    let x = c.slot-item.result in
    let read = c.slot-item.is in
    elim c.match-slot.branch [
      | in-Some+then-ends w ↦ (
        omega (arith, w.count-is),
        λ f t.
            let told = t w.in-Some.pending w.ends.result (record { shown = _; shows = refl; says = record { met = w.ends.ensures } }) in
            let h : hit f x ≡ true = ap (hit f) (read ∙ w.in-Some.is) ∙ (sym told ∙ w.if-ends.true) in
            let inv = c.loop-slot.invariant.1 f t in
            let e = ended f xs ys i c.loop-slot.count x c.loop-slot-test.true inv.0 inv.1 read h in
            (w.count-is ∙ e.0, w.slots-is ∙ e.1),
      )
      | in-Some+else-ends w ↦ (
        omega (arith, w.count-is),
        λ f t.
            let told = t w.in-Some.pending w.ends.result (record { shown = _; shows = refl; says = record { met = w.ends.ensures } }) in
            let h : hit f x ≡ false = ap (hit f) (read ∙ w.in-Some.is) ∙ (sym told ∙ w.if-ends.false) in
            let inv = c.loop-slot.invariant.1 f t in
            let e = kept f xs ys i c.loop-slot.count x c.loop-slot-test.true inv.0 inv.1 read h in
            (w.count-is ∙ e.0, w.slots-is ∙ e.1),
      )
      | in_default w ↦ (
        omega (arith, w.count-is),
        λ f t.
            let h : hit f x ≡ false = ap (hit f) (read ∙ w.in_default.is) in
            let inv = c.loop-slot.invariant.1 f t in
            let e = kept f xs ys i c.loop-slot.count x c.loop-slot-test.true inv.0 inv.1 read h in
            (w.count-is ∙ e.0, w.slots-is ∙ e.1),
      )
    ]

pub returns : goal.returns
returns g c = λ f t.
    let xs = c.args.slots.now in
    let i = c.loop-slot.slot-index in
    let inv = c.loop-slot.invariant.1 f t in
    let front : take i xs ≡ xs = take_all i xs (omega arith) in
    let back = drop_all i xs (omega arith) in
    (inv.0 ∙ ap (count_by (hit f)) front, inv.1 ∙ (ap (λ z. map (dropped f) z ++ drop i xs) front ∙ (ap (λ z. map (dropped f) xs ++ z) back ∙ append-nil (map (dropped f) xs))))
