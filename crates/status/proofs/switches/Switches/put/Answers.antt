use Rattle.std.proofs.Common.{◌≡◌, ℕ, ◌*◌, ◌/◌, ◌%◌, ◌^◌, ◌<◌, cond, eqb, length, get_or, set, sym, ap, ◌∙◌, arith}
use Rattle.status.specs.Switches.{bit}
use Rattle.status.proofs.Bits.{or_bit, and_bit, put_whole}
use Rattle.status.proofs.Maps.{put_below}
use Rattle.status.proofs.switches.Switches.put.Goals as goal
use Rattle.status.proofs.switches.Switches.put.Goals.{then-on, else-on}

pub returns-after-on : goal.returns-after-on
returns-after-on g c =
    let m = c.args.self.now.octets in
    let n = c.args.number in
    let v = c.if-on.self in
    let b = get_or m c.from-i.result 0 in
    let at : c.from-i.result ≡ n / 8 = c.from-i.ensures in
    let inside : n < 8 * g.row.N = omega arith in
    let there_too : n < 8 * length m = omega arith in
    let within : n % 8 < 8 = omega arith in
    let each : (j : ℕ) → j < 8 → v / 2 ^ j % 2 ≡ cond (eqb j (n % 8)) (cond c.args.on 1 0) (b / 2 ^ j % 2) = λ j l. elim c.if-on.branch [
      | then-on w ↦ ap (λ z. z / 2 ^ j % 2) w.self-is ∙ (or_bit b (n % 8) j within ∙ ap (λ z. cond (eqb j (n % 8)) (cond z 1 0) (b / 2 ^ j % 2)) (sym w.if-on.true))
      | else-on w ↦ ap (λ z. z / 2 ^ j % 2) w.self-is ∙ (and_bit b (n % 8) j within l ∙ ap (λ z. cond (eqb j (n % 8)) (cond z 1 0) (b / 2 ^ j % 2)) (sym w.if-on.false))
    ] in
    let there : (j : ℕ) → j < 8 → v / 2 ^ j % 2 ≡ cond (eqb j (n % 8)) (cond c.args.on 1 0) (get_or m (n / 8) 0 / 2 ^ j % 2) =
    λ j l. each j l ∙ ap (λ i. cond (eqb j (n % 8)) (cond c.args.on 1 0) (get_or m i 0 / 2 ^ j % 2)) at in
    ap (λ i. bit (set m i v)) at ∙ put_below (8 * g.row.N) n c.args.on (bit m) (bit (set m (n / 8) v)) inside (put_whole m n v c.args.on there_too there)
