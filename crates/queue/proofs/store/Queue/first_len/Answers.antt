use Rattle.std.proofs.Common.{◌≡◌, ℕ, ◌/◌, ◌%◌, List, [], length, get_or, sym, ap, ◌∙◌, arith}
use Rattle.queue.proofs.Heads.{oldest_of}
use Rattle.queue.proofs.store.Queue.first_len.Goals as goal

pub read-requires : goal.read-requires
read-requires c =
    let q = c.args.self.now in
    let o = oldest_of q c.requires in
    omega (arith, q.within)

pub returns : goal.returns
returns c =
    let q = c.args.self.now in
    let o = oldest_of q c.requires in
    let h = c.read.ensures ∙ o.header in
    let g0 : get_or c.read.new.out 0 0 ≡ length o.w / 256 = ap (λ (y : List ℕ). get_or y 0 0) h in
    let g1 : get_or c.read.new.out 1 0 ≡ length o.w % 256 = ap (λ (y : List ℕ). get_or y 1 0) h in
    let n : c.from_be_bytes.result ≡ length o.w = omega arith in
    record { oldest = n ∙ ap (λ (ws : List (List ℕ)). length (get_or ws 0 [])) (sym o.is); small = omega arith; fits = omega arith }
