use Rattle.std.proofs.Common.{◌≡◌, ℕ, ◌+◌, ◌-◌, ◌*◌, ◌/◌, ◌%◌, ◌≤◌, Bool, cond, eqb, List, [], ◌∷◌, ◌++◌, map, length, take, drop, slice_index_or, true, sym, ap, ◌∙◌, append_assoc, arith, add-one, drop-cons, drop_of_length-le}
use Rattle.std.proofs.lemmas.List.{take_all, append-nil}
use Rattle.std.proofs.lemmas.Bool.{eq-eqb, cond-true}
use borrow.Rule.Slice.PartMut.{put_mid, same_len_mid}
use Rattle.std.proofs.lemmas.Slice.{take-put_mid}
use Rattle.packet.specs.Octets.{words}
use Rattle.packet.proofs.Octets.{pair_value, words_of_pairs}
use Rattle.status.specs.Switches.{bit, flagged, unwords}
use Rattle.status.proofs.switches.Switches.flag.Goals as goal
use Rattle.status.proofs.switches.Switches.flag.Goals.{then-is_on, else-is_on}

-- one number more written, and the others still to come
step : (f : ℕ → Bool) (out new ns : List ℕ) (i n raised k : ℕ) → new ≡ raised / 256 % 256 ∷ raised % 256 ∷ [] → raised ≡ cond (f n) (n + 32768) n → 2 * i + 2 ≤ length out
    → take (2 * (i + 1)) (put_mid (2 * i) k out new) ++ unwords (flagged f ns) ≡ take (2 * i) out ++ unwords (flagged f (n ∷ ns))
step f out new ns i n raised k two is room =
    let long : length new ≡ 2 = ap length two in
    let rest = unwords (flagged f ns) in
    ap (λ z. z ++ rest) (take-put_mid (2 * i) k out new (2 * (i + 1)) (omega (arith, long)) (omega arith))
    ∙ (append_assoc (take (2 * i) out) new rest
    ∙ ap (λ z. take (2 * i) out ++ (z ++ rest)) (two ∙ ap (λ (r : ℕ). r / 256 % 256 ∷ r % 256 ∷ []) is))

pub loop-i-preserved : goal.loop-i-preserved
loop-i-preserved g c =
    let pairs = c.as_chunks.result.0.now in
    let f = bit c.args.self.now.octets in
    let i = c.loop-i.i in
    let out = c.loop-i.out in
    let n = c.from_be_bytes-number.result in
    let rest = map pair_value (drop (i + 1) pairs) in
    let first : drop i pairs ≡ slice_index_or pairs i [] ∷ drop (i + 1) pairs = rw add-one (drop-cons pairs i [] (omega arith)) in
    let raised : c.if-is_on.raised ≡ cond (f n) (n + 32768) n = elim c.if-is_on.branch [
      | then-is_on w ↦ w.raised-is ∙ sym (ap (λ t. cond t (n + 32768) n) (sym c.is_on.ensures ∙ w.if-is_on.true))
      | else-is_on w ↦ w.raised-is ∙ sym (ap (λ t. cond t (n + 32768) n) (sym c.is_on.ensures ∙ w.if-is_on.false))
    ] in (
      step f out c.copy_from_slice.new.self rest i n c.if-is_on.raised _ (c.copy_from_slice.ensures.after ∙ c.to_be_bytes.ensures) raised (omega arith)
          ∙ (ap (λ m. take (2 * i) out ++ unwords (flagged f (m ∷ rest))) c.from_be_bytes-number.ensures
          ∙ (ap (λ l. take (2 * i) out ++ unwords (flagged f (map pair_value l))) (sym first) ∙ c.loop-i.invariant.0)),
      c.loop-i.invariant.1 ∙ sym (same_len_mid (2 * i) (2 * i + 2 - 2 * i) out c.copy_from_slice.new.self c.copy_from_slice.ensures.len),
    )

pub returns : goal.returns
returns g c =
    let pairs = c.as_chunks.result.0.now in
    let f = bit c.args.self.now.octets in
    let out = c.loop-i.out in
    let i = c.loop-i.i in
    let all : words c.args.names.now ≡ map pair_value pairs = words_of_pairs c.args.names.now ∙ sym (ap (map pair_value) c.as_chunks.ensures.front) in
    let none : drop i pairs ≡ [] = drop_of_length-le pairs (omega arith) in
    let test : eqb (length c.args.names.now / 2 * 2) (length c.args.out.now) ≡ true = eq-eqb _ _ (sym c.if-out-names.false) in
    let end : length out ≤ 2 * i = omega (arith, c.loop-i.invariant.1) in
    sym (take_all (2 * i) out end)
    ∙ (sym (append-nil (take (2 * i) out))
    ∙ (ap (λ l. take (2 * i) out ++ unwords (flagged f (map pair_value l))) (sym none)
    ∙ (c.loop-i.invariant.0
    ∙ (ap (λ l. unwords (flagged f l)) (sym all) ∙ sym (cond-true _ _ _ test)))))
