-- A turn of a run: one more call is noted
use Rattle.std.proofs.Common.{◌≡◌, ℕ, zero, suc, ◌+◌, ◌<◌, List, [], ◌∷◌, ◌++◌, reverse, length, get_or, take, drop, set, All, IsSome, Some, sym, ap, ◌∙◌, subst, append_assoc, add-one, arith}
use Rattle.std.proofs.Math.Seq.{take-suc-set}
use Rattle.std.proofs.lemmas.List.{reverse-append, append-nil, get_or-drop, drop-drop, drop-set-lt}
use Rattle.std.proofs.lemmas.List.Elements.{All-push}
use Rattle.history.specs.declared.call.Entry.{Entry as EntryOfRun}
use Rattle.history.specs.declared.call.Reply.{Reply}
use Rattle.history.specs.Log.{Entry, Log, call_of, area_in, noted_by, entries_of}
use Rattle.history.specs.Session.{Machine, Steps}
use Rattle.history.specs.Promise.{History}
use Rattle.history.proofs.Keeps.{stepped}

-- the entry of one more call stands at the end
entries_more : (ns ms : List EntryOfRun) (i : ℕ) (m d : EntryOfRun) → i < length ns → length ms ≡ length ns →
    entries_of (take (suc i) ns) (take (suc i) (set ms i m)) ≡ entries_of (take i ns) (take i ms) ++ noted_by (get_or ns i d) m m.reply
entries_more [] ms i m d h e = absurd (omega arith)
entries_more (n ∷ ns) [] i m d h e = absurd (omega arith)
entries_more (n ∷ ns) (k ∷ ms) zero m d h e = append-nil (noted_by n m m.reply)
entries_more (n ∷ ns) (k ∷ ms) (suc i) m d h e =
    ap (λ (l : List Entry). noted_by n k k.reply ++ l) (entries_more ns ms i m d (omega arith) (omega arith))
    ∙ sym (append_assoc (noted_by n k k.reply) (entries_of (take i ns) (take i ms)) (noted_by (get_or ns i d) m m.reply))

-- entries from a place on are as they were
same_at : (ns ms : List EntryOfRun) (i : ℕ) (d : EntryOfRun) → drop i ms ≡ drop i ns → get_or ms i d ≡ get_or ns i d
same_at ns ms i d e =
    let z : i ≡ i + 0 = omega arith in
    ap (λ (j : ℕ). get_or ms j d) z ∙ sym (get_or-drop i ms 0 d) ∙ ap (λ (l : List EntryOfRun). get_or l 0 d) e ∙ get_or-drop i ns 0 d ∙ ap (λ (j : ℕ). get_or ns j d) (sym z)

pub rest_set : (ns ms : List EntryOfRun) (i : ℕ) (m : EntryOfRun) → drop i ms ≡ drop i ns → drop (i + 1) (set ms i m) ≡ drop (i + 1) ns
rest_set ns ms i m e = drop-set-lt (i + 1) ms i m (omega arith) ∙ sym (drop-drop 1 i ms) ∙ ap (drop 1) e ∙ drop-drop 1 i ns

pub made_more : (ms : List EntryOfRun) (i : ℕ) (m : EntryOfRun) → i < length ms → IsSome m.reply → All (λ e. IsSome e.reply) (take i ms) → All (λ e. IsSome e.reply) (take (i + 1) (set ms i m))
made_more ms i m h some before =
    subst (All (λ (e : EntryOfRun). IsSome e.reply)) (sym (ap (λ (k : ℕ). take k (set ms i m)) (add-one i) ∙ take-suc-set ms i m h))
    (All-push (λ (e : EntryOfRun). IsSome e.reply) (take i ms) m before some)

pub turn : (ns ms : List EntryOfRun) (i : ℕ) (d m : EntryOfRun) (r : Reply) (mach end : Machine) →
    i < length ms → length ms ≡ length ns → drop i ms ≡ drop i ns → m.reply ≡ Some r →
    Steps mach (call_of (get_or ms i d)) (area_in (get_or ms i d)) end r (area_in m) →
    History (reverse (entries_of (take i ns) (take i ms))) mach → History (reverse (entries_of (take (i + 1) ns) (take (i + 1) (set ms i m)))) end
turn ns ms i d m r mach end h size rest noted steps told =
    let xs : List Entry = entries_of (take i ns) (take i ms) in
    let old : EntryOfRun = get_or ms i d in
    let log : noted_by old m (Some r) ++ reverse xs ≡ reverse (entries_of (take (i + 1) ns) (take (i + 1) (set ms i m))) =
    sym (reverse-append xs (noted_by old m (Some r)))
    ∙ ap (λ (l : List Entry). reverse (xs ++ l)) (ap (noted_by old m) (sym noted) ∙ ap (λ (e : EntryOfRun). noted_by e m m.reply) (same_at ns ms i d rest))
    ∙ ap reverse (sym (entries_more ns ms i m d (omega arith) size))
    ∙ ap (λ (k : ℕ). reverse (entries_of (take k ns) (take k (set ms i m)))) (sym (add-one i)) in
    subst (λ (l : Log). History l end) log (stepped (reverse xs) mach end (call_of old) (area_in old) r (area_in m) steps told)
