-- A run of calls, each with what it brought and what it got back
use Rattle.std.specs.Prelude.{ℕ, List, [], ◌∷◌, ◌++◌, Some, None, Option, vec_items}
use Rattle.std.specs.Borrow.{Bor}
use Rattle.std.specs.declared.vec.Vec.{Vec}
use Rattle.std.specs.declared.alloc.Global.{Global}
use Rattle.history.specs.declared.call.Call.{Call as CallWith}
use Rattle.history.specs.declared.call.Call.TheVariants.{Request, Accept, Complete, SetClock}
use Rattle.history.specs.declared.call.Reply.{Reply}
use Rattle.history.specs.declared.call.Entry.{Entry as EntryOfRun}

-- a call, without references
pub data Call : Type 0 where
  requests : List ℕ → Call
  accepts : List ℕ → Call
  completes : ℕ → Call
  sets_clock : ℕ → Call

-- what a call asks, by the octets that it holds: lent, or its own
abbrev pub call_by : {O : Type 0} → (O → List ℕ) → CallWith O → Call
call_by octets (Request p) = requests (octets p)
call_by octets (Accept p) = accepts (octets p)
call_by octets (Complete k) = completes k
call_by octets (SetClock t) = sets_clock t

abbrev pub call_in : CallWith (Bor (List ℕ)) → Call
call_in = call_by (λ p. p.now)

abbrev pub call_with_vec : CallWith (Vec ℕ Global) → Call
call_with_vec = call_by vec_items

-- a call that was made: the area that it brought, its reply, and the area after it
pub record Entry : Type 0 where
  pub call : Call
  pub before : List ℕ
  pub reply : Reply
  pub after : List ℕ

-- the calls made so far, the newest first
abbrev pub Log : Type 0
Log = List Entry

abbrev pub call_of : EntryOfRun → Call
call_of e = call_in e.call

abbrev pub area_in : EntryOfRun → List ℕ
area_in e = vec_items e.area

-- one more call noted
abbrev pub noted : Call → List ℕ → Reply → List ℕ → Log → Log
noted c before r after h = record { call = c; before = before; reply = r; after = after } ∷ h

-- a call was made where its entry has a reply
abbrev pub noted_by : EntryOfRun → EntryOfRun → Option Reply → List Entry
noted_by before after None = []
noted_by before after (Some r) = noted (call_of before) (area_in before) r (area_in after) []

-- the calls that were made, the oldest first, by the entries before and after them
abbrev pub entries_of : List EntryOfRun → List EntryOfRun → List Entry
entries_of [] ms = []
entries_of (n ∷ ns) [] = []
entries_of (n ∷ ns) (m ∷ ms) = noted_by n m m.reply ++ entries_of ns ms
