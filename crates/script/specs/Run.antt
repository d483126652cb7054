-- The run that a script asks for
use Rattle.std.specs.Prelude.{ℕ, zero, suc, Bool, true, false, List, [], ◌∷◌, ◌++◌, length, map, count_by, min}
use Rattle.std.specs.declared.vec.Vec.{Vec}
use Rattle.std.specs.declared.alloc.Global.{Global}
use Rattle.history.specs.declared.call.Call.{Call as CallWith}
use Rattle.history.specs.declared.call.Call.TheVariants.{Request, Accept, Complete, SetClock}
use Rattle.history.specs.declared.call.Entry.{Entry}
use Rattle.history.specs.Log.{Call, completes, call_with_vec, call_of, area_in}
use Rattle.script.specs.declared.script.Step.{Step}

-- a call, and how many octets the area has that it brings
abbrev pub brought : Entry → Call × ℕ
brought e = (call_of e, length (area_in e))

-- no call writes past 4,096 octets, so no more are lent
abbrev pub lent : Step → Call × ℕ
lent s = (call_with_vec s.call, min s.area 4096)

abbrev pub asks_acceptance : CallWith (Vec ℕ Global) → Bool
asks_acceptance (Request p) = false
asks_acceptance (Accept p) = true
asks_acceptance (Complete k) = false
asks_acceptance (SetClock t) = false

abbrev pub acceptances : List Step → ℕ
acceptances steps = count_by (λ s. asks_acceptance s.call) steps

-- the completions of the first n acceptances, in their order
abbrev pub completions : ℕ → List (Call × ℕ)
completions zero = []
completions (suc n) = completions n ++ (completes (suc n), 4096) ∷ []

-- the calls of a script, then the completion of each acceptance asked for
abbrev pub run_of : List Step → List (Call × ℕ)
run_of steps = map lent steps ++ completions (acceptances steps)
