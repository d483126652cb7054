use Rattle.std.proofs.Common.{◌≡◌, ◌≤◌, map, reverse, length, take, drop, All, IsSome, vec_len, vec_capacity}
use Rattle.history.specs.Log.{call_of, entries_of}
use Rattle.history.specs.Session.{machine_of}
use Rattle.history.specs.Promise.{History}
use Rattle.history.proofs.session.run.Given as goal

-- the calls made so far keep the promise, those to come are as they were, and there is room for what may yet be accepted
abbrev pub invariant-loop-entry : goal.invariant-loop-entry
invariant-loop-entry l =
    record {
      history : History (reverse (entries_of (take l.entry-index l.initial.entries) (take l.entry-index l.entries))) (machine_of l.session);
      rest : drop l.entry-index l.entries ≡ drop l.entry-index l.initial.entries;
      made : All (λ e. IsSome e.reply) (take l.entry-index l.entries);
      calls : map call_of l.entries ≡ map call_of l.initial.entries;
      accepted : vec_len l.session.accepted ≤ l.entry-index;
      room : length l.entries ≤ vec_capacity l.session.accepted;
    }
