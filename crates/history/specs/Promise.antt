-- What is promised of every run
use Rattle.std.specs.Prelude.{◌≡◌, ℕ, ◌+◌, ◌%◌, ◌≤◌, List, [], ◌∷◌, ◌++◌, take}
use Rattle.report.specs.Report.{Content, report_of}
use Rattle.history.specs.declared.call.Reply.{Reply}
use Rattle.history.specs.declared.call.Reply.TheVariants.{Answered, ClockSet, Refused, NoSuchRequest}
use Rattle.history.specs.Log.{Entry, Log}
use Rattle.history.specs.Session.{Machine, step_reply, step_area}
use Rattle.history.specs.Meaning.{state_of, still_accepted, clock_of, given}

-- clock, status, reports given and requests still accepted, as the calls and replies so far have them
abbrev pub after_all : Log → Machine
after_all h = record { state = state_of h; held = still_accepted h }

-- a call's reply, with the octets written and the area, is the one that the rules give after the calls before it
pub record Rule (h : Log) (e : Entry) : Type 0 where
  pub reply : e.reply ≡ step_reply (after_all h) e.call e.before
  pub area : e.after ≡ step_area (after_all h) e.call e.before

-- so it is with every call
abbrev pub Lawful : Log → Type 0
Lawful [] = Unit {0}
Lawful (e ∷ h) = Rule h e × Lawful h

-- the clock never goes back: whichever calls are the older ones, it is no later after them than after all
abbrev pub ClockRises : Log → Type 0
ClockRises h = (newer older : Log) → h ≡ newer ++ older → clock_of older ≤ clock_of h

-- the octets that a call wrote: so many from the start of its area
abbrev pub written_by : Reply → List ℕ → List ℕ
written_by (Answered a) area = take a.written area
written_by ClockSet area = []
written_by (Refused r) area = []
written_by NoSuchRequest area = []

-- all octets written, the oldest first
abbrev pub written : Log → List ℕ
written [] = []
written (e ∷ h) = written h ++ written_by e.reply e.after

-- all reports given, the oldest first, each with the clock at that time
abbrev pub at : ℕ → List Content → List (ℕ × Content)
at t [] = []
at t (c ∷ cs) = (t, c) ∷ at t cs

abbrev pub told : Log → List (ℕ × Content)
told [] = []
told (e ∷ h) = told h ++ at (clock_of h) (given h e)

-- reports one after another, numbered from i on, the numbers going round at 16384
abbrev pub numbered : ℕ → List (ℕ × Content) → List ℕ
numbered i [] = []
numbered i (r ∷ rs) = report_of (i % 16384) r.0 r.1 ++ numbered (i + 1) rs

-- the promise, of a run and what the session is after it
pub record History (h : Log) (m : Machine) : Type 0 where
  -- each reply is the one that the rules give
  pub lawful : Lawful h
  -- the session is what the calls and replies say
  pub agrees : m ≡ after_all h
  -- the clock never goes back
  pub clock : ClockRises h
  -- what the areas got are the reports given, in order, numbered without a gap from 0 on
  pub reports : written h ≡ numbered 0 (told h)
