-- Two queues are the same where their memories and their used octets are: the facts beside those add nothing
use Rattle.std.proofs.Common.{◌≡◌, ℕ, ◌≤◌, true, length, take}
use Rattle.std.specs.List.{list_all}
use mathlib.Core.HLevel.{is_prop→PathP}
use denote.Struct.Props.{props}
use Rattle.queue.specs.Ring.{Memory, ringed, encode, waits}
use Rattle.queue.specs.Rules.{carried}
use Rattle.queue.specs.declared.store.Queue.{Queue}

abbrev W : Memory → ℕ → Type 0
W m u = u ≤ length m.octets

abbrev X : Memory → ℕ → Type 0
X m u = encode (waits (ringed m) u) ≡ take u (ringed m)

abbrev F : Memory → ℕ → Type 0
F m u = list_all (carried (length m.octets)) (waits (ringed m) u) ≡ true

w_prop : (m : Memory) (u : ℕ) → IsProp (W m u)
w_prop m u = hlevel props

x_prop : (m : Memory) (u : ℕ) → IsProp (X m u)
x_prop m u = hlevel props

f_prop : (m : Memory) (u : ℕ) → IsProp (F m u)
f_prop m u = hlevel props

pub same_queue : (q r : Queue) → q.ring ≡ r.ring → q.used ≡ r.used → q ≡ r
same_queue q r e f = λ i. record {
  ring = e i;
  used = f i;
  within = is_prop→PathP (λ j. W (e j) (f j)) (λ j. w_prop (e j) (f j)) q.within r.within i;
  exact = is_prop→PathP (λ j. X (e j) (f j)) (λ j. x_prop (e j) (f j)) q.exact r.exact i;
  fine = is_prop→PathP (λ j. F (e j) (f j)) (λ j. f_prop (e j) (f j)) q.fine r.fine i;
}
