-- Two buses are the same where their mailboxes are
use Rattle.std.proofs.Common.{◌≡◌}
use mathlib.Core.HLevel.{is_prop→PathP}
use denote.Struct.Props.{props}
use Rattle.bus.specs.declared.mailboxes.Mailboxes.{Mailboxes}
use Rattle.bus.specs.declared.Bus.{Bus}
use Rattle.bus.specs.Kept.{Sound}

sound_prop : (x : Mailboxes) → IsProp (Sound x.boxes)
sound_prop x = hlevel props

pub same_bus : (a b : Bus) → a.inner ≡ b.inner → a ≡ b
same_bus a b e = λ i. record { inner = e i; sound = is_prop→PathP (λ j. Sound (e j).boxes) (λ j. sound_prop (e j)) a.sound b.sound i }
