use Rattle.std.proofs.Common.{◌≡◌, drop, vec_items}
use Rattle.digits.specs.Hex.{octets_of}
use Rattle.digits.proofs.Digits.{decode, after}
use Rattle.digits.proofs.hex.octets.Given as goal

abbrev pub invariant-loop-upper : goal.invariant-loop-upper
invariant-loop-upper l = octets_of l.text ≡ after (vec_items l.found) (decode (drop l.upper-index l.pairs) l.rest)
