use Rattle.std.proofs.Common.{◌≡◌, ◌^◌, ◌<◌, true, drop}
use Rattle.digits.specs.Number.{all_digits, decimal_of}
use Rattle.digits.proofs.number.value.Given as goal

abbrev pub invariant-loop-digit : goal.invariant-loop-digit
invariant-loop-digit l =
    record {
      digits : all_digits (drop l.digit-index l.digits) ≡ true;
      number : decimal_of 0 l.digits ≡ decimal_of l.number (drop l.digit-index l.digits);
      small : l.number < 2 ^ 64;
    }
