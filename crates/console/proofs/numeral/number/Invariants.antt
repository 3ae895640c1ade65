use Rattle.std.proofs.Common.{◌≡◌, ◌^◌, ◌<◌, true, take}
use Rattle.console.specs.Numerals.{digits, value}
use Rattle.console.proofs.numeral.number.Given as goal

abbrev pub invariant-loop-digit : goal.invariant-loop-digit
invariant-loop-digit l =
    (digits (take l.digit-index l.digits) ≡ true) × (l.value ≡ value (take l.digit-index l.digits)) × (l.value < 10 ^ l.digit-index)
