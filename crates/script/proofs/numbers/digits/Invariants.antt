use Rattle.std.proofs.Common.{◌<◌, ◌^◌, ◌≡◌, drop}
use Rattle.script.specs.Script.{digits_from}
use Rattle.script.proofs.numbers.digits.Given as goal

-- The value is what the digits so far make: i digits make less than 10 ^ i.
abbrev pub invariant-loop-digit : goal.invariant-loop-digit
invariant-loop-digit l = (l.value < 10 ^ l.digit-index) × (digits_from 0 l.text ≡ digits_from l.value (drop l.digit-index l.text))
