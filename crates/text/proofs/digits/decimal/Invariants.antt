use Rattle.std.proofs.Common.{◌+◌, ◌-◌, ◌<◌, ◌≡◌, length, take}
use Rattle.std.proofs.lemmas.List.Edits.{sets}
use Rattle.text.specs.Text.{decimal}
use Rattle.text.proofs.digits.decimal.Given as goal

-- With the digits of the rest stored in front of those that are, the whole number is; none is left where `place` is the number's.
abbrev pub invariant-loop-place : goal.invariant-loop-place
invariant-loop-place l =
    (l.at < l.place → l.place ≡ l.at + length (decimal l.rest))
    × (sets l.out l.at (take (l.place - l.at) (decimal l.rest)) ≡ sets l.initial.out l.at (decimal l.number))
