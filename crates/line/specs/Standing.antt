-- Where a reading state stands in its piece.
use Rattle.std.proofs.Math.Option.{Option, none, some}
use Rattle.line.specs.Places.{Places, behind, behind_esc}
use Rattle.line.specs.Reader.{State, plain, escaped, skipping}

-- the places at which an open piece stands follow from the bytes held; a settled one has none
abbrev pub standing : State → Option Places
standing (plain h) = some (behind h)
standing (escaped h) = some (behind_esc h)
standing (skipping f) = none
