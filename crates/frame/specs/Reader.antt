-- Reading frames from the wire: the line reader's packets, judged. What the layers above need of the line reader is passed on here.
use Rattle.std.specs.Prelude.{ℕ, List}
use Rattle.std.proofs.Math.Option.{Option, none, some}
use Rattle.line.specs.Reader as line
use Rattle.frame.specs.Frame.{Outcome, refused, judge}
pub use Rattle.line.specs.Wire.{END, ESC}
unfoldable pub use Rattle.line.specs.Wire.{escape}
pub use Rattle.line.specs.Scan.{also, Scan, ahead}
unfoldable pub use Rattle.line.specs.Scan.{onward, outcomes, final, scan}
pub use Rattle.line.specs.Reader.{State, plain, escaped, skipping, emptied, held}
unfoldable pub use Rattle.line.specs.Reader.{inner, inside}
pub use Rattle.line.specs.Answers.{at, taken_as, taken, emptied_reading}

-- a packet is judged, a refusal of the line reader stays
abbrev pub judged : line.Outcome → Outcome
judged (line.packet h) = judge h
judged (line.refused n) = refused n

unfoldable pub verdict : Option line.Outcome → Option Outcome
verdict none = none
verdict (some o) = some (judged o)

-- any byte
unfoldable pub step : State → ℕ → State × Option Outcome
step s b = ((line.step s b).0, verdict (line.step s b).1)

-- one call
abbrev pub read : State → List ℕ → Scan State Outcome
read = scan step
