-- The line reader, byte by byte (document 01, "From wire to packet").
use Rattle.std.specs.Prelude.{ℕ, List, [], ◌∷◌, ◌++◌, cond, length, ltb, eqb}
use Rattle.std.proofs.Math.Option.{Option, none, some}
use Rattle.line.specs.declared.Fault.{Fault}
use Rattle.line.specs.declared.Fault.TheVariants.{WrongEscape, TooLong}
use Rattle.line.specs.Wire.{END, ESC, ESC-END, ESC-ESC}
use Rattle.line.specs.Scan.{Scan, scan}
use Rattle.line.specs.Places.{Places, FaultAt, behind, behind_esc}

-- up to 255 decoded bytes are held
abbrev pub limit : ℕ
limit = 255

-- document 01's number of a fault
abbrev pub number : Fault → ℕ
number WrongEscape = 1
number TooLong = 2

-- what a packet refusal tells: its number, and where
pub record Refusal : Type 0 where
  pub number : ℕ
  pub at : Places

abbrev pub refusal : FaultAt → Refusal
refusal f = record { number = number f.fault; at = f.at }

-- the fault that settles a piece, by the bytes h decoded before it: of a wrong escape the byte after the ESC, decoded place the count so far
unfoldable pub wrong_escape : List ℕ → FaultAt
wrong_escape h = record { fault = WrongEscape; at = behind_esc h }

-- and the 256th byte
unfoldable pub too_long : List ℕ → FaultAt
too_long h = record { fault = TooLong; at = behind h }

-- the reading state: decoded bytes, the same behind an ESC, or the rest of a settled piece, in which no bytes are held but the fault with its
-- places is
pub data State : Type 0 where
  plain : List ℕ → State
  escaped : List ℕ → State
  skipping : FaultAt → State

-- between packets
abbrev pub emptied : State
emptied = plain []

-- the decoded bytes that a state holds
abbrev pub held : State → List ℕ
held (plain h) = h
held (escaped h) = h
held (skipping f) = []

pub data Outcome : Type 0 where
  packet : List ℕ → Outcome
  refused : Refusal → Outcome

-- one more decoded byte: a 256th settles the piece
unfoldable pub decoded : List ℕ → ℕ → State
decoded h b = cond (ltb (length h) limit) (plain (h ++ b ∷ [])) (skipping (too_long h))

-- a byte that is no END
unfoldable pub inner : State → ℕ → State
inner (plain h) b = cond (eqb b ESC) (escaped h) (decoded h b)
inner (escaped h) b = cond (eqb b ESC-END) (decoded h END) (cond (eqb b ESC-ESC) (decoded h ESC) (skipping (wrong_escape h)))
inner (skipping f) b = skipping f

-- bytes that are no END, one after another
unfoldable pub inside : State → List ℕ → State
inside s [] = s
inside s (b ∷ p) = inside (inner s b) p

-- an END: an empty piece gives no outcome, every other piece gives one
unfoldable pub close : State → Option Outcome
close (plain []) = none
close (plain (b ∷ h)) = some (packet (b ∷ h))
close (escaped h) = some (refused (refusal (wrong_escape h)))
close (skipping f) = some (refused (refusal f))

-- any byte
unfoldable pub step : State → ℕ → State × Option Outcome
step s b = cond (eqb b END) (emptied, close s) (inner s b, none)

-- one call of the reader
abbrev pub read : State → List ℕ → Scan State Outcome
read = scan step
