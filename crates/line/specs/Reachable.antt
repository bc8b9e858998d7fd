-- The states that bytes read from between packets leave (document 02, CR 2): bounds on a fault's places, and bytes that lead to each.
use Rattle.std.specs.Prelude.{ℕ, ◌+◌, ◌-◌, ◌*◌, ◌≤◌, ◌<◌, ◌≡◌, List, [], ◌∷◌, ◌++◌, Bool, ◌&&◌, length, replicate, leb, eqb}
use Rattle.line.specs.declared.Fault.{Fault}
use Rattle.line.specs.declared.Fault.TheVariants.{WrongEscape, TooLong}
use Rattle.line.specs.Wire.{END, ESC, escape}
use Rattle.line.specs.Places.{WirePlace, DecodedPlace, wire_at, FaultAt}
use Rattle.line.specs.Reader.{limit, refusal, State, plain, escaped, skipping, Outcome, packet, refused}

-- a fault's decoded place: at most 255 bytes stand before a wrong escape, and 255 before the 256th
abbrev pub DecodedFits : Fault → DecodedPlace → Type 0
DecodedFits WrongEscape d = d.0 ≤ limit
DecodedFits TooLong d = d.0 ≡ limit

-- its wire place, by its decoded place: none of the bytes before it is escaped, or all are
abbrev pub least_wire : Fault → DecodedPlace → WirePlace
least_wire WrongEscape d = wire_at (d.0 + 1)
least_wire TooLong d = wire_at d.0

abbrev pub most_wire : Fault → DecodedPlace → WirePlace
most_wire WrongEscape d = wire_at (2 * d.0 + 1)
most_wire TooLong d = wire_at (2 * d.0)

pub record Possible (f : FaultAt) : Type 0 where
  pub decoded : DecodedFits f.fault f.at.decoded
  pub least : (least_wire f.fault f.at.decoded).0 ≤ f.at.wire.0
  pub most : f.at.wire.0 ≤ (most_wire f.fault f.at.decoded).0

-- the same as a test
unfoldable pub decoded_fits : Fault → DecodedPlace → Bool
decoded_fits WrongEscape d = leb d.0 limit
decoded_fits TooLong d = eqb d.0 limit

unfoldable pub possible : FaultAt → Bool
possible f =
    decoded_fits f.fault f.at.decoded
    && leb (least_wire f.fault f.at.decoded).0 f.at.wire.0
    && leb f.at.wire.0 (most_wire f.fault f.at.decoded).0

-- a state that some bytes leave: it holds no more than 255 bytes, or a fault within the bounds
abbrev pub Reachable : State → Type 0
Reachable (plain h) = length h ≤ limit
Reachable (escaped h) = length h ≤ limit
Reachable (skipping f) = Possible f

-- an outcome that some bytes give: a packet of 1 to 255 bytes, or the refusal of a fault within the bounds
abbrev pub PossibleOutcome : Outcome → Type 0
PossibleOutcome (packet h) = (0 < length h) × (length h ≤ limit)
PossibleOutcome (refused n) = (f : FaultAt) × Possible f × (refusal f ≡ n)

-- n decoded bytes, the first e of them sent escaped
abbrev pub mixed : ℕ → ℕ → List ℕ
mixed n e = replicate e END ++ replicate (n - e) 0

-- bytes that settle a piece at these places: as many are escaped as the wire place lies beyond the least
abbrev pub settling : Fault → WirePlace → DecodedPlace → List ℕ
settling WrongEscape w d = escape (mixed d.0 (w.0 - (least_wire WrongEscape d).0)) ++ ESC ∷ 0 ∷ []
settling TooLong w d = escape (mixed d.0 (w.0 - (least_wire TooLong d).0)) ++ 0 ∷ []

-- bytes without an END that lead from between packets to a state
unfoldable pub written : State → List ℕ
written (plain h) = escape h
written (escaped h) = escape h ++ ESC ∷ []
written (skipping f) = settling f.fault f.at.wire f.at.decoded
