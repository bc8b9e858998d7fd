-- A byte's place, told twice (document 02, CR 2): the wire byte since the last END, and the decoded byte. Both count from 0.
-- Each is a type of its own, so that comparing one with the other does not check.
use Rattle.std.specs.Prelude.{ℕ, ◌+◌, List, length, take}
use Rattle.line.specs.Wire.{escape}
pub use Rattle.line.specs.declared.WirePlace.{WirePlace}
pub use Rattle.line.specs.declared.DecodedPlace.{DecodedPlace}
pub use Rattle.line.specs.declared.Places.{Places}
pub use Rattle.line.specs.declared.FaultAt.{FaultAt}

abbrev pub wire_at : ℕ → WirePlace
wire_at n = record { 0 = n }

abbrev pub decoded_at : ℕ → DecodedPlace
decoded_at n = record { 0 = n }

-- both, from their numbers
abbrev pub places_at : ℕ → ℕ → Places
places_at w d = record { wire = wire_at w; decoded = decoded_at d }

-- n bytes on
abbrev pub wire_on : WirePlace → ℕ → WirePlace
wire_on w n = wire_at (w.0 + n)

-- the wire bytes of decoded bytes in their one escaped form: one each, two for each C0 or DB
unfoldable pub wire_length : List ℕ → ℕ
wire_length h = length (escape h)

-- where a decoded byte of h stands on the wire; an escaped byte's place is its ESC's
unfoldable pub on_wire : List ℕ → DecodedPlace → WirePlace
on_wire h d = wire_at (wire_length (take d.0 h))

-- both places of a decoded byte
unfoldable pub byte_at : List ℕ → DecodedPlace → Places
byte_at h d = record { wire = on_wire h d; decoded = d }

-- right behind the bytes h: where the next one stands, or the END
unfoldable pub behind : List ℕ → Places
behind h = places_at (wire_length h) (length h)

-- right behind the bytes h and an ESC
unfoldable pub behind_esc : List ℕ → Places
behind_esc h = places_at (wire_length h + 1) (length h)
