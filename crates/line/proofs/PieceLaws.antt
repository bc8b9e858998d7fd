-- Where a decoded byte stands in the piece that gave it (specs/PieceLaws.antt has the other laws of pieces).
use Rattle.std.specs.Prelude.{ℕ, ◌<◌, ◌≡◌, List, length, take, get_or, eqb}
use Rattle.std.proofs.Math.Bool.{cond}
use Rattle.line.specs.Wire.{END, ESC, escape}
use Rattle.line.specs.Places.{decoded_at, on_wire}
use Rattle.line.specs.PlaceLaws.{on_wire-before, on_wire_byte}
use Rattle.line.specs.Reader.{plain}
use Rattle.line.specs.Pieces.{decode, NoEnd}
use Rattle.line.specs.PieceLaws.{packet_escaped}

-- there its decoded byte d stands, or that byte's ESC, behind the wire bytes of those before it
pub byte_in_piece : (p h : List ℕ) (d : ℕ) → NoEnd p → decode p ≡ plain h → d < length h
    → (take (on_wire h (decoded_at d)).0 p ≡ escape (take d h)) × (get_or p (on_wire h (decoded_at d)).0 0 ≡ cond (eqb (get_or h d 0) END) ESC (get_or h d 0))
byte_in_piece p h d n e x = rw (packet_escaped p h n e) (on_wire-before h d, on_wire_byte h d x)
