-- Where a place of a packet lies (document 02, CR 2).
use Rattle.std.specs.Prelude.{ℕ, ◌<◌, ◌≡◌, List, cond, length, take, get_or, eqb}
use Rattle.line.specs.Wire.{END, ESC, escape}
use Rattle.line.specs.declared.Places.{Places}
use Rattle.frame.specs.Frame.{wire_at, decoded_at, byte_at, behind}

-- a place in the packet: a decoded byte's, or the END's
pub data Within (h : List ℕ) : Places → Type 0 where
  byte : (d : ℕ) → d < length h → Within h (byte_at h (decoded_at d))
  end : Within h (behind h)

-- a place in the piece p that gave the packet, its wire bytes counted: the byte d or its ESC stands there, behind the wire bytes of those
-- before it; or the END stands there, behind the whole piece
pub data InPiece (p h : List ℕ) : Places → Type 0 where
  byte_there : (w d : ℕ) → d < length h → take w p ≡ escape (take d h) → get_or p w 0 ≡ cond (eqb (get_or h d 0) END) ESC (get_or h d 0)
      → InPiece p h (record { wire = wire_at w; decoded = decoded_at d })
  end_there : InPiece p h (record { wire = wire_at (length p); decoded = decoded_at (length h) })
