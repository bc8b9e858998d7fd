-- Where a packet broke, as text.
use Rattle.std.specs.Prelude.{ℕ, List, ◌++◌}
use Rattle.line.specs.declared.Places.{Places}
use Rattle.text.specs.Text.{ascii, decimal}

-- a byte's wire place, then its decoded place
unfoldable pub places_word : Places → List ℕ
places_word p = ascii " at " ++ decimal p.wire.0 ++ ascii " " ++ decimal p.decoded.0
