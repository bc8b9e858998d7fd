-- How long the words of two places are.
use Rattle.std.specs.Prelude.{◌+◌, ◌^◌, ◌≤◌, ◌<◌, ◌≡◌, length}
use Rattle.std.proofs.Common.{arith, length-append}
use Rattle.line.specs.declared.Places.{Places}
use Rattle.text.specs.Text.{ascii, decimal}
use Rattle.text.specs.DecimalLaws.{decimal_short}
use Rattle.text.specs.Places.{places_word}

pub length-places_word : (p : Places) → length (places_word p) ≡ 5 + length (decimal p.wire.0) + length (decimal p.decoded.0)
unfolding places_word ascii
length-places_word p = simp length-append (omega arith)

-- 64 bits hold no more than twenty digits each
pub places_word_short : (p : Places) → p.wire.0 < 2 ^ 64 → p.decoded.0 < 2 ^ 64 → length (places_word p) ≤ 45
places_word_short p w d = omega (arith, length-places_word p, decimal_short p.wire.0 w, decimal_short p.decoded.0 d)
