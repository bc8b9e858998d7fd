-- Places as text: the first byte's, an escaped piece's, and the greatest that a record can tell.
use Rattle.std.specs.Prelude.{◌≡◌, refl}
use Rattle.line.specs.Places.{places_at}
use Rattle.text.specs.Text.{ascii, digit, decimal_in, decimal}
use Rattle.text.specs.Places.{places_word}

places_first : places_word (places_at 0 0) ≡ ascii " at 0 0"
unfolding ascii digit decimal_in decimal places_word
places_first = refl

places_escaped : places_word (places_at 511 255) ≡ ascii " at 511 255"
unfolding ascii digit decimal_in decimal places_word
places_escaped = refl

places_most : places_word (places_at 18446744073709551615 18446744073709551614) ≡ ascii " at 18446744073709551615 18446744073709551614"
unfolding ascii digit decimal_in decimal places_word
places_most = refl
