-- Bytes as text: none and some.
use Rattle.std.specs.Prelude.{◌≡◌, refl, [], ◌∷◌}
use Rattle.text.specs.Text.{ascii, digit}
use Rattle.text.specs.Bytes.{hex_pairs, bytes_word}

bytes-none : bytes_word [] ≡ ascii "-"
unfolding ascii bytes_word
bytes-none = refl

bytes-some : bytes_word (0xC0 ∷ 0x0F ∷ 0x19 ∷ []) ≡ ascii "C00F19"
unfolding ascii digit hex_pairs bytes_word
bytes-some = refl
