-- The pieces at some numbers, and some bytes appended.
use Rattle.std.specs.Prelude.{◌≡◌, refl, [], ◌∷◌}
use Rattle.text.specs.Text.{ascii, digit, decimal_in, decimal, hex4}
use Rattle.text.specs.Appended.{appended}

line_end_lem : ascii "\n" ≡ 10 ∷ []
unfolding ascii
line_end_lem = refl

decimal-none : decimal 0 ≡ ascii "0"
unfolding ascii digit decimal_in decimal
decimal-none = refl

decimal_ten : decimal 10 ≡ ascii "10"
unfolding ascii digit decimal_in decimal
decimal_ten = refl

decimal_most : decimal 18446744073709551615 ≡ ascii "18446744073709551615"
unfolding ascii digit decimal_in decimal
decimal_most = refl

hex4_letters : hex4 0x3A0F ≡ ascii "3A0F"
unfolding ascii digit
hex4_letters = refl

-- two bytes that just fit, two of which the last does not, and two of which none does
append_fits : appended (1 ∷ 2 ∷ 3 ∷ []) 1 (8 ∷ 9 ∷ []) ≡ record { bytes = 1 ∷ 8 ∷ 9 ∷ []; place = 3 }
unfolding appended
append_fits = refl

append_not_whole : appended (1 ∷ 2 ∷ 3 ∷ []) 2 (8 ∷ 9 ∷ []) ≡ record { bytes = 1 ∷ 2 ∷ 3 ∷ []; place = 2 }
unfolding appended
append_not_whole = refl

append_behind : appended (1 ∷ 2 ∷ 3 ∷ []) 3 (8 ∷ 9 ∷ []) ≡ record { bytes = 1 ∷ 2 ∷ 3 ∷ []; place = 3 }
unfolding appended
append_behind = refl
