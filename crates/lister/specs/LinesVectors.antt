-- The lines of the listing and of the directory at some numbers.
use Rattle.std.specs.Prelude.{◌≡◌, refl, true, length, leb}
use Rattle.frame.specs.Frame.{places_at}
use Rattle.text.specs.Text.{ascii, digit, decimal_in, decimal}
use Rattle.text.specs.Places.{places_word}
use Rattle.lister.specs.Lines.{frame_line, refused_line, left_line, entry_line, LINE}

frame-empty : frame_line 0x0001 0 ≡ ascii "frame 0001 data 0\n"
unfolding ascii digit decimal_in decimal frame_line
frame-empty = refl

frame-full : frame_line 0x3A0F 251 ≡ ascii "frame 3A0F data 251\n"
unfolding ascii digit decimal_in decimal frame_line
frame-full = refl

-- document 01's P11, and a frame that is longer than it claims; its first byte too many is behind an escaped one
refused_check : refused_line 6 (places_at 4 4) ≡ ascii "refused 6 at 4 4\n"
unfolding ascii digit decimal_in decimal places_word refused_line
refused_check = refl

refused_longer : refused_line 15 (places_at 10 9) ≡ ascii "refused 15 at 10 9\n"
unfolding ascii digit decimal_in decimal places_word refused_line
refused_longer = refl

-- the longest line
line_longest : leb (length (refused_line 255 (places_at 18446744073709551615 18446744073709551615))) LINE ≡ true
unfolding ascii digit decimal_in decimal places_word refused_line
line_longest = refl

left-none : left_line 0 ≡ ascii "left 0\n"
unfolding ascii digit decimal_in decimal left_line
left-none = refl

left_most : left_line 18446744073709551615 ≡ ascii "left 18446744073709551615\n"
unfolding ascii digit decimal_in decimal left_line
left_most = refl

entry-none : entry_line 0x0001 0 0 ≡ ascii "0001 0 0\n"
unfolding ascii digit decimal_in decimal entry_line
entry-none = refl

entry-any : entry_line 0x030A 0 250 ≡ ascii "030A 0 250\n"
unfolding ascii digit decimal_in decimal entry_line
entry-any = refl
