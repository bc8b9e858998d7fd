-- The answers at some values: each line once.
use Rattle.std.specs.Prelude.{◌≡◌, refl, [], ◌∷◌, true, false, length, leb}
use Rattle.text.specs.Text.{ascii, digit, decimal_in, decimal}
use Rattle.text.specs.Bytes.{hex_pairs, bytes_word}
use Rattle.text.specs.Places.{places_word}
use Rattle.line.specs.Places.{places_at}
use Rattle.report.specs.Report.{bad_line, long_line, done_line, line_end, refused_line, finished_line, none_line, frame_line, packet_line, has_other, has_spilled, head_size, placed_size}

bad : bad_line 18446744073709551615 6 ≡ ascii "bad line 18446744073709551615 word 6\n"
unfolding ascii digit decimal_in decimal bad_line
bad = refl

too_long_vector : long_line 1 ≡ ascii "bad line 1 too long\n"
unfolding ascii digit decimal_in decimal long_line
too_long_vector = refl

done : done_line ≡ ascii "done\n"
unfolding ascii done_line
done = refl

refused_largest : refused_line 14 false ≡ ascii "refused 14\n"
unfolding ascii digit decimal_in decimal line_end refused_line
refused_largest = refl

refused_spilled : refused_line 9 true ≡ ascii "refused 9 spilled\n"
unfolding ascii digit decimal_in decimal line_end refused_line
refused_spilled = refl

-- the frame that tells a session's end
finished : finished_line 3 (0xC0 ∷ 0x00 ∷ 0x05 ∷ 0x03 ∷ 0x04 ∷ 0x01 ∷ 0x02 ∷ 0x01 ∷ 0xC0 ∷ []) false ≡ ascii "finished 3 reply C000050304010201C0\n"
unfolding ascii digit decimal_in decimal hex_pairs bytes_word line_end finished_line
finished = refl

finished_spilled : finished_line 0 (0xC0 ∷ []) true ≡ ascii "finished 0 reply C0 spilled\n"
unfolding ascii digit decimal_in decimal hex_pairs bytes_word line_end finished_line
finished_spilled = refl

none_yet : none_line 1024 [] false ≡ ascii "used 1024 none reply -\n"
unfolding ascii digit decimal_in decimal hex_pairs bytes_word line_end none_line
none_yet = refl

none_spilled : none_line 0 [] true ≡ ascii "used 0 none reply - spilled\n"
unfolding ascii digit decimal_in decimal hex_pairs bytes_word line_end none_line
none_spilled = refl

-- the right password
frame_login : frame_line 38 0x3000 32 (0xC0 ∷ 0x00 ∷ 0x04 ∷ 0x30 ∷ 0x01 ∷ 0x00 ∷ 0x35 ∷ 0xC0 ∷ []) false ≡ ascii "used 38 frame 3000 data 32 reply C0000430010035C0\n"
unfolding ascii digit decimal_in decimal hex_pairs bytes_word line_end frame_line
frame_login = refl

frame_spilled : frame_line 7 0x02AB 250 [] true ≡ ascii "used 7 frame 02AB data 250 reply - spilled\n"
unfolding ascii digit decimal_in decimal hex_pairs bytes_word line_end frame_line
frame_spilled = refl

-- the check byte of document 01's P11; a wrong escape behind 255 escaped bytes
packet_check : packet_line 7 6 (places_at 4 4) (0xC0 ∷ 0x00 ∷ 0x04 ∷ 0x00 ∷ 0x00 ∷ 0x02 ∷ 0x06 ∷ 0xC0 ∷ []) false ≡ ascii "used 7 packet 6 at 4 4 reply C0000400000206C0\n"
unfolding ascii digit decimal_in decimal hex_pairs bytes_word places_word line_end packet_line
packet_check = refl

packet_spilled : packet_line 2 1 (places_at 511 255) (0x0F ∷ 0xF0 ∷ []) true ≡ ascii "used 2 packet 1 at 511 255 reply 0FF0 spilled\n"
unfolding ascii digit decimal_in decimal hex_pairs bytes_word places_word line_end packet_line
packet_spilled = refl

-- a byte before the place counts for nothing, one at it does, and the last one does
spilled_before : has_spilled (0x00 ∷ 0xA5 ∷ 0xA5 ∷ []) 1 0xA5 ≡ false
unfolding has_other has_spilled
spilled_before = refl

spilled_at : has_spilled (0xA5 ∷ 0x00 ∷ 0xA5 ∷ []) 1 0xA5 ≡ true
unfolding has_other has_spilled
spilled_at = refl

spilled_last : has_spilled (0xA5 ∷ 0xA5 ∷ 0x5A ∷ []) 0 0xA5 ≡ true
unfolding has_other has_spilled
spilled_last = refl

spilled_past : has_spilled (0x00 ∷ []) 2 0xA5 ≡ false
unfolding has_other has_spilled
spilled_past = refl

-- the longest line up to its last number
head-longest : leb (length (ascii "used 18446744073709551615 frame FFFF data ")) head_size ≡ true
unfolding ascii
head-longest = refl

-- the longest word behind it
placed-longest : leb (length (ascii " at 18446744073709551615 18446744073709551615 reply ")) placed_size ≡ true
unfolding ascii
placed-longest = refl
