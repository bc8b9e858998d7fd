-- Document 01's listing, and what is left of an open piece, computed.
use Rattle.std.specs.Prelude.{◌≡◌, refl, [], ◌∷◌}
use Rattle.frame.specs.Frame as frame
use Rattle.frame.specs.Line as line
use Rattle.frame.specs.Reader.{outcomes, inner, verdict, step}
use Rattle.frame.specs.Xor as xor
use Rattle.text.specs.Text as text
use Rattle.text.specs.Places as places
use Rattle.lister.specs.Lines as form
use Rattle.lister.specs.Listing.{lines, left_after, listing}

-- P3 followed by P11, whole
example : listing (0xC0 ∷ 0x00 ∷ 0x03 ∷ 0x00 ∷ 0x01 ∷ 0x02 ∷ 0xC0 ∷ 0xC0 ∷ 0x00 ∷ 0x03 ∷ 0x00 ∷ 0x01 ∷ 0x03 ∷ 0xC0 ∷ [])
    ≡ text.ascii "frame 0001 data 0\nrefused 6 at 4 4\nleft 0\n"
unfolding listing lines left_after outcomes step verdict line.step line.close inner line.decoded frame.judge frame.wrong_check frame.byte_at frame.on_wire frame.wire_length frame.escape xor.xor_all xor.◌⊕◌
    text.ascii text.digit text.decimal_in text.decimal places.places_word form.frame_line form.refused_line form.left_line
example = refl

-- Pieces that break behind an escaped byte, so that the wire place is beyond the decoded one: a wrong escape, a frame that is longer than it
-- claims, and a shorter one.
broken : listing (0xC0 ∷ 0xDB ∷ 0xDC ∷ 0x01 ∷ 0xDB ∷ 0x02 ∷ 0x03 ∷ 0xC0 ∷ 0x00 ∷ 0x03 ∷ 0x00 ∷ 0xDB ∷ 0xDC ∷ 0xC3 ∷ 0x55 ∷ 0xC0 ∷ 0x00 ∷ 0x05 ∷ 0xDB ∷ 0xDD ∷ 0x01 ∷ 0x02 ∷ 0xC0 ∷ [])
    ≡ text.ascii "refused 1 at 4 2\nrefused 15 at 6 5\nrefused 5 at 6 5\nleft 0\n"
unfolding listing lines left_after outcomes step verdict line.step line.close line.wrong_escape line.behind_esc inner line.decoded frame.judge frame.beyond_length frame.below_length frame.byte_at frame.behind frame.on_wire frame.wire_length frame.escape
    text.ascii text.digit text.decimal_in text.decimal places.places_word form.refused_line form.left_line
broken = refl

-- P4, whose frame has two data bytes; then an open piece, of which each wire byte counts, the ESC too
open_piece : listing (0xC0 ∷ 0x00 ∷ 0x05 ∷ 0x02 ∷ 0x06 ∷ 0xDB ∷ 0xDC ∷ 0x00 ∷ 0xC1 ∷ 0xC0 ∷ 0x00 ∷ 0xDB ∷ 0xDC ∷ [])
    ≡ text.ascii "frame 0206 data 2\nleft 3\n"
unfolding listing lines left_after outcomes step verdict line.step line.close inner line.decoded frame.judge frame.wrong_check xor.xor_all xor.◌⊕◌ text.ascii text.digit text.decimal_in text.decimal form.frame_line form.refused_line form.left_line
open_piece = refl
