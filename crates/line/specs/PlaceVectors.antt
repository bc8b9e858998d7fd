-- Places on bytes: wrong escapes and 256th bytes with escapes before, at and behind the place, read byte by byte and counted along the piece,
-- and the bounds' edges.
use Rattle.std.specs.Prelude.{ℕ, ◌≡◌, refl, List, [], ◌∷◌, ◌++◌, map, true, false, replicate}
use Rattle.line.specs.declared.Fault.TheVariants.{WrongEscape, TooLong}
use Rattle.line.specs.Wire.{escape}
use Rattle.line.specs.Scan.{outcomes, final}
use Rattle.line.specs.Places.{wire_at, decoded_at, wire_length, on_wire, behind, behind_esc}
use Rattle.line.specs.Reader.{wrong_escape, too_long, escaped, skipping, emptied, Outcome, packet, decoded, inner, close, step}
use Rattle.line.specs.Pieces.{symbols, settle, decode, outcome}
use Rattle.line.specs.Reachable.{decoded_fits, possible, written}
use Rattle.line.specs.ReaderVectors.{gives, refused_at, broken}

-- the outcome of a closed piece, its places counted along it
abbrev counted : List ℕ → Outcome
counted p = outcome p (decode p)

-- where each of these bytes stands on the wire; an escaped one where its ESC does
on_wire_lem :
    map (λ (d : ℕ). on_wire (0xC0 ∷ 0x07 ∷ 0xDB ∷ 0xDC ∷ []) (decoded_at d)) (0 ∷ 1 ∷ 2 ∷ 3 ∷ 4 ∷ [])
    ≡ map wire_at (0 ∷ 2 ∷ 3 ∷ 5 ∷ 6 ∷ [])
unfolding on_wire wire_length escape
on_wire_lem = refl

-- P7: the END is the byte after the ESC
p7 : counted (0xDB ∷ []) ≡ refused_at 1 1 0
unfolding symbols settle decode outcome
p7 = refl

-- an ESC behind escaped bytes
esc_behind : gives (0xDB ∷ 0xDC ∷ 0x07 ∷ 0xDB ∷ 0xDD ∷ 0xDB ∷ 0x00 ∷ 0x05 ∷ 0xC0 ∷ []) ≡ refused_at 1 6 3 ∷ []
unfolding outcomes step inner decoded close wrong_escape behind_esc wire_length escape
esc_behind = refl

esc_behind_counted : counted (0xDB ∷ 0xDC ∷ 0x07 ∷ 0xDB ∷ 0xDD ∷ 0xDB ∷ 0x00 ∷ 0x05 ∷ []) ≡ refused_at 1 6 3
unfolding symbols settle decode outcome
esc_behind_counted = refl

-- escapes behind the place are skipped
esc_before : gives (0x07 ∷ 0xDB ∷ 0x07 ∷ 0xDB ∷ 0xDC ∷ 0xDB ∷ 0xDB ∷ 0xC0 ∷ []) ≡ refused_at 1 2 1 ∷ []
unfolding outcomes step inner decoded close wrong_escape behind_esc wire_length escape
esc_before = refl

-- places count from the last END, not from the first byte
since_end : gives (0x07 ∷ 0x08 ∷ 0xC0 ∷ 0xC0 ∷ 0x09 ∷ 0xDB ∷ 0xDB ∷ 0xC0 ∷ []) ≡ packet (0x07 ∷ 0x08 ∷ []) ∷ refused_at 1 2 1 ∷ []
unfolding outcomes step inner decoded close wrong_escape behind_esc wire_length escape
since_end = refl

-- the ESC in one call, and the fault in the next
esc_kept : final step emptied (0xDB ∷ 0xDC ∷ 0xDB ∷ []) ≡ escaped (0xC0 ∷ [])
unfolding final step inner decoded
esc_kept = refl

esc_next : final step (escaped (0xC0 ∷ [])) (0x00 ∷ 0x01 ∷ []) ≡ skipping (broken WrongEscape 3 1)
unfolding final step inner wrong_escape behind_esc wire_length escape
esc_next = refl

-- 256 decoded bytes: none of them escaped, the last, some, and all; escapes behind the place are skipped
abbrev long : List (List ℕ)
long = replicate 256 0x07 ∷ (replicate 255 0x07 ++ 0xC0 ∷ []) ∷ (replicate 155 0x07 ++ replicate 101 0xC0) ∷ replicate 256 0xDB ∷ (replicate 256 0x07 ++ 0xC0 ∷ []) ∷ []

too_long_vector : map (λ (h : List ℕ). counted (escape h)) long ≡ map (λ (w : ℕ). refused_at 2 w 255) (255 ∷ 255 ∷ 355 ∷ 510 ∷ 255 ∷ [])
unfolding symbols settle decode outcome escape
too_long_vector = refl

too_long_read : map (λ (h : List ℕ). gives (escape h ++ 0x00 ∷ 0xC0 ∷ [])) long ≡ map (λ (w : ℕ). refused_at 2 w 255 ∷ []) (255 ∷ 255 ∷ 355 ∷ 510 ∷ 255 ∷ [])
unfolding outcomes step inner decoded close too_long behind wire_length escape
too_long_read = refl

-- 255 are held, and a wrong escape behind them has the greatest places
esc_last : gives (escape (replicate 255 0xC0) ++ 0xDB ∷ 0xC0 ∷ []) ≡ refused_at 1 511 255 ∷ []
unfolding outcomes step inner decoded close wrong_escape behind_esc wire_length escape
esc_last = refl

esc_last_counted : counted (escape (replicate 255 0xC0) ++ 0xDB ∷ []) ≡ refused_at 1 511 255
unfolding symbols settle decode outcome escape
esc_last_counted = refl

-- the bounds' edges, and one beyond each
edges : map possible
    (broken WrongEscape 1 0
    ∷ broken WrongEscape 4 3
    ∷ broken WrongEscape 7 3
    ∷ broken WrongEscape 256 255
    ∷ broken WrongEscape 511 255
    ∷ broken TooLong 255 255
    ∷ broken TooLong 510 255
    ∷ [])
    ≡ replicate 7 true
unfolding possible decoded_fits
edges = refl

beyond : map possible
    (broken WrongEscape 0 0
    ∷ broken WrongEscape 2 0
    ∷ broken WrongEscape 3 3
    ∷ broken WrongEscape 8 3
    ∷ broken WrongEscape 255 255
    ∷ broken WrongEscape 512 255
    ∷ broken WrongEscape 257 256
    ∷ broken TooLong 254 255
    ∷ broken TooLong 511 255
    ∷ broken TooLong 254 254
    ∷ broken TooLong 256 256
    ∷ [])
    ≡ replicate 11 false
unfolding possible decoded_fits
beyond = refl

-- bytes that settle a piece at places in between
in_between : map written (skipping (broken WrongEscape 4 2) ∷ skipping (broken WrongEscape 1 0) ∷ [])
    ≡ (0xDB ∷ 0xDC ∷ 0x00 ∷ 0xDB ∷ 0x00 ∷ []) ∷ (0xDB ∷ 0x00 ∷ []) ∷ []
unfolding written escape
in_between = refl

-- the ESC in one call; in the next the END, or what makes it a 256th byte, which stands at its ESC
esc_then_end : outcomes step (escaped (0xC0 ∷ [])) (0xC0 ∷ []) ≡ refused_at 1 3 1 ∷ []
unfolding outcomes step close wrong_escape behind_esc wire_length escape
esc_then_end = refl

esc_then_long : map (λ (b : ℕ). final step (escaped (replicate 255 0xC0)) (b ∷ [])) (0xDC ∷ 0xDD ∷ 0xDE ∷ []) ≡ skipping (broken TooLong 510 255) ∷ skipping (broken TooLong 510 255) ∷ skipping (broken WrongEscape 511 255) ∷ []
unfolding final step inner decoded too_long wrong_escape behind behind_esc wire_length escape
esc_then_long = refl
