-- The sender's and the reader's rules on bytes: document 01's P2 and P7, its slips, and the edges of what is held and lent. A refusal's places
-- are PlaceVectors.antt's.
use Rattle.std.specs.Prelude.{ℕ, ◌≡◌, refl, List, [], ◌∷◌, map, replicate}
use Rattle.line.specs.declared.Fault.{Fault}
use Rattle.line.specs.declared.Fault.TheVariants.{WrongEscape, TooLong}
use Rattle.line.specs.declared.Mode.{Mode}
use Rattle.line.specs.declared.Mode.TheVariants.{Plain, Escaped, Skipping}
use Rattle.line.specs.Wire.{escape}
use Rattle.line.specs.Scan.{outcomes, final}
use Rattle.line.specs.Places.{FaultAt, places_at, wire_length, behind, behind_esc}
use Rattle.line.specs.Reader.{wrong_escape, too_long, State, plain, escaped, skipping, emptied, Outcome, packet, refused, decoded, inner, close, step}
use Rattle.line.specs.Reachable.{decoded_fits, possible}
use Rattle.line.specs.Answers.{taken_as}

-- C0 and DB are sent escaped, DC and DD and all others as they are
sent : escape (0xC0 ∷ 0xDB ∷ 0xDC ∷ 0xDD ∷ 0xC1 ∷ []) ≡ 0xDB ∷ 0xDC ∷ 0xDB ∷ 0xDD ∷ 0xDC ∷ 0xDD ∷ 0xC1 ∷ []
unfolding escape
sent = refl

-- what a wire gives
abbrev pub gives : List ℕ → List Outcome
gives = outcomes step emptied

-- refused n at w d, as the listing writes it
abbrev pub refused_at : ℕ → ℕ → ℕ → Outcome
refused_at n w d = refused (record { number = n; at = places_at w d })

-- a fault at these places
abbrev pub broken : Fault → ℕ → ℕ → FaultAt
broken f w d = record { fault = f; at = places_at w d }

-- empty pieces give nothing
p2 : gives (0xC0 ∷ 0xC0 ∷ 0xC0 ∷ []) ≡ []
unfolding outcomes step close
p2 = refl

-- escaped bytes are decoded, and DC and DD by themselves go as they are
decoded-bytes : gives (0xDB ∷ 0xDC ∷ 0xDC ∷ 0xDB ∷ 0xDD ∷ 0xDD ∷ 0xC0 ∷ []) ≡ packet (0xC0 ∷ 0xDC ∷ 0xDB ∷ 0xDD ∷ []) ∷ []
unfolding outcomes step inner decoded close
decoded-bytes = refl

-- an ESC before END, and before another ESC, is a wrong escape: the place is the byte after it
p7 : gives (0xC0 ∷ 0xDB ∷ 0xC0 ∷ []) ≡ refused_at 1 1 0 ∷ []
unfolding outcomes step inner close wrong_escape behind_esc wire_length escape
p7 = refl

esc_esc : gives (0xDB ∷ 0xDB ∷ 0xC0 ∷ []) ≡ refused_at 1 1 0 ∷ []
unfolding outcomes step inner close wrong_escape behind_esc wire_length escape
esc_esc = refl

-- behind a wrong escape a frame's bytes are skipped to END, and the next packet is read
skipped : gives (0xDB ∷ 0x00 ∷ 0x00 ∷ 0x03 ∷ 0x00 ∷ 0x01 ∷ 0x02 ∷ 0xC0 ∷ 0x07 ∷ 0xC0 ∷ []) ≡ refused_at 1 1 0 ∷ packet (0x07 ∷ []) ∷ []
unfolding outcomes step inner decoded close wrong_escape behind_esc wire_length escape
skipped = refl

-- the 255th byte is held, a 256th settles the piece
held_255 : final step (plain (replicate 254 7)) (7 ∷ []) ≡ plain (replicate 255 7)
unfolding final step inner decoded
held_255 = refl

held_256 : final step (plain (replicate 255 7)) (7 ∷ []) ≡ skipping (broken TooLong 255 255)
unfolding final step inner decoded too_long behind wire_length escape
held_256 = refl

too_long_vector : outcomes step (plain (replicate 255 7)) (7 ∷ 0xC0 ∷ []) ≡ refused_at 2 255 255 ∷ []
unfolding outcomes step inner decoded close too_long behind wire_length escape
too_long_vector = refl

-- what a record of 255 sevens is taken as
abbrev lent : ℕ → Mode → State
lent n m = taken_as (replicate 255 7) n m

-- one that claims 255 bytes has them, and one that claims 256 is between packets, skipping or not
claims : lent 255 Plain ∷ lent 255 Escaped ∷ lent 256 Plain ∷ lent 256 Escaped ∷ lent 256 (Skipping (broken TooLong 255 255)) ∷ []
    ≡ plain (replicate 255 7) ∷ escaped (replicate 255 7) ∷ emptied ∷ emptied ∷ emptied ∷ []
claims = refl

-- one that skips holds none, whatever it claims; with places that no bytes could leave it is between packets
skips : map (λ (n : ℕ). lent n (Skipping (broken TooLong 255 255))) (0 ∷ 1 ∷ 255 ∷ []) ≡ replicate 3 (skipping (broken TooLong 255 255))
unfolding possible decoded_fits
skips = refl

impossible : map (λ (f : FaultAt). lent 0 (Skipping f)) (broken TooLong 254 255 ∷ broken TooLong 511 255 ∷ broken WrongEscape 0 0 ∷ broken WrongEscape 1 1 ∷ [])
    ≡ replicate 4 emptied
unfolding possible decoded_fits
impossible = refl

-- impossible places with bytes claimed, and possible ones at each edge
impossible_claims : map (λ (n : ℕ). lent n (Skipping (broken TooLong 511 255))) (1 ∷ 255 ∷ 256 ∷ []) ≡ replicate 3 emptied
unfolding possible decoded_fits
impossible_claims = refl

possible_edges : map (λ (f : FaultAt). lent 3 (Skipping f)) (broken WrongEscape 1 0 ∷ broken WrongEscape 256 255 ∷ broken WrongEscape 511 255 ∷ broken TooLong 510 255 ∷ [])
    ≡ skipping (broken WrongEscape 1 0) ∷ skipping (broken WrongEscape 256 255) ∷ skipping (broken WrongEscape 511 255) ∷ skipping (broken TooLong 510 255) ∷ []
unfolding possible decoded_fits
possible_edges = refl
