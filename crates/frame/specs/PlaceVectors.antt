-- Places on packets: document 01's P8 to P11, lengths too large and too small, and escaped bytes before and at the place.
use Rattle.std.specs.Prelude.{ℕ, ◌≡◌, refl, [], ◌∷◌, map, replicate}
use Rattle.frame.specs.Xor.{◌⊕◌, xor_all}
use Rattle.frame.specs.Frame.{places_at, wire_length, on_wire, byte_at, behind, escape, Outcome, refused, too_long, too_short, wrong_protocol, below_length, beyond_length, wrong_check, judge}

-- refused n at w d, as the listing writes it
abbrev refused_at : ℕ → ℕ → ℕ → Outcome
refused_at n w d = refused (record { number = n; at = places_at w d })

-- P8 to P11
papers :
    map judge
    ((0x00 ∷ 0x03 ∷ 0x00 ∷ 0x03 ∷ [])
    ∷ (0x01 ∷ 0x03 ∷ 0x00 ∷ 0x01 ∷ 0x03 ∷ [])
    ∷ (0x00 ∷ 0x04 ∷ 0x00 ∷ 0x01 ∷ 0x05 ∷ [])
    ∷ (0x00 ∷ 0x03 ∷ 0x00 ∷ 0x01 ∷ 0x03 ∷ [])
    ∷ [])
    ≡ refused_at 3 4 4 ∷ refused_at 4 0 0 ∷ refused_at 5 5 5 ∷ refused_at 6 4 4 ∷ []
unfolding judge too_short wrong_protocol below_length wrong_check byte_at behind on_wire wire_length escape xor_all ◌⊕◌
papers = refl

-- where two checks fail, the first one tells
first : map judge ((0x01 ∷ 0x04 ∷ 0x00 ∷ 0x01 ∷ 0x05 ∷ []) ∷ (0x01 ∷ 0x04 ∷ 0x00 ∷ 0x01 ∷ []) ∷ (0x00 ∷ 0x04 ∷ 0x00 ∷ 0x01 ∷ 0x06 ∷ []) ∷ (0x00 ∷ 0x02 ∷ 0x00 ∷ 0x01 ∷ 0x06 ∷ []) ∷ [])
    ≡ refused_at 4 0 0 ∷ refused_at 3 4 4 ∷ refused_at 5 5 5 ∷ refused_at 15 4 4 ∷ []
unfolding judge too_short wrong_protocol below_length beyond_length byte_at behind on_wire wire_length escape
first = refl

-- five bytes with L of 0, 1 and 2, and six with L of 3 and 5: the first byte too many, or the END
lengths :
    map (λ (l : ℕ). judge (0x00 ∷ l ∷ 0x00 ∷ 0x01 ∷ 0x07 ∷ [])) (0 ∷ 1 ∷ 2 ∷ [])
    ≡ refused_at 15 2 2 ∷ refused_at 15 3 3 ∷ refused_at 15 4 4 ∷ []
unfolding judge beyond_length byte_at on_wire wire_length escape
lengths = refl

by_one : map (λ (l : ℕ). judge (0x00 ∷ l ∷ 0x00 ∷ 0x01 ∷ 0x02 ∷ 0x07 ∷ [])) (3 ∷ 5 ∷ []) ≡ refused_at 15 5 5 ∷ refused_at 5 6 6 ∷ []
unfolding judge below_length beyond_length byte_at behind on_wire wire_length escape
by_one = refl

-- escaped bytes before the place: a short packet, a short frame, a byte too many, a check byte
escaped_before :
    map judge
    ((0x00 ∷ 0xC0 ∷ 0xDB ∷ [])
    ∷ (0x00 ∷ 0x06 ∷ 0xC0 ∷ 0xDB ∷ 0x07 ∷ [])
    ∷ (0x00 ∷ 0x03 ∷ 0xC0 ∷ 0xDB ∷ 0x07 ∷ 0x08 ∷ [])
    ∷ (0x00 ∷ 0x05 ∷ 0x02 ∷ 0x06 ∷ 0xC0 ∷ 0x00 ∷ 0xC2 ∷ [])
    ∷ [])
    ≡ refused_at 3 5 3 ∷ refused_at 5 7 5 ∷ refused_at 15 7 5 ∷ refused_at 6 7 6 ∷ []
unfolding judge too_short below_length beyond_length wrong_check byte_at behind on_wire wire_length escape xor_all ◌⊕◌
escaped_before = refl

-- and at the place, which is its ESC's: the protocol byte, a byte too many, the check byte
escaped_at :
    map judge
    ((0xC0 ∷ 0x03 ∷ 0x00 ∷ 0x01 ∷ 0x02 ∷ [])
    ∷ (0x00 ∷ 0x03 ∷ 0x00 ∷ 0x01 ∷ 0x02 ∷ 0xC0 ∷ [])
    ∷ (0x00 ∷ 0x03 ∷ 0x00 ∷ 0x01 ∷ 0xDB ∷ [])
    ∷ [])
    ≡ refused_at 4 0 0 ∷ refused_at 15 5 5 ∷ refused_at 6 4 4 ∷ []
unfolding judge wrong_protocol beyond_length wrong_check byte_at on_wire wire_length escape xor_all ◌⊕◌
escaped_at = refl

-- and behind the place, where they do not count: a wrong protocol byte, a byte too many
escaped_behind :
    map judge
    ((0x01 ∷ 0x03 ∷ 0xC0 ∷ 0xDB ∷ 0x07 ∷ [])
    ∷ (0x00 ∷ 0x03 ∷ 0x00 ∷ 0x01 ∷ 0x02 ∷ 0x07 ∷ 0xC0 ∷ 0xDB ∷ [])
    ∷ (0x00 ∷ 0x00 ∷ 0x07 ∷ 0xC0 ∷ 0xDB ∷ [])
    ∷ [])
    ≡ refused_at 4 0 0 ∷ refused_at 15 5 5 ∷ refused_at 15 2 2 ∷ []
unfolding judge wrong_protocol beyond_length byte_at on_wire wire_length escape
escaped_behind = refl

-- 256 bytes, none and all escaped; 255 go on to the other checks
too_long_vector : map judge (replicate 256 0x00 ∷ replicate 256 0xC0 ∷ replicate 255 0x00 ∷ []) ≡ refused_at 2 255 255 ∷ refused_at 2 510 255 ∷ refused_at 15 2 2 ∷ []
unfolding judge too_long beyond_length byte_at on_wire wire_length escape
too_long_vector = refl

-- 15 is judged with 5: behind the protocol byte, and behind the short packet
longer_later : map judge ((0x01 ∷ 0x02 ∷ 0x00 ∷ 0x01 ∷ 0x05 ∷ []) ∷ (0x00 ∷ 0x01 ∷ 0x00 ∷ 0x01 ∷ []) ∷ []) ≡ refused_at 4 0 0 ∷ refused_at 3 4 4 ∷ []
unfolding judge too_short wrong_protocol byte_at behind on_wire wire_length escape
longer_later = refl

-- L of 254 and 255, which no frame has
lengths_most : map (λ (l : ℕ). judge (0x00 ∷ l ∷ 0x00 ∷ 0x01 ∷ 0x07 ∷ [])) (254 ∷ 255 ∷ []) ≡ refused_at 5 5 5 ∷ refused_at 5 5 5 ∷ []
unfolding judge below_length behind wire_length escape
lengths_most = refl

-- 255 bytes, none and all that can be escaped: L too small by one, right with a wrong check byte, and too large by one
of_255 : map (λ (l : ℕ). judge (0x00 ∷ l ∷ replicate 253 0x07)) (252 ∷ 253 ∷ 254 ∷ []) ≡ refused_at 15 254 254 ∷ refused_at 6 254 254 ∷ refused_at 5 255 255 ∷ []
unfolding judge below_length beyond_length wrong_check byte_at behind on_wire wire_length escape xor_all ◌⊕◌
of_255 = refl

of_255_escaped : map (λ (l : ℕ). judge (0x00 ∷ l ∷ replicate 253 0xC0)) (252 ∷ 253 ∷ 254 ∷ []) ≡ refused_at 15 506 254 ∷ refused_at 6 506 254 ∷ refused_at 5 508 255 ∷ []
unfolding judge below_length beyond_length wrong_check byte_at behind on_wire wire_length escape xor_all ◌⊕◌
of_255_escaped = refl

-- more than 256: still the 256th
beyond_256 : judge (replicate 300 0xDB) ≡ refused_at 2 510 255
unfolding judge too_long byte_at on_wire wire_length escape
beyond_256 = refl
