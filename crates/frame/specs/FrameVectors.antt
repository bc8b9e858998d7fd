-- The frame layer's rules on bytes: document 01's packets accepted and shown, and frames written at the edges of room and data. Refusals are
-- PlaceVectors.antt's.
use Rattle.std.specs.Prelude.{ℕ, ◌+◌, ◌≡◌, refl, List, [], ◌∷◌, ◌++◌, map, length, replicate}
use Rattle.frame.specs.Xor.{◌⊕◌, xor_all}
use Rattle.frame.specs.Frame.{places_at, wire_length, on_wire, byte_at, escape, frame, head_of, body, framed, wire, command_of, wrong_check, judge}
use Rattle.frame.specs.View.{shown_command, shown_data, shown_refusal, shown_at, shown_start}
use Rattle.frame.specs.Writer as writer
use Rattle.frame.specs.Writer.{write, write_at, measured}

-- two of the packets
p4 : List ℕ
p4 = 0x00 ∷ 0x05 ∷ 0x02 ∷ 0x06 ∷ 0xC0 ∷ 0x00 ∷ 0xC1 ∷ []

p11 : List ℕ
p11 = 0x00 ∷ 0x03 ∷ 0x00 ∷ 0x01 ∷ 0x03 ∷ []

-- P3 to P6, accepted
accepted :
    map judge
    ((0x00 ∷ 0x03 ∷ 0x00 ∷ 0x01 ∷ 0x02 ∷ [])
    ∷ p4
    ∷ (0x00 ∷ 0x05 ∷ 0x02 ∷ 0x06 ∷ 0xC1 ∷ 0x00 ∷ 0xC0 ∷ [])
    ∷ (0x00 ∷ 0x05 ∷ 0x02 ∷ 0x06 ∷ 0xDB ∷ 0x00 ∷ 0xDA ∷ [])
    ∷ [])
    ≡ frame 0x0001 [] ∷ frame 0x0206 (0xC0 ∷ 0x00 ∷ []) ∷ frame 0x0206 (0xC1 ∷ 0x00 ∷ []) ∷ frame 0x0206 (0xDB ∷ 0x00 ∷ []) ∷ []
unfolding p4 judge xor_all ◌⊕◌
accepted = refl

-- the command's two bytes, high byte first, in a packet and in a head
commands : map command_of ((0x00 ∷ 0x03 ∷ 0x12 ∷ 0x34 ∷ 0x25 ∷ []) ∷ (0x00 ∷ 0x03 ∷ 0xFF ∷ 0x00 ∷ 0xFC ∷ []) ∷ []) ≡ 0x1234 ∷ 0xFF00 ∷ []
commands = refl

heads : head_of 0x1234 0 ∷ head_of 0xFF00 250 ∷ [] ≡ (0x00 ∷ 0x03 ∷ 0x12 ∷ 0x34 ∷ []) ∷ (0x00 ∷ 0xFD ∷ 0xFF ∷ 0x00 ∷ []) ∷ []
heads = refl

-- P4 and P11, shown: P4's data begin behind its head
shown : map (λ (h : List ℕ). shown_command (judge h)) (p4 ∷ p11 ∷ []) ≡ 0x0206 ∷ 0 ∷ []
unfolding p4 p11 judge xor_all ◌⊕◌ wrong_check
shown = refl

shown-from : map (λ (h : List ℕ). shown_start (judge h)) (p4 ∷ p11 ∷ []) ≡ 4 ∷ 0 ∷ []
unfolding p4 p11 judge xor_all ◌⊕◌ wrong_check
shown-from = refl

shown_data_lem : map (λ (h : List ℕ). shown_data (judge h)) (p4 ∷ p11 ∷ []) ≡ (0xC0 ∷ 0x00 ∷ []) ∷ [] ∷ []
unfolding p4 p11 judge xor_all ◌⊕◌ wrong_check
shown_data_lem = refl

-- P11's view is told from that of the frame 0000 without data
shown-refusal : map (λ (h : List ℕ). shown_refusal (judge h)) (p4 ∷ p11 ∷ framed 0x0000 [] ∷ []) ≡ 0 ∷ 6 ∷ 0 ∷ []
unfolding p4 p11 judge framed body xor_all ◌⊕◌ wrong_check
shown-refusal = refl

shown-at : map (λ (h : List ℕ). shown_at (judge h)) (p4 ∷ p11 ∷ []) ≡ places_at 0 0 ∷ places_at 4 4 ∷ []
unfolding p4 p11 judge xor_all ◌⊕◌ wrong_check byte_at on_wire wire_length escape
shown-at = refl

-- the wire forms of P3 to P6
p3_sent : List ℕ
p3_sent = 0xC0 ∷ 0x00 ∷ 0x03 ∷ 0x00 ∷ 0x01 ∷ 0x02 ∷ 0xC0 ∷ []

wires :
    wire 0x0001 [] ∷ map (wire 0x0206) ((0xC0 ∷ 0x00 ∷ []) ∷ (0xC1 ∷ 0x00 ∷ []) ∷ (0xDB ∷ 0x00 ∷ []) ∷ [])
    ≡ p3_sent
    ∷ (0xC0 ∷ 0x00 ∷ 0x05 ∷ 0x02 ∷ 0x06 ∷ 0xDB ∷ 0xDC ∷ 0x00 ∷ 0xC1 ∷ 0xC0 ∷ [])
    ∷ (0xC0 ∷ 0x00 ∷ 0x05 ∷ 0x02 ∷ 0x06 ∷ 0xC1 ∷ 0x00 ∷ 0xDB ∷ 0xDC ∷ 0xC0 ∷ [])
    ∷ (0xC0 ∷ 0x00 ∷ 0x05 ∷ 0x02 ∷ 0x06 ∷ 0xDB ∷ 0xDD ∷ 0x00 ∷ 0xDA ∷ 0xC0 ∷ [])
    ∷ []
unfolding p3_sent wire framed body escape xor_all ◌⊕◌
wires = refl

-- a length byte C0 is escaped: the wire form of 189 data bytes takes 8 more
length_escaped : length (wire 0x0001 (replicate 189 0)) ≡ 189 + 8
unfolding wire framed body escape xor_all ◌⊕◌
length_escaped = refl

-- P3 is written in its 7 bytes of room, and not in 6 or none; of 8 the last one stays
room_7 : write (replicate 7 7) 0x0001 [] ≡ record { answer = writer.up_to 7; room = p3_sent }
unfolding p3_sent write wire framed body escape xor_all ◌⊕◌
room_7 = refl

room_8 : write (replicate 8 7) 0x0001 [] ≡ record { answer = writer.up_to 7; room = p3_sent ++ 7 ∷ [] }
unfolding p3_sent write wire framed body escape xor_all ◌⊕◌
room_8 = refl

rooms_short : map (λ (n : ℕ). write (replicate n 7) 0x0001 []) (6 ∷ 0 ∷ []) ≡ map (λ (n : ℕ). record { answer = writer.refused 9; room = replicate n 7 }) (6 ∷ 0 ∷ [])
unfolding write wire framed body escape xor_all ◌⊕◌
rooms_short = refl

-- what is held against the room is the wire form, escaped bytes counted twice: a data byte C0, a check byte C0, a length byte C0
abbrev answers : ℕ → List ℕ → List ℕ → List writer.Writing
answers c d rooms = map (λ (n : ℕ). (write (replicate n 7) c d).answer) rooms

rooms_escaped :
    map (λ (d : List ℕ). answers 0x0206 d (9 ∷ 10 ∷ 11 ∷ [])) ((0xC0 ∷ 0x00 ∷ []) ∷ (0xC1 ∷ 0x00 ∷ []) ∷ (0xDB ∷ 0x00 ∷ []) ∷ [])
    ≡ replicate 3 (writer.refused 9 ∷ writer.up_to 10 ∷ writer.up_to 10 ∷ [])
unfolding write wire framed body escape xor_all ◌⊕◌
rooms_escaped = refl

rooms_length_escaped : answers 0x0001 (replicate 189 0) (196 ∷ 197 ∷ 198 ∷ []) ≡ writer.refused 9 ∷ writer.up_to 197 ∷ writer.up_to 197 ∷ []
unfolding write wire framed body escape xor_all ◌⊕◌
rooms_length_escaped = refl

-- every byte doubled but the protocol byte, the check byte too: 216 data bytes, length byte DB
rooms_doubled : answers 0xC0C0 (replicate 216 0xC0) (442 ∷ 443 ∷ 444 ∷ []) ≡ writer.refused 9 ∷ writer.up_to 443 ∷ writer.up_to 443 ∷ []
unfolding write wire framed body escape xor_all ◌⊕◌
rooms_doubled = refl

-- 250 data bytes are written, plain and all doubled; 251 are not, and in room 0 too they are refusal 10
data_250 : answers 0x0001 (replicate 250 0) (256 ∷ 257 ∷ 258 ∷ []) ≡ writer.refused 9 ∷ writer.up_to 257 ∷ writer.up_to 257 ∷ []
unfolding write wire framed body escape xor_all ◌⊕◌
data_250 = refl

data_250_doubled : answers 0xC0C0 (replicate 250 0xC0) (508 ∷ 509 ∷ 512 ∷ []) ≡ writer.refused 9 ∷ writer.up_to 509 ∷ writer.up_to 509 ∷ []
unfolding write wire framed body escape xor_all ◌⊕◌
data_250_doubled = refl

data_251 : map (λ (n : ℕ). write (replicate n 7) 0x0001 (replicate 251 0)) (0 ∷ 257 ∷ 512 ∷ []) ≡ map (λ (n : ℕ). record { answer = writer.refused 10; room = replicate n 7 }) (0 ∷ 257 ∷ 512 ∷ [])
unfolding write
data_251 = refl

-- measured, before any room is lent
lengths :
    measured 0x0001 [] ∷ map (measured 0x0206) ((0xC0 ∷ 0x00 ∷ []) ∷ (0xC1 ∷ 0x00 ∷ []) ∷ []) ++ map (λ (n : ℕ). measured 0xC0C0 (replicate n 0xC0)) (250 ∷ 251 ∷ [])
    ≡ writer.up_to 7 ∷ writer.up_to 10 ∷ writer.up_to 10 ∷ writer.up_to 509 ∷ writer.refused 10 ∷ []
unfolding measured wire framed body escape xor_all ◌⊕◌
lengths = refl

-- P3 written from the place 1 on: it fits where 7 bytes are left, and no fewer
fits : write_at (replicate 8 7) 1 0x0001 [] ≡ record { answer = writer.up_to 8; room = 7 ∷ p3_sent }
unfolding p3_sent write_at wire framed body escape xor_all ◌⊕◌
fits = refl

no_fit_lem : write_at (replicate 7 7) 1 0x0001 [] ≡ record { answer = writer.no_fit; room = replicate 7 7 }
unfolding write_at wire framed body escape xor_all ◌⊕◌
no_fit_lem = refl
