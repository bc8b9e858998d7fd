-- Each message's wire form, what is told of a node, and rooms of the length of a reply and about it, computed.
use Rattle.std.specs.Prelude.{ℕ, ◌-◌, ◌*◌, ◌≡◌, refl, List, [], ◌∷◌, ◌++◌, map, length, replicate}
use Rattle.frame.specs.Frame.{wire, framed, body, escape}
use Rattle.frame.specs.Xor.{◌⊕◌, xor_all}
use Rattle.frame.specs.Writer.{up_to, refused, Wire}
use Rattle.nodes.specs.Table.{table_size, record_size, Information, in_use}
use Rattle.replies.specs.declared.Reply.TheVariants as reply
use Rattle.replies.specs.Messages.{Message, error, password_entered, password_changed, information_confirmed, node_information, variation_set, name_set, order_and_placement_set, nodes_removed, virgin_state_set, mode_send_confirmed, session_finished, wire_of, bytes_of, about_node}
use Rattle.replies.specs.Replies.{says, write_all}

-- ---- messages on the wire

-- node 3 of type 0102, named K, order 5, placement 2, variation 4
abbrev window : Information
window = record {
  node = 3;
  order = 0 ∷ 5 ∷ [];
  placement = 2 ∷ [];
  name = 0x4B ∷ replicate 63 0;
  type = 0x01 ∷ 0x02 ∷ [];
  variation = 4 ∷ [];
}

wires :
    map wire_of
    (error 1
    ∷ password_entered 0
    ∷ password_changed 1
    ∷ information_confirmed 0 3
    ∷ node_information window
    ∷ variation_set 1 3
    ∷ name_set 0 3
    ∷ order_and_placement_set 2 4
    ∷ nodes_removed 1
    ∷ virgin_state_set
    ∷ mode_send_confirmed 0x0102 5
    ∷ session_finished 0x0102
    ∷ [])
    ≡ (0xC0 ∷ 0x00 ∷ 0x04 ∷ 0x00 ∷ 0x00 ∷ 0x01 ∷ 0x05 ∷ 0xC0 ∷ [])
    ∷ (0xC0 ∷ 0x00 ∷ 0x04 ∷ 0x30 ∷ 0x01 ∷ 0x00 ∷ 0x35 ∷ 0xC0 ∷ [])
    ∷ (0xC0 ∷ 0x00 ∷ 0x04 ∷ 0x30 ∷ 0x03 ∷ 0x01 ∷ 0x36 ∷ 0xC0 ∷ [])
    ∷ (0xC0 ∷ 0x00 ∷ 0x05 ∷ 0x02 ∷ 0x01 ∷ 0x00 ∷ 0x03 ∷ 0x05 ∷ 0xC0 ∷ [])
    ∷ ((0xC0 ∷ 0x00 ∷ 0x7F ∷ 0x02 ∷ 0x10 ∷ 0x03 ∷ 0x00 ∷ 0x05 ∷ 0x02 ∷ 0x4B ∷ []) ++ replicate 63 0x00 ++ (0x00 ∷ 0x01 ∷ 0x02 ∷ 0x00 ∷ 0x00 ∷ 0x04 ∷ []) ++ replicate 50 0x00 ++ (0x25 ∷ 0xC0 ∷ []))
    ∷ (0xC0 ∷ 0x00 ∷ 0x05 ∷ 0x02 ∷ 0x07 ∷ 0x01 ∷ 0x03 ∷ 0x02 ∷ 0xC0 ∷ [])
    ∷ (0xC0 ∷ 0x00 ∷ 0x05 ∷ 0x02 ∷ 0x09 ∷ 0x00 ∷ 0x03 ∷ 0x0D ∷ 0xC0 ∷ [])
    ∷ (0xC0 ∷ 0x00 ∷ 0x05 ∷ 0x02 ∷ 0x0E ∷ 0x02 ∷ 0x04 ∷ 0x0F ∷ 0xC0 ∷ [])
    ∷ (0xC0 ∷ 0x00 ∷ 0x04 ∷ 0x01 ∷ 0x07 ∷ 0x01 ∷ 0x03 ∷ 0xC0 ∷ [])
    ∷ (0xC0 ∷ 0x00 ∷ 0x03 ∷ 0x01 ∷ 0x09 ∷ 0x0B ∷ 0xC0 ∷ [])
    ∷ (0xC0 ∷ 0x00 ∷ 0x06 ∷ 0x03 ∷ 0x21 ∷ 0x01 ∷ 0x02 ∷ 0x05 ∷ 0x22 ∷ 0xC0 ∷ [])
    ∷ (0xC0 ∷ 0x00 ∷ 0x05 ∷ 0x03 ∷ 0x04 ∷ 0x01 ∷ 0x02 ∷ 0x01 ∷ 0xC0 ∷ [])
    ∷ []
unfolding wire framed body escape xor_all ◌⊕◌
wires = refl

-- escaped: node C0, session DBC0, a check byte C0 and one DB; of 0207 to node C0 the check byte is C0 too
escaped :
    map wire_of
    (name_set 0 0xC0
    ∷ session_finished 0xDBC0
    ∷ information_confirmed 2 0xC4
    ∷ error 0xDF
    ∷ variation_set 0 0xC0
    ∷ [])
    ≡ (0xC0 ∷ 0x00 ∷ 0x05 ∷ 0x02 ∷ 0x09 ∷ 0x00 ∷ 0xDB ∷ 0xDC ∷ 0xCE ∷ 0xC0 ∷ [])
    ∷ (0xC0 ∷ 0x00 ∷ 0x05 ∷ 0x03 ∷ 0x04 ∷ 0xDB ∷ 0xDD ∷ 0xDB ∷ 0xDC ∷ 0x19 ∷ 0xC0 ∷ [])
    ∷ (0xC0 ∷ 0x00 ∷ 0x05 ∷ 0x02 ∷ 0x01 ∷ 0x02 ∷ 0xC4 ∷ 0xDB ∷ 0xDC ∷ 0xC0 ∷ [])
    ∷ (0xC0 ∷ 0x00 ∷ 0x04 ∷ 0x00 ∷ 0x00 ∷ 0xDF ∷ 0xDB ∷ 0xDD ∷ 0xC0 ∷ [])
    ∷ (0xC0 ∷ 0x00 ∷ 0x05 ∷ 0x02 ∷ 0x07 ∷ 0x00 ∷ 0xDB ∷ 0xDC ∷ 0xDB ∷ 0xDC ∷ 0xC0 ∷ [])
    ∷ []
unfolding wire framed body escape xor_all ◌⊕◌
escaped = refl

-- ---- what is told of a node

-- a table whose node n has this record, and no other is in use
abbrev table_with : ℕ → List ℕ → List ℕ
table_with n bytes = replicate (n * record_size) 0 ++ bytes ++ replicate ((199 - n) * record_size) 0

-- the record of that window; its spare byte is not told
abbrev window_record : List ℕ
window_record = (1 ∷ 0x01 ∷ 0x02 ∷ []) ++ (0x4B ∷ replicate 63 0) ++ (0 ∷ 5 ∷ 2 ∷ 4 ∷ 9 ∷ [])

told : about_node (table_with 3 window_record) 3 ≡ information_confirmed 0 3 ∷ node_information window ∷ []
unfolding about_node in_use
told = refl

-- status 2 alone: a node that is not in use, by a record of zeros and by any other first byte than 1, and a node above 199
not-told : about_node (table_with 3 window_record) 4 ∷ about_node (replicate table_size 2) 3 ∷ map (about_node (replicate table_size 1)) (200 ∷ 255 ∷ [])
    ≡ map (λ (n : ℕ). information_confirmed 2 n ∷ []) (4 ∷ 3 ∷ 200 ∷ 255 ∷ [])
unfolding about_node in_use
not-told = refl

-- the last node is told of; by a table of another length none is
last : map (λ (n : ℕ). length (about_node (replicate n 1) 199)) (14399 ∷ 14400 ∷ 14401 ∷ []) ≡ 1 ∷ 2 ∷ 1 ∷ []
unfolding about_node in_use
last = refl

-- of node C0, each byte of its record doubled
longest : length (bytes_of (about_node (table_with 0xC0 (1 ∷ replicate 71 0xC0)) 0xC0)) ≡ 212
unfolding about_node in_use bytes_of wire framed body escape xor_all ◌⊕◌
longest = refl

-- ---- rooms

-- room of n bytes for a reply
abbrev tried : List Message → ℕ → Wire
tried ms n = write_all (replicate n 7) (bytes_of ms)

abbrev sent : List ℕ
sent = 0xC0 ∷ 0x00 ∷ 0x03 ∷ 0x01 ∷ 0x09 ∷ 0x0B ∷ 0xC0 ∷ []

-- frame 0109 takes 7 bytes: 6 are refused, and 0; of 8 the last one stays
rooms : map (tried (virgin_state_set ∷ [])) (6 ∷ 7 ∷ 8 ∷ 0 ∷ [])
    ≡ record { answer = refused 9; room = replicate 6 7 }
    ∷ record { answer = up_to 7; room = sent }
    ∷ record { answer = up_to 7; room = sent ++ 7 ∷ [] }
    ∷ record { answer = refused 9; room = [] }
    ∷ []
unfolding write_all bytes_of wire framed body escape xor_all ◌⊕◌
rooms = refl

-- nothing fits every room
nothing : map (tried []) (0 ∷ 2 ∷ []) ≡ record { answer = up_to 0; room = [] } ∷ record { answer = up_to 0; room = 7 ∷ 7 ∷ [] } ∷ []
unfolding write_all bytes_of
nothing = refl

-- two frames, both or none: room for the first alone stays as it was lent
abbrev both : List Message
both = information_confirmed 0 3 ∷ node_information window ∷ []

rooms_both : map (λ (n : ℕ). (tried both n).answer) (9 ∷ 139 ∷ 140 ∷ 141 ∷ []) ≡ refused 9 ∷ refused 9 ∷ up_to 140 ∷ up_to 140 ∷ []
unfolding write_all bytes_of wire framed body escape xor_all ◌⊕◌
rooms_both = refl

room_139 : (tried both 139).room ≡ replicate 139 7
unfolding write_all bytes_of wire framed body escape xor_all ◌⊕◌
room_139 = refl

room_141 : (tried both 141).room ≡ wire_of (information_confirmed 0 3) ++ wire_of (node_information window) ++ 7 ∷ []
unfolding write_all bytes_of wire framed body escape xor_all ◌⊕◌
room_141 = refl

-- escaped bytes count: 0207 to node C0 takes 11
rooms_escaped : map (λ (n : ℕ). (tried (variation_set 0 0xC0 ∷ []) n).answer) (9 ∷ 10 ∷ 11 ∷ []) ≡ refused 9 ∷ refused 9 ∷ up_to 11 ∷ []
unfolding write_all bytes_of wire framed body escape xor_all ◌⊕◌
rooms_escaped = refl

-- ---- what the code's replies tell

abbrev table : List ℕ
table = table_with 3 window_record

said :
    says table reply.Nothing
    ∷ says table (reply.AboutNode 4)
    ∷ says table (reply.VariationSet 1 3)
    ∷ says table (reply.ModeSendConfirmed 0x0102 5)
    ∷ []
    ≡ []
    ∷ (information_confirmed 2 4 ∷ [])
    ∷ (variation_set 1 3 ∷ [])
    ∷ (mode_send_confirmed 0x0102 5 ∷ [])
    ∷ []
unfolding about_node in_use
said = refl
