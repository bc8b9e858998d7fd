-- Mode send, finish, close a line and remove nodes, computed: nodes 0 to 19 are in use, and session 1 on line 0 holds node 5; and the
-- definitions' numbers at their edges.
use Rattle.std.specs.Prelude.{ℕ, ◌-◌, ◌*◌, ◌≡◌, refl, List, [], ◌∷◌, ◌++◌, map, Bool, true, false, None, Some, length, drop, replicate}
use Rattle.std.proofs.Math.Option.{none, some}
use Rattle.nodes.specs.Table.{in_use, bit}
use Rattle.sessions.specs.declared.Slot.{Slot}
use Rattle.sessions.specs.declared.ModeSend.{ModeSend}
use Rattle.sessions.specs.declared.ModeSendStatus.TheVariants.{Accepted, Rejected, SessionInUse, NoFreeSlot, IllegalParameter}
use Rattle.sessions.specs.Search.{any, first, below}
use Rattle.sessions.specs.Sessions.{slot_count, target_count, mark_bytes, slot_size, sessions_size, marks_at, slots_of, slot_bytes, with_slot, closed_slot, is_free, is_numbered, is_on, holds, holders, close_one, close_below, close_all, close_line, holds_removed, close_removed, mode_send_size, max_indices, mode_send_of, targets_legal, is_legal, with_bit, marked, session_slot, mode_send_status, mode_send, finish, refused, on_line, told, status_number, told_by}

unfoldable nodes : List ℕ
nodes = replicate (20 * 72) 1

-- a mode send with this originator, priority, count and lock, of the first nodes
abbrev asked : ℕ → ℕ → ℕ → ℕ → ModeSend
asked originator priority count lock = record { session = 1; originator = originator; priority = priority; count = count; indices = below 20; lock = lock }

-- the limits: count 0, 1, 20, 21; priority 7, 8; lock 1, 2
limits : map (is_legal nodes) (asked 1 3 0 0 ∷ asked 1 3 1 0 ∷ asked 1 3 20 0 ∷ asked 1 3 21 0 ∷ asked 1 7 1 0 ∷ asked 1 8 1 0 ∷ asked 1 3 1 1 ∷ asked 1 3 1 2 ∷ [])
    ≡ false ∷ true ∷ true ∷ false ∷ true ∷ false ∷ true ∷ false ∷ []
unfolding nodes is_legal targets_legal in_use any below
limits = refl

-- each of the ten originators, and the numbers beside them that are none
unfoldable may_ask : ℕ → Bool
may_ask o = is_legal nodes (asked o 3 1 0)

known : map may_ask (1 ∷ 2 ∷ 3 ∷ 5 ∷ 8 ∷ 9 ∷ 11 ∷ 12 ∷ 13 ∷ 255 ∷ []) ≡ replicate 10 true
unfolding nodes may_ask is_legal targets_legal in_use any below
known = refl

unknown : map may_ask (0 ∷ 4 ∷ 6 ∷ 7 ∷ 10 ∷ 14 ∷ 254 ∷ []) ≡ replicate 7 false
unfolding nodes may_ask is_legal targets_legal in_use any below
unknown = refl

-- eight slots of 29 bytes, 200 targets and a bit for each behind four bytes, 31 data bytes of a mode send and 20 indices
sizes : slot_count ∷ slot_size ∷ sessions_size ∷ target_count ∷ mark_bytes ∷ marks_at ∷ mode_send_size ∷ max_indices ∷ [] ≡ 8 ∷ 29 ∷ 232 ∷ 200 ∷ 25 ∷ 4 ∷ 31 ∷ 20 ∷ []
sizes = refl

-- the bytes of some slots, one behind the other
unfoldable laid : List Slot → List ℕ
laid [] = []
laid (s ∷ ss) = slot_bytes s ++ laid ss

-- no session
unfoldable empty : List ℕ
empty = replicate 232 0

-- a closed slot is not used, and holds line 0, number 0 and no node
closed : closed_slot ≡ record { used = 0; line = 0; number = 0; nodes = replicate 25 0 }
closed = refl

-- virgin state and start leave closed slots
closed_all : close_all (laid (replicate 8 (session_slot 1 (asked 1 3 1 0)))) ≡ laid (replicate 8 closed_slot)
unfolding laid marked below bit with_bit
closed_all = refl

no_session : slots_of empty ≡ replicate 8 closed_slot
unfolding empty slots_of below
no_session = refl

-- a mode send of these nodes; the places behind the indices have 5, which counts for nothing
unfoldable request : ℕ → List ℕ → ModeSend
request x ns = record { session = x; originator = 1; priority = 3; count = length ns; indices = ns ++ replicate (20 - length ns) 5; lock = 0 }

-- a session has its line, its number, and of nodes 0 to 199 those that it names: bits least significant first
taken : session_slot 3 (request 0x0102 (9 ∷ 0 ∷ 199 ∷ 14 ∷ [])) ≡ record { used = 1; line = 3; number = 0x0102; nodes = 0x01 ∷ 0x42 ∷ replicate 22 0 ++ 0x80 ∷ [] }
unfolding request marked bit with_bit
taken = refl

-- in the last of eight slots it is in use, line, number, high byte first, and bits; it is read as it was put there
in_table : let b = with_slot empty 7 (session_slot 3 (request 0x0102 (9 ∷ 0 ∷ 199 ∷ 14 ∷ []))) in
    (b ≡ replicate 203 0 ++ 1 ∷ 3 ∷ 0x01 ∷ 0x02 ∷ 0x01 ∷ 0x42 ∷ replicate 22 0 ++ 0x80 ∷ [])
    × (slots_of b ≡ replicate 7 closed_slot ++ session_slot 3 (request 0x0102 (9 ∷ 0 ∷ 199 ∷ 14 ∷ [])) ∷ [])
unfolding empty request with_slot slots_of below marked bit with_bit
in_table = (refl, refl)

-- it holds these, and neither those between nor one behind; a slot that is not used holds none
unfoldable left : ℕ → Slot
left used = record { used = used; line = 2; number = 1; nodes = replicate 25 255 }

held-nodes : map (λ (n : ℕ). holds n (session_slot 3 (request 1 (0 ∷ 199 ∷ [])))) (0 ∷ 1 ∷ 198 ∷ 199 ∷ 200 ∷ []) ++ holds 0 (left 0) ∷ [] ≡ true ∷ false ∷ false ∷ true ∷ false ∷ false ∷ []
unfolding request left marked bit with_bit
held-nodes = refl

-- nor is it open under its number or on its line; it is used exactly if its number for that is 1
left_out : map (λ (u : ℕ). is_free (left u) ∷ is_numbered 1 (left u) ∷ is_on 2 (left u) ∷ holds 0 (left u) ∷ []) (0 ∷ 1 ∷ 2 ∷ 3 ∷ 255 ∷ [])
    ≡ (true ∷ false ∷ false ∷ false ∷ []) ∷ (false ∷ true ∷ true ∷ true ∷ []) ∷ replicate 3 (true ∷ false ∷ false ∷ false ∷ [])
unfolding left bit
left_out = refl

-- in how many open sessions node 5 is
counted : holders 5 (session_slot 0 (request 1 (5 ∷ [])) ∷ left 0 ∷ session_slot 1 (request 2 (6 ∷ [])) ∷ session_slot 2 (request 3 (7 ∷ 5 ∷ [])) ∷ []) ≡ 2
unfolding request left marked holders bit with_bit
counted = refl

-- index 199 is legal, and 200 is not, whatever lies behind the last record
unfoldable over : List ℕ
over = replicate (201 * 72) 1

indices : targets_legal over [] (199 ∷ []) ∷ targets_legal over [] (200 ∷ []) ∷ [] ≡ true ∷ false ∷ []
unfolding over targets_legal in_use any
indices = refl

-- the lowest of the eight slots has the session
unfoldable busy : List ℕ
busy = with_slot empty 0 (session_slot 0 (request 1 (5 ∷ [])))

opened : mode_send empty nodes 0 (request 1 (5 ∷ [])) ≡ record { status = 0; slots = busy }
unfolding nodes empty request busy mode_send mode_send_status with_slot slots_of below is_legal targets_legal in_use any first marked bit with_bit
opened = refl

-- all slots are taken, by sessions with node 5
unfoldable full : List ℕ
full = laid (replicate 8 (session_slot 0 (request 1 (5 ∷ []))))

-- the status of a mode send
unfoldable status : List ℕ → ModeSend → ℕ
status b r = (mode_send b nodes 1 r).status

-- a node that is not in use, one named twice, a number that is open, no free slot, a node that is held, and none of these
statuses : status busy (request 2 (20 ∷ [])) ∷ status busy (request 2 (7 ∷ 7 ∷ [])) ∷ status busy (request 1 (5 ∷ [])) ∷ status full (request 2 (7 ∷ []))
    ∷ status busy (request 2 (7 ∷ 5 ∷ [])) ∷ status busy (request 2 (7 ∷ [])) ∷ []
    ≡ 5 ∷ 5 ∷ 3 ∷ 4 ∷ 1 ∷ 0 ∷ []
unfolding nodes empty laid request busy full status mode_send mode_send_status with_slot slots_of below is_legal targets_legal in_use any first marked bit with_bit
statuses = refl

-- the first that applies: 5 before 3, 3 before 4, 4 before 1
firsts : status busy (request 1 (20 ∷ [])) ∷ status full (request 1 (7 ∷ [])) ∷ status full (request 2 (5 ∷ [])) ∷ [] ≡ 5 ∷ 3 ∷ 4 ∷ []
unfolding nodes empty laid request busy full status mode_send mode_send_status with_slot slots_of below is_legal targets_legal in_use any first marked bit with_bit
firsts = refl

-- a session of the same line holds its nodes; the number in a free slot is not open
held : (mode_send busy nodes 0 (request 2 (5 ∷ []))).status ∷ status busy (request 0 (7 ∷ [])) ∷ [] ≡ 1 ∷ 0 ∷ []
unfolding nodes empty request busy status mode_send mode_send_status with_slot slots_of below is_legal targets_legal in_use any first marked bit with_bit
held = refl

-- where no slot is free, none is taken
none_free : with_slot full (first is_free (slots_of full)) (session_slot 1 (request 2 (7 ∷ []))) ≡ full
unfolding empty laid request full with_slot slots_of below first marked bit with_bit
none_free = refl

-- a mode send that is not accepted leaves the session table as it was
stays : mode_send busy nodes 1 (request 2 (7 ∷ 5 ∷ [])) ≡ record { status = 1; slots = busy }
unfolding nodes empty request busy mode_send mode_send_status with_slot slots_of below is_legal targets_legal in_use any first marked bit with_bit
stays = refl

-- two slots with the same number: finish closes the lowest, and tells its line
unfoldable slot : ℕ → ℕ → Slot
slot l x = session_slot l (request x (5 ∷ []))

finished : finish (laid (closed_slot ∷ slot 3 1 ∷ slot 2 1 ∷ [])) 1 ∷ finish (laid (slot 3 1 ∷ [])) 2 ∷ []
    ≡ some (record { line = 3; slots = laid (closed_slot ∷ closed_slot ∷ slot 2 1 ∷ []) }) ∷ none ∷ []
unfolding laid request slot finish slots_of with_slot below any first marked bit with_bit
finished = refl

-- line 3 is closed: its session closes, and that of line 2 stays
closed_line_lem : close_line 3 (laid (slot 3 1 ∷ slot 2 2 ∷ [])) ≡ laid (closed_slot ∷ slot 2 2 ∷ [])
unfolding laid request slot close_below close_one slots_of with_slot below marked bit with_bit
closed_line_lem = refl

-- the lowest slot is freed and used again
used_again : mode_send (close_line 0 busy) nodes 3 (request 2 (7 ∷ [])) ≡ record { status = 0; slots = with_slot empty 0 (session_slot 3 (request 2 (7 ∷ []))) }
unfolding nodes empty request busy close_below close_one mode_send mode_send_status with_slot slots_of below is_legal targets_legal in_use any first marked bit with_bit
used_again = refl

-- node 7 is removed: of two sessions the one that has it closes, with its other node
closed_removed : close_removed nodes (128 ∷ []) (laid (session_slot 0 (request 1 (7 ∷ 5 ∷ [])) ∷ slot 0 2 ∷ [])) ≡ laid (closed_slot ∷ slot 0 2 ∷ [])
unfolding nodes laid request slot close_below close_one slots_of with_slot holds_removed any below bit in_use marked with_bit
closed_removed = refl

-- a session with node 199 closes when it is removed, and stays when another is
unfoldable with_199 : Slot
with_199 = session_slot 0 (request 1 (199 ∷ []))

removed_last : map (λ (b : ℕ). holds_removed over (replicate 24 0 ++ b ∷ 255 ∷ []) with_199) (128 ∷ 127 ∷ []) ≡ true ∷ false ∷ []
unfolding over request with_199 holds_removed any below bit in_use marked with_bit
removed_last = refl

-- what finish tells: the line, or refusal 13; of both answers
tells : told (some (record { line = 3; slots = [] })) ∷ told none ∷ [] ≡ on_line 3 ∷ refused 13 ∷ []
tells = refl

answers : map told_by (Some 3 ∷ None ∷ []) ≡ on_line 3 ∷ refused 13 ∷ []
answers = refl

-- the code's statuses by their numbers
status_numbers : map status_number (Accepted ∷ Rejected ∷ SessionInUse ∷ NoFreeSlot ∷ IllegalParameter ∷ []) ≡ 0 ∷ 1 ∷ 3 ∷ 4 ∷ 5 ∷ []
status_numbers = refl

-- the data bytes 0 to 30
read : mode_send_of (below 31) ≡ record { session = 1; originator = 2; priority = 3; count = 6; indices = drop 7 (below 27); lock = 27 }
unfolding below
read = refl

-- both session bytes, high byte first
numbers : map (λ (d : List ℕ). (mode_send_of d).session) ((0xFE ∷ 0x02 ∷ []) ∷ (0x01 ∷ 0x02 ∷ []) ∷ (0x00 ∷ 0xFF ∷ []) ∷ []) ≡ 0xFE02 ∷ 0x0102 ∷ 0x00FF ∷ []
numbers = refl
