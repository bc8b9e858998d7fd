-- Document 01's replies and limits that are not marked P, the order of judging an outcome, and what each request and host call leaves, computed.
use Rattle.std.specs.Prelude.{ℕ, zero, suc, ◌+◌, ◌-◌, ◌*◌, ◌≡◌, refl, List, [], ◌∷◌, ◌++◌, map, true, false, length, set, replicate}
use Rattle.std.proofs.Math.Option.{Option, none, some}
use Rattle.frame.specs.Line as line
use Rattle.frame.specs.Frame.{places_at, Outcome, frame, refused, wire, escape, framed, body, judge}
use Rattle.frame.specs.Reader.{plain, emptied, onward, scan, step, verdict, inner}
use Rattle.frame.specs.Xor as xor
use Rattle.directory.specs.Directory.{directory}
use Rattle.directory.specs.Lookup as lookup
use Rattle.nodes.specs.Table as table
use Rattle.nodes.specs.Table.{record_size}
use Rattle.sessions.specs.Search as search
use Rattle.sessions.specs.Sessions as sessions
use Rattle.sessions.specs.Sessions.{sessions_size, with_slot}
use Rattle.sessions.specs.declared.Slot.{Slot}
use Rattle.replies.specs.Messages.{variation_set, mode_send_confirmed, bytes_of, about_node}
use Rattle.rules.specs.declared.Hub.{Hub}
use Rattle.rules.specs.Hub as rules
use Rattle.memory.specs.Octets.{same}
use Rattle.passwords.specs.Passwords.{password_of}
use Rattle.rules.specs.Hub.{Reply, first_hub, respond, serve, request, enter, start, enrol, Closed, close, finish}

-- ---- hubs and tables

-- lines 0 and 2 are logged in, with these sessions
abbrev hub_with : List ℕ → Hub
hub_with b = record { password = replicate 32 8; logins = 1 ∷ 0 ∷ 1 ∷ 0 ∷ []; slots = b }

abbrev logged_in : Hub
logged_in = hub_with (replicate sessions_size 0)

-- a hub that keeps another password, and one of which line 2 is not logged in
abbrev keeping : List ℕ → Hub → Hub
keeping p h = record { password = p; logins = h.logins; slots = h.slots }

abbrev logged_out : Hub → Hub
logged_out h = record { password = h.password; logins = 1 ∷ 0 ∷ 0 ∷ 0 ∷ []; slots = h.slots }

-- the bits of nodes, all in byte k
abbrev marks : ℕ → ℕ → List ℕ
marks k b = set (replicate 25 0) k b

-- session 0102 of line 2 with these nodes
abbrev session : List ℕ → Slot
session nodes = record { used = 1; line = 2; number = 0x0102; nodes = nodes }

-- it is open in the lowest slot
abbrev opened : Slot → Hub
opened s = hub_with (with_slot logged_in.slots 0 s)

abbrev moving : Hub
moving = opened (session (marks 0 0x08))

-- session 0103 of line 1 with node 2; it is open in slot 1
abbrev other : Slot
other = record { used = 1; line = 1; number = 0x0103; nodes = marks 0 0x04 }

-- session C0DB of line 0
abbrev gate : Slot
gate = record { used = 1; line = 0; number = 0xC0DB; nodes = marks 0 0x04 }

abbrev both : Hub → Hub
both h = hub_with (with_slot h.slots 1 other)

-- the session table with it in the slots below n
unfoldable full : ℕ → List ℕ
full zero = replicate sessions_size 0
full (suc n) = with_slot (full n) n other

-- the nodes below n are in use: each byte of their records is 1
abbrev windows : ℕ → List ℕ
windows n = replicate (n * record_size) 1

-- ---- outcomes on line 2

-- A hub and a table, an outcome, and what serving it leaves and writes.
record Row : Type 0 where
  hub : Hub
  table : List ℕ
  outcome : Outcome
  served : Reply

abbrev tried : Row → Row
tried r = record { hub = r.hub; table = r.table; outcome = r.outcome; served = (rules.hub).serve r.hub r.table 2 r.outcome }

abbrev row : Hub → List ℕ → Outcome → Hub → List ℕ → List ℕ → Row
row h t o h' t' reply = record { hub = h; table = t; outcome = o; served = record { hub = h'; table = t'; reply = reply } }

-- a row in which the table stays, of n nodes; and one in which nothing changes
abbrev leaves : Hub → ℕ → Outcome → Hub → List ℕ → Row
leaves h n o h' reply = row h (windows n) o h' (windows n) reply

abbrev answers : Hub → Outcome → List ℕ → Row
answers h o reply = leaves h 4 o h reply

-- the right password before any start and later, and one whose last byte is wrong
abbrev passwords : List Row
passwords =
    leaves first_hub 4 (frame 0x3000 (replicate 32 0)) (record { password = replicate 32 0; logins = 0 ∷ 0 ∷ 1 ∷ 0 ∷ []; slots = replicate 232 0 })
    (0xC0 ∷ 0x00 ∷ 0x04 ∷ 0x30 ∷ 0x01 ∷ 0x00 ∷ 0x35 ∷ 0xC0 ∷ [])
    ∷ leaves (logged_out moving) 4 (frame 0x3000 (replicate 32 8)) moving (wire 0x3001 (0 ∷ []))
    ∷ answers (logged_out moving) (frame 0x3000 (replicate 31 8 ++ 1 ∷ [])) (wire 0x3001 (1 ∷ []))
    ∷ answers moving (frame 0x3000 (replicate 31 8 ++ 1 ∷ [])) (wire 0x3001 (1 ∷ []))
    ∷ []

-- n times 8, a zero, and old bytes behind it
abbrev eights : ℕ → ℕ → List ℕ
eights n old = replicate n 8 ++ 0 ∷ replicate (31 - n) old

-- a hub with the password 8, 8, and old bytes behind its zero: an entry with others, one that is shorter, longer, empty, and of other bytes
abbrev two_eights : Hub → Hub
two_eights h = keeping (eights 2 5) h

abbrev entries : List Row
entries =
    leaves (two_eights (logged_out moving)) 4 (frame 0x3000 (eights 2 6)) (two_eights moving) (wire 0x3001 (0 ∷ []))
    ∷ leaves (two_eights (logged_out moving)) 4 (frame 0x3000 (eights 2 0)) (two_eights moving) (wire 0x3001 (0 ∷ []))
    ∷ answers (two_eights (logged_out moving)) (frame 0x3000 (eights 1 5)) (wire 0x3001 (1 ∷ []))
    ∷ answers (two_eights (logged_out moving)) (frame 0x3000 (eights 3 5)) (wire 0x3001 (1 ∷ []))
    ∷ answers (two_eights (logged_out moving)) (frame 0x3000 (eights 0 5)) (wire 0x3001 (1 ∷ []))
    ∷ answers (two_eights (logged_out moving)) (frame 0x3000 (8 ∷ 9 ∷ 0 ∷ replicate 29 5)) (wire 0x3001 (1 ∷ []))
    ∷ answers (two_eights (logged_out moving)) (frame 0x3000 (replicate 32 8)) (wire 0x3001 (1 ∷ []))
    -- the empty one, on a hub that has it
    ∷ leaves (keeping (eights 0 5) (logged_out moving)) 4 (frame 0x3000 (eights 0 6)) (keeping (eights 0 5) moving) (wire 0x3001 (0 ∷ []))
    ∷ answers (keeping (eights 0 5) (logged_out moving)) (frame 0x3000 (eights 1 5)) (wire 0x3001 (1 ∷ []))
    ∷ []

-- the error frame
abbrev error : ℕ → List ℕ
error e = wire 0x0000 (e ∷ [])

-- the order of judging: a refused packet, an unknown command, a wrong length, no login, a command that is not served
abbrev errors : List Row
errors =
    answers (logged_out moving) (refused (record { number = 6; at = places_at 4 4 })) (error 2)
    ∷ answers (logged_out moving) (frame 0x020A []) (error 1)
    ∷ answers (logged_out moving) (frame 0x0200 []) (error 2)
    ∷ answers (logged_out moving) (frame 0x0200 (3 ∷ [])) (error 12)
    ∷ answers moving (frame 0x0008 []) (error 1)
    ∷ []

-- each request with a byte fewer and a byte more than its data length
abbrev misfit : ℕ → ℕ → Row
misfit c n = answers moving (frame c (replicate n 0)) (error 2)

abbrev misfits : List Row
misfits =
    misfit 0x3000 31 ∷ misfit 0x3000 33
    ∷ misfit 0x3002 63 ∷ misfit 0x3002 65
    ∷ misfit 0x0200 0 ∷ misfit 0x0200 2
    ∷ misfit 0x0206 1 ∷ misfit 0x0206 3
    ∷ misfit 0x0208 64 ∷ misfit 0x0208 66
    ∷ misfit 0x020D 3 ∷ misfit 0x020D 5
    ∷ misfit 0x0106 25 ∷ misfit 0x0106 27
    ∷ misfit 0x0108 1
    ∷ misfit 0x0320 30 ∷ misfit 0x0320 32
    ∷ []

-- the last 32 bytes become the password, with zeros from their first zero on, or nothing changes; equal old and new is accepted
abbrev changes : List Row
changes =
    leaves moving 4 (frame 0x3002 (replicate 32 8 ++ replicate 32 9)) (keeping (replicate 32 9) moving) (wire 0x3003 (0 ∷ []))
    ∷ answers moving (frame 0x3002 (replicate 31 8 ++ 9 ∷ replicate 32 8)) (wire 0x3003 (1 ∷ []))
    ∷ answers moving (frame 0x3002 (replicate 64 8)) (wire 0x3003 (0 ∷ []))
    ∷ leaves (two_eights moving) 4 (frame 0x3002 (eights 2 6 ++ eights 3 7)) (keeping (eights 3 0) moving) (wire 0x3003 (0 ∷ []))
    ∷ leaves (two_eights moving) 4 (frame 0x3002 (eights 2 5 ++ eights 2 5)) (keeping (eights 2 0) moving) (wire 0x3003 (0 ∷ []))
    ∷ leaves moving 4 (frame 0x3002 (replicate 32 8 ++ eights 0 7)) (keeping (replicate 32 0) moving) (wire 0x3003 (0 ∷ []))
    ∷ leaves moving 4 (frame 0x3002 (replicate 32 8 ++ eights 31 7)) (keeping (eights 31 0) moving) (wire 0x3003 (0 ∷ []))
    ∷ answers (two_eights moving) (frame 0x3002 (eights 1 5 ++ eights 3 7)) (wire 0x3003 (1 ∷ []))
    ∷ answers (two_eights moving) (frame 0x3002 (eights 3 5 ++ eights 3 7)) (wire 0x3003 (1 ∷ []))
    ∷ []

-- 0210 follows 0201 where the node is in use; a table of another length tells of none
abbrev asked : List ℕ → List ℕ → Row
asked t reply = row moving t (frame 0x0200 (3 ∷ [])) moving t reply

abbrev house : ℕ → List ℕ
house n = windows n ++ replicate (table.table_size - n * record_size) 0

abbrev information : List Row
information =
    asked (house 4) (wire 0x0201 (0 ∷ 3 ∷ []) ++ wire 0x0210 ((3 ∷ 1 ∷ 1 ∷ 1 ∷ []) ++ replicate 64 1 ++ (0 ∷ 1 ∷ 1 ∷ 0 ∷ 0 ∷ 1 ∷ []) ++ replicate 50 0))
    ∷ asked (house 3) (wire 0x0201 (2 ∷ 3 ∷ []))
    ∷ asked (windows 4) (wire 0x0201 (2 ∷ 3 ∷ []))
    ∷ []

-- the node set commands confirm with status 0 and node 3, and store these bytes at this place of its record; status 1 for a variation above 4,
-- 2 for a node that is not in use
abbrev stores : Outcome → ℕ → List ℕ → List ℕ → Row
stores o at vs reply = row moving (windows 4) o moving (windows 3 ++ replicate at 1 ++ vs ++ replicate (record_size - (at + length vs)) 1) reply

abbrev confirms : List Row
confirms =
    stores (frame 0x0206 (3 ∷ 2 ∷ [])) 70 (2 ∷ []) (0xC0 ∷ 0x00 ∷ 0x05 ∷ 0x02 ∷ 0x07 ∷ 0x00 ∷ 0x03 ∷ 0x03 ∷ 0xC0 ∷ [])
    ∷ stores (frame 0x0208 (3 ∷ replicate 64 9)) 3 (replicate 64 9) (0xC0 ∷ 0x00 ∷ 0x05 ∷ 0x02 ∷ 0x09 ∷ 0x00 ∷ 0x03 ∷ 0x0D ∷ 0xC0 ∷ [])
    ∷ stores (frame 0x020D (3 ∷ 0 ∷ 5 ∷ 2 ∷ [])) 67 (0 ∷ 5 ∷ 2 ∷ []) (0xC0 ∷ 0x00 ∷ 0x05 ∷ 0x02 ∷ 0x0E ∷ 0x00 ∷ 0x03 ∷ 0x0A ∷ 0xC0 ∷ [])
    ∷ answers moving (frame 0x0206 (3 ∷ 5 ∷ [])) (wire 0x0207 (1 ∷ 3 ∷ []))
    ∷ answers moving (frame 0x0206 (4 ∷ 5 ∷ [])) (wire 0x0207 (2 ∷ 4 ∷ []))
    ∷ answers moving (frame 0x0208 (4 ∷ replicate 64 9)) (wire 0x0209 (2 ∷ 4 ∷ []))
    ∷ answers moving (frame 0x020D (4 ∷ 0 ∷ 5 ∷ 2 ∷ [])) (wire 0x020E (2 ∷ 4 ∷ []))
    ∷ []

-- a mode send of session 0102 with this count and these indices, and its confirm
abbrev mode_send : ℕ → List ℕ → Outcome
mode_send count ns = frame 0x0320 ((0x01 ∷ 0x02 ∷ 1 ∷ 3 ∷ 0 ∷ 0 ∷ count ∷ []) ++ ns ++ replicate (20 - length ns) 0 ++ (0 ∷ 0 ∷ 0 ∷ 0 ∷ []))

abbrev sent : ℕ → List ℕ
sent status = wire 0x0321 (0x01 ∷ 0x02 ∷ status ∷ [])

-- node 199 is accepted and node 200 is not; counts 1 and 20 are, 0 and 21 are not; then an open number, eight slots taken, a node that is held
abbrev mode_sends : List Row
mode_sends =
    leaves logged_in 4 (mode_send 1 (3 ∷ [])) moving (0xC0 ∷ 0x00 ∷ 0x06 ∷ 0x03 ∷ 0x21 ∷ 0x01 ∷ 0x02 ∷ 0x00 ∷ 0x27 ∷ 0xC0 ∷ [])
    ∷ leaves logged_in 200 (mode_send 1 (199 ∷ [])) (opened (session (marks 24 0x80))) (sent 0)
    ∷ leaves logged_in 201 (mode_send 1 (200 ∷ [])) logged_in (sent 5)
    ∷ leaves logged_in 20 (mode_send 20 (search.below 20)) (opened (session (0xFF ∷ 0xFF ∷ 0x0F ∷ replicate 22 0))) (sent 0)
    ∷ leaves logged_in 20 (mode_send 21 (search.below 20)) logged_in (sent 5)
    ∷ answers logged_in (mode_send 0 (3 ∷ [])) (sent 5)
    ∷ answers moving (mode_send 1 (3 ∷ [])) (sent 3)
    ∷ answers (hub_with (full 8)) (mode_send 1 (2 ∷ [])) (sent 4)
    ∷ answers (opened other) (mode_send 1 (2 ∷ [])) (sent 1)
    ∷ []

-- removing node 3 closes its session and no other; virgin state zeroes the table and closes all sessions, logins and password stay
abbrev removals : List Row
removals =
    row (hub_with (with_slot moving.slots 1 (session (marks 0 0x01)))) (windows 4) (frame 0x0106 (8 ∷ replicate 25 0))
    (hub_with (with_slot logged_in.slots 1 (session (marks 0 0x01)))) (windows 3 ++ replicate record_size 0) (wire 0x0107 (0 ∷ []))
    ∷ row (both moving) (windows 4) (frame 0x0108 []) logged_in (replicate (4 * record_size) 0) (wire 0x0109 [])
    ∷ []

abbrev rows : List Row
rows = passwords ++ entries ++ errors ++ misfits ++ changes ++ information ++ confirms ++ mode_sends ++ removals

rows_hold : map tried rows ≡ rows
unfolding serve respond bytes_of about_node request enter password_of same rules.change rules.virgin_state rules.remove_nodes rules.mode_send full with_slot sessions.slots_of sessions.close_below sessions.close_one sessions.mode_send sessions.mode_send_status sessions.is_legal sessions.targets_legal sessions.marked sessions.with_bit sessions.holds_removed search.any search.first search.below table.set_variation table.set_field table.in_use table.bit table.remove_below table.remove_one lookup.verdict lookup.verdict_of lookup.find directory wire escape framed body xor.xor_all xor.◌⊕◌
rows_hold = refl

-- data bytes that are missing count as 0, and a line that is missing is not logged in; the directory and feed let neither come
missing : request logged_in (windows 1) 2 0x0206 [] ∷ request logged_in (windows 1) 2 0x0320 [] ∷ []
    ≡ record { hub = logged_in; table = replicate 70 1 ++ 0 ∷ 1 ∷ []; says = variation_set 0 0 ∷ [] }
    ∷ record { hub = logged_in; table = windows 1; says = mode_send_confirmed 0 5 ∷ [] } ∷ []
unfolding request rules.mode_send sessions.mode_send sessions.mode_send_status sessions.is_legal table.set_variation table.set_field table.in_use
missing = refl

strangers : map (rules.is_logged_in logged_in) (0 ∷ 1 ∷ 2 ∷ 3 ∷ 4 ∷ []) ≡ true ∷ false ∷ true ∷ false ∷ false ∷ []
strangers = refl

-- any other number than 1 leaves a line logged out
numbers : map (rules.is_listed (0 ∷ 1 ∷ 2 ∷ 255 ∷ [])) (0 ∷ 1 ∷ 2 ∷ 3 ∷ []) ≡ false ∷ true ∷ false ∷ false ∷ []
numbers = refl

-- ---- host calls

-- start judges the table before the password; a refused one leaves hub and table; old bytes behind the password's zero are not kept
started : start moving (replicate 14399 1) (replicate 31 5) ∷ start moving (replicate 14400 1) (replicate 31 5) ∷ start moving (replicate 14400 1) (replicate 33 5)
    ∷ start moving (replicate 14400 1) (replicate 32 5) ∷ start moving (replicate 14400 1) (eights 2 5) ∷ []
    ≡ record { refusal = some 7; hub = moving; table = replicate 14399 1 } ∷ record { refusal = some 14; hub = moving; table = replicate 14400 1 }
    ∷ record { refusal = some 14; hub = moving; table = replicate 14400 1 }
    ∷ record { refusal = none; hub = record { password = replicate 32 5; logins = replicate 4 0; slots = replicate 232 0 }; table = replicate 14400 0 }
    ∷ record { refusal = none; hub = record { password = eights 2 0; logins = replicate 4 0; slots = replicate 232 0 }; table = replicate 14400 0 } ∷ []
unfolding password_of
started = refl

-- enrol judges the table, then the node, then its use; the type goes high byte first, other fields are zero
enrolled : enrol [] 200 0x0102 ∷ enrol (replicate 14400 1) 200 0x0102 ∷ enrol (replicate 14400 1) 199 0x0102 ∷ enrol (replicate 14400 0) 0 0x0102 ∷ []
    ≡ record { refusal = some 7; table = [] } ∷ record { refusal = some 11; table = replicate 14400 1 } ∷ record { refusal = some 12; table = replicate 14400 1 }
    ∷ record { refusal = none; table = (1 ∷ 0x01 ∷ 0x02 ∷ []) ++ replicate 14397 0 } ∷ []
unfolding table.in_use table.enrolled_record
enrolled = refl

-- closing a line takes its login, closes its sessions and no other, and empties its reading state; line 3 has neither; there is no line 4
closing : ℕ → Closed
closing l = close (both moving) (plain (0 ∷ [])) l

closed : closing 2 ∷ closing 1 ∷ closing 3 ∷ closing 4 ∷ []
    ≡ record { refusal = none; hub = logged_out (both logged_in); state = emptied } ∷ record { refusal = none; hub = moving; state = emptied }
    ∷ record { refusal = none; hub = both moving; state = emptied } ∷ record { refusal = some 8; hub = both moving; state = plain (0 ∷ []) } ∷ []
unfolding closing with_slot sessions.close_below sessions.close_one sessions.slots_of search.below
closed = refl

-- a number that is not open is judged before the room; the session's line is told, and its number goes high byte first
finished : finish moving 0x0103 0 ∷ finish (both moving) 0x0102 8 ∷ finish (both moving) 0x0102 9 ∷ finish (both moving) 0x0103 10 ∷ []
    ≡ record { answer = rules.refused_finish 13; hub = moving; reply = [] } ∷ record { answer = rules.refused_finish 9; hub = both moving; reply = [] }
    ∷ record { answer = rules.finished_on 2 9; hub = both logged_in; reply = 0xC0 ∷ 0x00 ∷ 0x05 ∷ 0x03 ∷ 0x04 ∷ 0x01 ∷ 0x02 ∷ 0x01 ∷ 0xC0 ∷ [] }
    ∷ record { answer = rules.finished_on 1 9; hub = moving; reply = 0xC0 ∷ 0x00 ∷ 0x05 ∷ 0x03 ∷ 0x04 ∷ 0x01 ∷ 0x03 ∷ 0x00 ∷ 0xC0 ∷ [] } ∷ []
unfolding rules.notice bytes_of sessions.finish sessions.slots_of with_slot search.below search.any search.first wire escape framed body xor.xor_all xor.◌⊕◌
finished = refl

-- bytes that are escaped count twice
noticed : rules.notice 0xC0DB ≡ 0xC0 ∷ 0x00 ∷ 0x05 ∷ 0x03 ∷ 0x04 ∷ 0xDB ∷ 0xDC ∷ 0xDB ∷ 0xDD ∷ 0x19 ∷ 0xC0 ∷ []
unfolding rules.notice bytes_of wire escape framed body xor.xor_all xor.◌⊕◌
noticed = refl

escaped : (finish (opened gate) 0xC0DB 10).answer ∷ (finish (opened gate) 0xC0DB 11).answer ∷ [] ≡ rules.refused_finish 9 ∷ rules.finished_on 0 11 ∷ []
unfolding rules.notice bytes_of sessions.finish sessions.slots_of with_slot search.below search.any search.first wire escape framed body xor.xor_all xor.◌⊕◌
escaped = refl

-- feed judges the table, then the line, then what it would write: nothing, or the error reply of 8 bytes
refusal : List ℕ → ℕ → List ℕ → ℕ → Option ℕ
refusal t l bytes room = (rules.hub).refusal moving t emptied l bytes room

part : List ℕ
part = 0xC0 ∷ 0x00 ∷ 0x03 ∷ 0x00 ∷ 0x01 ∷ 0x02 ∷ []

fed : refusal (replicate 14399 1) 4 (part ++ 0xC0 ∷ []) 0 ∷ refusal (replicate 14400 1) 4 (part ++ 0xC0 ∷ []) 0 ∷ refusal (replicate 14400 1) 3 (part ++ 0xC0 ∷ []) 7
    ∷ refusal (replicate 14400 1) 3 (part ++ 0xC0 ∷ []) 8 ∷ refusal (replicate 14400 1) 3 part 0 ∷ refusal (replicate 14400 1) 3 [] 0 ∷ []
    ≡ some 7 ∷ some 8 ∷ some 9 ∷ none ∷ none ∷ none ∷ []
unfolding refusal part scan onward step verdict line.step line.close inner line.decoded judge serve respond bytes_of request wire escape framed body xor.xor_all xor.◌⊕◌ lookup.verdict lookup.verdict_of lookup.find directory
fed = refl
