-- The sessions (document 01, mode send and the host calls): who holds which motor.
use Rattle.std.specs.Prelude.{ℕ, zero, suc, ◌+◌, ◌*◌, ◌/◌, ◌%◌, ◌^◌, List, [], ◌∷◌, map, Bool, true, cond, not, ◌&&◌, length, take, drop, set, get_or, replicate, leb, ltb, eqb}
use Rattle.std.specs.Prelude.{Option as Answer, None, Some}
use Rattle.std.proofs.Math.Option.{Option, none, some}
use Rattle.std.proofs.lemmas.List.Edits.{sets}
use Rattle.std.specs.Int.Bits.{bit_or}
use Rattle.nodes.specs.Table.{in_use, bit, is_removed, node_count}
use Rattle.sessions.specs.declared.Slot.{Slot}
use Rattle.sessions.specs.declared.ModeSend.{ModeSend}
use Rattle.sessions.specs.declared.ModeSendStatus.{ModeSendStatus}
use Rattle.sessions.specs.declared.ModeSendStatus.TheVariants.{Accepted, Rejected, SessionInUse, NoFreeSlot, IllegalParameter}
use Rattle.sessions.specs.Search.{any, first, member, below}

-- ---- the session table

-- eight slots for all lines together
abbrev pub slot_count : ℕ
slot_count = 8

-- mode send takes nodes 0 to 199: a limit of its own, whatever else the table holds
abbrev pub target_count : ℕ
target_count = 200

-- a bit for each of these: 25 bytes
abbrev pub mark_bytes : ℕ
mark_bytes = 25

-- a slot is 29 bytes: in use (exactly if 1), line 1, number 2, high byte first, and at the fifth byte its nodes
abbrev pub marks_at : ℕ
marks_at = 4

abbrev pub slot_size : ℕ
slot_size = marks_at + mark_bytes

abbrev pub sessions_size : ℕ
sessions_size = slot_count * slot_size

-- what a slot says whose bytes begin at a place
abbrev pub slot_from : List ℕ → ℕ → Slot
slot_from b i = record {
  used = get_or b i 0;
  line = get_or b (i + 1) 0;
  number = get_or b (i + 2) 0 * 256 + get_or b (i + 3) 0;
  nodes = take mark_bytes (drop (i + marks_at) b);
}

-- the slots of a session table, one behind the other
unfoldable pub slots_of : List ℕ → List Slot
slots_of b = map (λ k. slot_from b (k * slot_size)) (below slot_count)

-- a slot as its bytes, and the table with these in slot k
abbrev pub slot_bytes : Slot → List ℕ
slot_bytes s = s.used ∷ s.line ∷ s.number / 256 ∷ s.number % 256 ∷ s.nodes

unfoldable pub with_slot : List ℕ → ℕ → Slot → List ℕ
with_slot b k s = sets b (k * slot_size) (slot_bytes s)

-- a free slot holds nothing, so that a closed session leaves no node held
abbrev pub closed_slot : Slot
closed_slot = record { used = 0; line = 0; number = 0; nodes = replicate mark_bytes 0 }

-- slot k
abbrev pub slot_at : List ℕ → ℕ → Slot
slot_at b k = get_or (slots_of b) k closed_slot

-- a slot has an open session exactly if its number for that is 1, as a node is in use
abbrev pub is_open : Slot → Bool
is_open s = eqb s.used 1

abbrev pub is_free : Slot → Bool
is_free s = not (is_open s)

-- an open session has a number, a line and nodes; a slot without one is ignored, whatever it holds
abbrev pub is_numbered : ℕ → Slot → Bool
is_numbered x s = is_open s && eqb s.number x

abbrev pub is_on : ℕ → Slot → Bool
is_on l s = is_open s && eqb s.line l

-- a node's bit is found as in the data of remove nodes
abbrev pub holds : ℕ → Slot → Bool
holds n s = is_open s && bit s.nodes n

-- in how many open sessions a node is
unfoldable pub holders : ℕ → List Slot → ℕ
holders n [] = 0
holders n (s ∷ ss) = cond (holds n s) 1 0 + holders n ss

-- a session that passes a test is closed
abbrev pub close_if : (Slot → Bool) → Slot → Slot
close_if p s = cond (p s) closed_slot s

-- in the session table, slot by slot; SlotLaws.antt, close_slots, says that it is close_if of each
unfoldable pub close_one : (Slot → Bool) → ℕ → List ℕ → List ℕ
close_one p k b = cond (p (slot_at b k)) (with_slot b k closed_slot) b

unfoldable pub close_below : (Slot → Bool) → ℕ → List ℕ → List ℕ
close_below p zero b = b
close_below p (suc k) b = close_one p k (close_below p k b)

abbrev pub close : (Slot → Bool) → List ℕ → List ℕ
close p b = close_below p slot_count b

-- virgin state and start close all: no slot is in use
abbrev pub close_all : List ℕ → List ℕ
close_all b = replicate (length b) 0

-- close a line: its sessions closed
abbrev pub close_line : ℕ → List ℕ → List ℕ
close_line l = close (is_on l)

-- remove nodes: every session with a removed node closes
unfoldable pub holds_removed : List ℕ → List ℕ → Slot → Bool
holds_removed t bits s = any (λ k. holds k s && is_removed t bits k) (below node_count)

abbrev pub close_removed : List ℕ → List ℕ → List ℕ → List ℕ
close_removed t bits = close (holds_removed t bits)

-- ---- mode send (section 10.6)

-- a mode send has 31 data bytes, 20 of them indices
abbrev pub mode_send_size : ℕ
mode_send_size = 31

abbrev pub max_indices : ℕ
max_indices = 20

-- data are session 2, originator, priority, mode, parameter, count, 20 indices, lock, two level bytes, lock time; mode, parameter,
-- levels and lock time are free
abbrev pub mode_send_of : List ℕ → ModeSend
mode_send_of d = record {
  session = get_or d 0 0 * 256 + get_or d 1 0;
  originator = get_or d 2 0;
  priority = get_or d 3 0;
  count = get_or d 6 0;
  indices = take max_indices (drop 7 d);
  lock = get_or d 27 0;
}

-- later indices than the first count are ignored
abbrev pub named : ModeSend → List ℕ
named r = take r.count r.indices

-- the specification's status values
abbrev pub accepted : ℕ
accepted = 0

abbrev pub rejected : ℕ
rejected = 1

abbrev pub session_in_use : ℕ
session_in_use = 3

abbrev pub no_free_slot : ℕ
no_free_slot = 4

abbrev pub illegal_parameter : ℕ
illegal_parameter = 5

-- a status of the code by its number
abbrev pub status_number : ModeSendStatus → ℕ
status_number Accepted = accepted
status_number Rejected = rejected
status_number SessionInUse = session_in_use
status_number NoFreeSlot = no_free_slot
status_number IllegalParameter = illegal_parameter

-- no index is above 199, not in use, or named twice; those in `seen` are named already
unfoldable pub targets_legal : List ℕ → List ℕ → List ℕ → Bool
targets_legal t seen [] = true
targets_legal t seen (n ∷ ns) = ltb n target_count && (in_use t n && (not (member n seen) && targets_legal t (n ∷ seen) ns))

abbrev pub originators : List ℕ
originators = 1 ∷ 2 ∷ 3 ∷ 5 ∷ 8 ∷ 9 ∷ 11 ∷ 12 ∷ 13 ∷ 255 ∷ []

abbrev pub max_priority : ℕ
max_priority = 7

abbrev pub max_lock : ℕ
max_lock = 1

-- status 5 if count is not 1 to 20, for an index, priority above 7, lock above 1, or an originator that is not one of these
unfoldable pub is_legal : List ℕ → ModeSend → Bool
is_legal t r =
    leb 1 r.count && (leb r.count max_indices && (targets_legal t [] (named r)
    && (leb r.priority max_priority && (leb r.lock max_lock && member r.originator originators))))

-- an originator and a priority that a mode send may have
unfoldable pub may_command : ℕ → ℕ → Bool
may_command originator priority = leb priority max_priority && member originator originators

-- bit n set; one behind the bytes' end is dropped
unfoldable pub with_bit : List ℕ → ℕ → List ℕ
with_bit ms n = set ms (n / 8) (bit_or (get_or ms (n / 8) 0) (2 ^ (n % 8)))

-- the nodes of a session, marked
unfoldable pub marked : List ℕ → List ℕ → List ℕ
marked ms [] = ms
marked ms (n ∷ ns) = marked (with_bit ms n) ns

abbrev pub session_slot : ℕ → ModeSend → Slot
session_slot l r = record { used = 1; line = l; number = r.session; nodes = marked (replicate mark_bytes 0) (named r) }

-- the status, the first that applies: 5; 3 if the session number is open on any line; 4 if all slots are taken; 1 if a named node is in
-- an open session, the same line's included; else 0
unfoldable pub mode_send_status : List Slot → List ℕ → ModeSend → ℕ
mode_send_status ss t r =
    cond (not (is_legal t r)) illegal_parameter
    (cond (any (is_numbered r.session) ss) session_in_use
    (cond (not (any is_free ss)) no_free_slot
    (cond (any (λ n. any (holds n) ss) (named r)) rejected accepted)))

-- the lowest free slot takes a session, its line, its number and its nodes; where none is free, nothing changes
abbrev pub opened_with : List ℕ → ℕ → ℕ → List ℕ → List ℕ
opened_with b l x nodes = with_slot b (first is_free (slots_of b)) (record { used = 1; line = l; number = x; nodes = nodes })

-- the lowest free slot takes the session, its line and its nodes; where none is free, nothing changes
abbrev pub opened : List ℕ → ℕ → ModeSend → List ℕ
opened b l r = with_slot b (first is_free (slots_of b)) (session_slot l r)

-- so it is with status 0, and with another nothing changes
abbrev pub opened_if : ℕ → List ℕ → ℕ → ModeSend → List ℕ
opened_if s b l r = cond (eqb s accepted) (opened b l r) b

-- what a mode send answers, and the table that it leaves
pub record Sent : Type 0 where
  pub status : ℕ
  pub slots : List ℕ

unfoldable pub mode_send : List ℕ → List ℕ → ℕ → ModeSend → Sent
mode_send b t l r =
    let s = mode_send_status (slots_of b) t r in
    record { status = s; slots = opened_if s b l r }

-- ---- finish a session

-- closes it, in the lowest slot that has it, and tells its line; nothing where its number is not open
pub record Finished : Type 0 where
  pub line : ℕ
  pub slots : List ℕ

unfoldable pub finish : List ℕ → ℕ → Option Finished
finish b x =
    let k = first (is_numbered x) (slots_of b) in
    cond (any (is_numbered x) (slots_of b)) (some (record { line = (slot_at b k).line; slots = with_slot b k closed_slot })) none

-- the table that a finish leaves
abbrev pub left_by : Option Finished → List ℕ → List ℕ
left_by none b = b
left_by (some f) b = f.slots

-- document 01's number of refusal
abbrev pub not_open : ℕ
not_open = 13

-- what is told of it: a refusal, by its number, or the session's line
pub data Told : Type 0 where
  refused : ℕ → Told
  on_line : ℕ → Told

abbrev pub told : Option Finished → Told
told none = refused not_open
told (some f) = on_line f.line

-- the same of an answer: the line, if there is one
abbrev pub told_by : Answer ℕ → Told
told_by None = refused not_open
told_by (Some l) = on_line l
