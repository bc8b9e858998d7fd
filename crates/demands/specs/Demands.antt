-- Demand 1, the words of demand 2, and the accident behind them, of any calls of the host and the serial service that keep their promises, in
-- any order and number, each on what the last one left (Steps). Words in quotes are the papers'. Demand 2 is stated in proofs/Demands.antt,
-- demand 3 in proofs/Demand3.antt.
use Rattle.std.specs.Prelude.{ℕ, ◌≤◌, ◌<◌, ◌≡◌, List, [], ◌++◌, Result, map, true, length, take, drop, ltb}
use Rattle.std.proofs.Math.Option.{Option, none, some}
use Rattle.frame.specs.declared.WriteRefusal.{WriteRefusal}
use Rattle.frame.specs.Writer as writer
use Rattle.frame.specs.Writer.{Writing, up_to, no_fit, write, write_at, Writes}
use Rattle.frame.specs.WireLaws.{Unwritten}
use Rattle.nodes.specs.Table.{table_size}
use Rattle.frame.specs.Frame as packet
use Rattle.frame.specs.Frame.{Outcome, max_data, wire}
use Rattle.frame.specs.Reader.{also, outcomes, final, emptied, step, read, taken}
use Rattle.feeds.specs.System.{told, serve_if, error_reply}
use Rattle.feeds.specs.Marks.{unmarked}
use Rattle.feeds.specs.Serving.{replies_told, ServedAll, serve_all, told_all}
use Rattle.feeds.specs.Service.{Lent, Got, world_of, record_for, Feeds, entries_in, results_in, answers_in, told_in}
use Rattle.feeds.specs.Serving.{lines_of}
use Rattle.rules.specs.Hub.{first_hub, notice, short_room, refuse_if, Reply, hub}
use Rattle.rules.specs.Answers.{FinishedSession}
use Rattle.demands.specs.Invariants.{OneAtMost}
use Rattle.demands.specs.Steps.{Memory, Step, start, finish, feed, Return, finished, fed, Made, Steps, refusal, refusal_told, is_refused, room_lent, room_back, record_lent, record_back}
use Rattle.sessions.specs.Search.{any as any_slot}
use Rattle.sessions.specs.Sessions as sessions

-- ---- Demand 1

-- what a refused call leaves
pub record Untouched (m : Memory) (s : Step) (o : Return) (v : Memory) : Type 0 where
  -- it "changes neither the hub", nor the table, nor any line's record as it lies,
  pub memory : v ≡ m
  -- "nor lent memory": the record that it was lent, a line's own or not,
  pub reading : record_back o ≡ record_lent m s
  -- and the room
  pub room : room_back o ≡ room_lent s

-- a feed "stops after the first outcome, whose END is counted as used, or at the end of the bytes": how it stops
abbrev pub StopsAt : Lent → Got hub → ℕ → Option Outcome → Type 0
StopsAt g o u (some y) = taken o.reading ≡ emptied
StopsAt g o u none = u ≡ length g.bytes

-- what a feed leaves that tells u bytes used, an outcome or none, and a reply of k bytes, where serving comes to r
pub record Answered (m : Memory) (g : Lent) (o : Got hub) (v : Memory) (u : ℕ) (y : Option Outcome) (k : ℕ) (r : Reply) : Type 0 where
  -- the bytes used give this outcome and no other, and lead to the state that the record is taken as
  pub outcome : outcomes step (taken (record_for hub m g)) (take u g.bytes) ≡ also y []
  pub state : taken o.reading ≡ final step (taken (record_for hub m g)) (take u g.bytes)
  pub stops : StopsAt g o u y
  -- fewer bytes give none, so the outcome's END is the last one used
  pub first : (i : ℕ) → i < u → outcomes step (taken (record_for hub m g)) (take i g.bytes) ≡ []
  -- hub, table and reply are those of r, and bytes behind the reply stay
  pub hub : v.hub ≡ r.hub
  pub table : v.table ≡ r.table
  pub count : k ≡ length r.reply
  pub reply : o.room ≡ r.reply ++ drop k g.room

-- what a feed would write: what its outcome is answered with
abbrev pub to_write : Memory → Lent → List ℕ
to_write m g = (serve_if hub m.hub m.table g.line (read (taken (record_for hub m g)) g.bytes).outcome).reply

-- the refusal that applies to writing, if any, and the one that it tells
abbrev pub write_refusal : ℕ → ℕ → List ℕ → Option ℕ
write_refusal room c d = refuse_if (ltb max_data (length d)) writer.long_data (refuse_if (ltb room (length (wire c d))) writer.short_room none)

abbrev pub writing_refusal : Writing → Option ℕ
writing_refusal (up_to n) = none
writing_refusal (writer.refused n) = some n
writing_refusal no_fit = none

pub record Demand1 : Type 0 where
  -- "Any bytes, numbers and lent lengths may come.": every list of calls can be made, whatever is kept at its start
  pub any : (m : Memory) (ss : List Step) → (os : List Return) × (e : Memory) × Steps m ss os e
  -- a call is refused exactly if a refusal applies to it, with the number of the first that does
  pub exactly : {m v : Memory} {s : Step} {o : Return} → Made m s o v → refusal_told o ≡ refusal m s
  -- document 02: "Refusal 9 is to be given exactly when what a call would write is longer than the room lent", and it is judged last
  pub feed_short : {m v : Memory} {g : Lent} {o : Got hub} → Made m (feed g) (fed o) v → refusal_told (fed o) ≡ some 9 → length g.room < length (to_write m g)
  pub short_feed : {m v : Memory} {g : Lent} {o : Got hub} → Made m (feed g) (fed o) v → length m.table ≡ table_size → g.line ≤ 3 → length g.room < length (to_write m g)
      → refusal_told (fed o) ≡ some 9
  pub finish_short : {m v : Memory} {x : ℕ} {room : List ℕ} {o : FinishedSession} → Made m (finish x room) (finished o) v → refusal_told (finished o) ≡ some 9 → length room < length (notice x)
  pub short_finish : {m v : Memory} {x : ℕ} {room : List ℕ} {o : FinishedSession} → Made m (finish x room) (finished o) v → any_slot (sessions.is_numbered x) (sessions.slots_of m.hub.slots) ≡ true
      → length room < length (notice x) → refusal_told (finished o) ≡ some 9
  -- "A refused call changes neither the hub nor lent memory;"
  pub untouched : {m v : Memory} {s : Step} {o : Return} → Made m s o v → (n : ℕ) → refusal_told o ≡ some n → Untouched m s o v
  -- the frame writer, which keeps nothing: refused exactly if its data are above 250 bytes (10), or else longer than the room once written (9),
  -- and then it leaves the room as it was lent
  pub write_exactly : (room : List ℕ) (c : ℕ) (d : List ℕ) (r : Result ℕ WriteRefusal) (left : List ℕ) → Writes (write room c d) (writer.told r) left → writing_refusal (writer.told r) ≡ write_refusal (length room) c d
  pub write_untouched : (room : List ℕ) (c : ℕ) (d : List ℕ) (r : Result ℕ WriteRefusal) (left : List ℕ) → Writes (write room c d) (writer.told r) left → (n : ℕ) → writing_refusal (writer.told r) ≡ some n → left ≡ room
  -- and so where it writes at an offset: refused, or without room for the whole frame, it leaves the room
  pub place_untouched : (room : List ℕ) (i c : ℕ) (d : List ℕ) (r : Result ℕ WriteRefusal) (left : List ℕ) → Writes (write_at room i c d) (writer.told_at r) left → Unwritten (writer.told_at r) → left ≡ room
  -- so a list without its refused calls is made as well: every other gives the same, and the end is the same
  pub without : {m e : Memory} {ss : List Step} {os : List Return} → Steps m ss os e
      → Steps m (unmarked (map is_refused os) ss) (unmarked (map is_refused os) os) e
  -- "a refused packet is used up and brings one error reply only."
  pub used_up : {m v : Memory} {g : Lent} {o : Got hub} → Made m (feed g) (fed o) v → (u : ℕ) (n : packet.Refusal) (k : ℕ) → o.answer ≡ told u (some (packet.refused n)) k
      → Answered m g o v u (some (packet.refused n)) k (record { hub = m.hub; table = m.table; reply = error_reply })

-- ---- Demand 2

-- hub and table at the end of a list of feeds, and the replies that went with outcomes
abbrev pub served_in : Feeds hub → ServedAll hub
served_in F = record { hub = F.end.hub; table = F.end.table; replies = replies_told (results_in F) }

-- outcomes served one by one from its start, each on the hub and the table that the one before left
abbrev pub served_from : Feeds hub → List (ℕ × Outcome) → ServedAll hub
served_from F = serve_all hub F.start.hub F.start.table

-- what is the same of two lists of feeds: outcomes on line l, replies, and the end, records as taken
pub record Same (l : ℕ) (F G : Feeds hub) : Type 0 where
  pub told : told_in l F ≡ told_in l G
  pub replies : replies_told (results_in F) ≡ replies_told (results_in G)
  pub end : world_of F.end ≡ world_of G.end

-- what is the same of two lists of feeds on all lines: outcomes with their lines, replies, and the end, records as taken
pub record SameAll (F G : Feeds hub) : Type 0 where
  pub told : told_all (entries_in F) (answers_in F) ≡ told_all (entries_in G) (answers_in G)
  pub replies : replies_told (results_in F) ≡ replies_told (results_in G)
  pub end : world_of F.end ≡ world_of G.end

-- the lines that told outcomes, in order
abbrev pub order : Feeds hub → List ℕ
order F = lines_of (told_all (entries_in F) (answers_in F))

-- ---- The accident

pub record OneHolder : Type 0 where
  -- "its tables let two commands hold the same motor": a node that is in one open session at the most stays so
  pub one : {m e : Memory} {ss : List Step} {os : List Return} → Steps m ss os e → (n : ℕ) → OneAtMost n m.hub → OneAtMost n e.hub
  -- so no node is ever in two: from the hub before any start, and from an accepted start, through any calls
  pub first : {m e : Memory} {ss : List Step} {os : List Return} → m.hub ≡ first_hub → Steps m ss os e → (n : ℕ) → OneAtMost n e.hub
  pub started : {m v e : Memory} {p : List ℕ} {o : Return} {ss : List Step} {os : List Return} → Made m (start p) o v → refusal_told o ≡ none → Steps v ss os e
      → (n : ℕ) → OneAtMost n e.hub
