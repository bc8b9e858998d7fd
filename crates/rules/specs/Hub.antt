-- The hub (document 01, "The command directory", "What the commands do", host calls, "Numbers of refusal").
use Rattle.std.specs.Prelude as std
use Rattle.std.specs.Prelude.{ℕ, ◌+◌, List, [], ◌∷◌, Bool, true, false, cond, not, ◌||◌, length, take, drop, set, get_or, replicate, ltb, eqb}
use Rattle.std.proofs.Math.Option.{Option, none, some}
use Rattle.passwords.specs.Passwords.{is_same, stored}
pub use Rattle.passwords.specs.Passwords.{password_size}
use Rattle.frame.specs.Frame.{Outcome, frame, refused}
use Rattle.frame.specs.Reader.{State, emptied, read}
pub use Rattle.frame.specs.Writer.{short_room}
use Rattle.nodes.specs.Table as table
use Rattle.sessions.specs.Sessions as sessions
use Rattle.directory.specs.Lookup as directory
pub use Rattle.directory.specs.Lookup.{unknown_command, frame_error}
use Rattle.replies.specs.Messages.{Message, error, password_entered, password_changed, variation_set, name_set, order_and_placement_set, nodes_removed, virgin_state_set, mode_send_confirmed, session_finished, bytes_of, about_node}
use Rattle.feeds.specs.System.{Served, System}
use Rattle.rules.specs.declared.Hub.{Hub}

abbrev pub line_count : ℕ
line_count = 4

-- the data of a password change: two passwords
abbrev pub change_size : ℕ
change_size = password_size + password_size

-- ---- numbers of refusal, of the calls; 9 is the frame writer's too, and 13 the sessions'

abbrev pub wrong_table : ℕ
wrong_table = 7

abbrev pub wrong_line : ℕ
wrong_line = 8

abbrev pub wrong_node : ℕ
wrong_node = 11

abbrev pub node_in_use : ℕ
node_in_use = 12

abbrev pub wrong_password : ℕ
wrong_password = 14

-- the first refusal of a list of tests that applies
abbrev pub refuse_if : Bool → ℕ → Option ℕ → Option ℕ
refuse_if t n o = cond t (some n) o

-- the tests that calls share: a table of another length, a line above 3
abbrev pub refuse_table : List ℕ → Option ℕ → Option ℕ
refuse_table t o = refuse_if (not (eqb (length t) table.table_size)) wrong_table o

abbrev pub refuse_line : ℕ → Option ℕ → Option ℕ
refuse_line l o = refuse_if (not (ltb l line_count)) wrong_line o

-- what the hub makes of an outcome: what it leaves, and what it says
pub record Response : Type 0 where
  pub hub : Hub
  pub table : List ℕ
  pub says : List Message

-- ---- error frames

abbrev pub not_logged_in : ℕ
not_logged_in = 12

-- the error frame 0000 with one byte; none of these changes anything
abbrev pub failure : Hub → List ℕ → ℕ → Response
failure h t e = record { hub = h; table = t; says = error e ∷ [] }

-- the failure that the directory gives an error for, or else what follows
abbrev pub by_verdict : std.Option ℕ → (ℕ → Response) → Response → Response
by_verdict (std.Some e) f x = f e
by_verdict std.None f x = x

-- ---- the hub with one part changed

abbrev pub with_password : Hub → List ℕ → Hub
with_password h p = record { password = p; logins = h.logins; slots = h.slots }

-- a line logged in
abbrev pub with_login : Hub → ℕ → Hub
with_login h l = record { password = h.password; logins = set h.logins l 1; slots = h.slots }

-- another session table
abbrev pub with_slots : Hub → List ℕ → Hub
with_slots h b = record { password = h.password; logins = h.logins; slots = b }

-- ---- password enter and change

-- what a password request answers, and the hub that it leaves
pub record Password : Type 0 where
  pub status : ℕ
  pub hub : Hub

abbrev pub correct : ℕ
correct = 0

abbrev pub incorrect : ℕ
incorrect = 1

-- of both only the password is compared, the bytes before the first zero or all, and whole; equal gives status 0 and logs the line in;
-- otherwise status 1 and the login stays as it was
unfoldable pub enter : Hub → ℕ → List ℕ → Password
enter h l d =
    cond (is_same d h.password)
    (record { status = correct; hub = with_login h l })
    (record { status = incorrect; hub = h })

-- the first half is compared in the same way; equal, the new half is stored with zeros from its first zero on, status 0; otherwise status 1
unfoldable pub change : Hub → List ℕ → List ℕ → Password
change h old new =
    cond (is_same old h.password)
    (record { status = correct; hub = with_password h (stored new) })
    (record { status = incorrect; hub = h })

-- by the request's data: the old password, and then the new
abbrev pub changed : Hub → List ℕ → Password
changed h d = change h (take password_size d) (drop password_size d)

-- ---- requests

-- the request that a line may ask before it is logged in
abbrev pub password_enter : ℕ
password_enter = 0x3000

abbrev pub password_change : ℕ
password_change = 0x3002

-- one frame is said
abbrev pub reply : Hub → List ℕ → Message → Response
reply h t m = record { hub = h; table = t; says = m ∷ [] }

-- a node set command's confirm has its status and the node as it was sent
abbrev pub node_reply : Hub → (ℕ → ℕ → Message) → ℕ → table.Result → Response
node_reply h confirm n r = reply h r.table (confirm r.status n)

abbrev pub get_node : Hub → List ℕ → ℕ → Response
get_node h t n = record { hub = h; table = t; says = about_node t n }

-- SceneDeleted is 0
unfoldable pub remove_nodes : Hub → List ℕ → List ℕ → Response
remove_nodes h t d = reply (with_slots h (sessions.close_removed t d h.slots)) (table.remove d t) (nodes_removed 0)

-- virgin state zeroes the table and closes all sessions; logins and password stay
unfoldable pub virgin_state : Hub → List ℕ → Response
virgin_state h t = reply (with_slots h (sessions.close_all h.slots)) (table.emptied t) virgin_state_set

-- the confirm has the session as it was sent
unfoldable pub mode_send : Hub → List ℕ → ℕ → List ℕ → Response
mode_send h t l d =
    let q = sessions.mode_send_of d in
    let r = sessions.mode_send h.slots t l q in
    reply (with_slots h r.slots) t (mode_send_confirmed q.session r.status)

-- the requests served, by their numbers; known but not served is error 1
unfoldable pub request : Hub → List ℕ → ℕ → ℕ → List ℕ → Response
request h t l c d =
    let n = get_or d 0 0 in
    cond (eqb c password_enter) (let r = enter h l d in reply r.hub t (password_entered r.status))
    (cond (eqb c password_change) (let r = changed h d in reply r.hub t (password_changed r.status))
    (cond (eqb c 0x0200) (get_node h t n)
    (cond (eqb c 0x0206) (node_reply h variation_set n (table.set_variation t n (get_or d 1 0)))
    (cond (eqb c 0x0208) (node_reply h name_set n (table.set_name t n (drop 1 d)))
    (cond (eqb c 0x020D) (node_reply h order_and_placement_set n (table.set_order_and_placement t n (drop 1 d)))
    (cond (eqb c 0x0106) (remove_nodes h t d)
    (cond (eqb c 0x0108) (virgin_state h t)
    (cond (eqb c 0x0320) (mode_send h t l d)
    (failure h t unknown_command)))))))))

-- ---- each outcome on a line

-- a line is logged in exactly if its number for that is 1
abbrev pub is_listed : List ℕ → ℕ → Bool
is_listed logins l = eqb (get_or logins l 0) 1

abbrev pub is_logged_in : Hub → ℕ → Bool
is_logged_in h l = is_listed h.logins l

-- a line that is not logged in may enter the password only
abbrev pub may_ask : List ℕ → ℕ → ℕ → Bool
may_ask logins l c = is_listed logins l || eqb c password_enter

-- judged in this order: packet refused, 2; command unknown, 1; data length outside the directory's range, 2; not logged in and not
-- password enter, 12; known but not served, 1
unfoldable pub respond : Hub → List ℕ → ℕ → Outcome → Response
respond h t l (refused n) = failure h t frame_error
respond h t l (frame c d) =
    by_verdict (directory.verdict c (length d)) (failure h t)
    (cond (may_ask h.logins l c) (request h t l c d) (failure h t not_logged_in))

-- what serving an outcome leaves and writes: what is said goes to the line as bytes
abbrev pub Reply : Type 0
Reply = Served Hub (List ℕ)

unfoldable pub serve : Hub → List ℕ → ℕ → Outcome → Reply
serve h t l o = record { hub = (respond h t l o).hub; table = (respond h t l o).table; reply = bytes_of (respond h t l o).says }

-- ---- host calls

-- start (password, table): the password is stored with zeros from its first zero on, the table zeroed, nobody logged in, no session
pub record Started : Type 0 where
  pub refusal : Option ℕ
  pub hub : Hub
  pub table : List ℕ

abbrev pub fresh_hub : List ℕ → Hub
fresh_hub p = record { password = p; logins = replicate line_count 0; slots = replicate sessions.sessions_size 0 }

-- the hub before any start
abbrev pub first_hub : Hub
first_hub = fresh_hub (replicate password_size 0)

abbrev pub start_refusal : List ℕ → List ℕ → Option ℕ
start_refusal t p = refuse_table t (refuse_if (not (eqb (length p) password_size)) wrong_password none)

abbrev pub start_by : Option ℕ → Hub → List ℕ → List ℕ → Started
start_by (some n) h t p = record { refusal = some n; hub = h; table = t }
start_by none h t p = record { refusal = none; hub = fresh_hub (stored p); table = table.emptied t }

abbrev pub start : Hub → List ℕ → List ℕ → Started
start h t p = start_by (start_refusal t p) h t p

-- enrol (node, type)
pub record Enrolled : Type 0 where
  pub refusal : Option ℕ
  pub table : List ℕ

abbrev pub enrol_refusal : List ℕ → ℕ → Option ℕ
enrol_refusal t n = refuse_table t (refuse_if (not (table.is_node n)) wrong_node (refuse_if (table.in_use t n) node_in_use none))

abbrev pub enrol_by : Option ℕ → List ℕ → ℕ → ℕ → Enrolled
enrol_by (some r) t n type = record { refusal = some r; table = t }
enrol_by none t n type = record { refusal = none; table = table.enrolled t n type }

abbrev pub enrol : List ℕ → ℕ → ℕ → Enrolled
enrol t n type = enrol_by (enrol_refusal t n) t n type

-- close a line: login lost, reading state emptied, its sessions closed
pub record Closed : Type 0 where
  pub refusal : Option ℕ
  pub hub : Hub
  pub state : State

abbrev pub close_refusal : ℕ → Option ℕ
close_refusal l = refuse_line l none

abbrev pub closed_line : Hub → ℕ → Hub
closed_line h l = record { password = h.password; logins = set h.logins l 0; slots = sessions.close_line l h.slots }

abbrev pub close_by : Option ℕ → Hub → State → ℕ → Closed
close_by (some n) h s l = record { refusal = some n; hub = h; state = s }
close_by none h s l = record { refusal = none; hub = closed_line h l; state = emptied }

abbrev pub close : Hub → State → ℕ → Closed
close h s l = close_by (close_refusal l) h s l

-- finish a session by number: closes it, writes frame 0304 with its number, tells its line and the reply's length
pub data Finish : Type 0 where
  refused_finish : ℕ → Finish
  finished_on : ℕ → ℕ → Finish

unfoldable pub notice : ℕ → List ℕ
notice x = bytes_of (session_finished x ∷ [])

pub record Finished : Type 0 where
  pub answer : Finish
  pub hub : Hub
  pub reply : List ℕ

-- a number that is not open (13), then a notice longer than the room (9)
abbrev pub finish_by : Option sessions.Finished → Bool → Hub → ℕ → Finished
finish_by none long h x = record { answer = refused_finish sessions.not_open; hub = h; reply = [] }
finish_by (some f) true h x = record { answer = refused_finish short_room; hub = h; reply = [] }
finish_by (some f) false h x = record { answer = finished_on f.line (length (notice x)); hub = with_slots h f.slots; reply = notice x }

abbrev pub finish : Hub → ℕ → ℕ → Finished
finish h x room = finish_by (sessions.finish h.slots x) (ltb room (length (notice x))) h x

-- ---- feed

-- what the hub makes of a feed: nothing where its bytes come to no outcome
abbrev pub respond_if : Hub → List ℕ → ℕ → Option Outcome → Response
respond_if h t l none = record { hub = h; table = t; says = [] }
respond_if h t l (some o) = respond h t l o

-- what the feed writes
abbrev pub written : Hub → List ℕ → ℕ → Option Outcome → List ℕ
written h t l o = bytes_of (respond_if h t l o).says

-- when a feed is refused: the table's length, the line, and last what it would write, if that is longer than the room
abbrev pub feed_refusal : Hub → List ℕ → State → ℕ → List ℕ → ℕ → Option ℕ
feed_refusal h t s l bytes room =
    refuse_table t (refuse_line l (refuse_if (ltb room (length (written h t l (read s bytes).outcome))) short_room none))

-- this hub, as a system of feeds
abbrev pub hub : System
hub = record { Hub = Hub; Table = List ℕ; serve = serve; refusal = feed_refusal }
