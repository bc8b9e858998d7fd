-- Calls as the host and the serial service make them, one after another: each keeps its promise, and each gets the hub, the one table and its
-- line's own record as the last one left them.
use Rattle.std.specs.Prelude.{ℕ, ◌≡◌, List, [], ◌∷◌, Bool, true, false, cond, not, ◌&&◌, length, get_or, set, ltb, eqb}
use Rattle.std.proofs.Math.Option.{Option, none, some}
use Rattle.line.specs.declared.Reading.{Reading}
use Rattle.frame.specs.Reader.{taken}
use Rattle.sessions.specs.Search.{any}
use Rattle.sessions.specs.Sessions as sessions
use Rattle.sessions.specs.Sessions.{is_numbered, slots_of}
use Rattle.feeds.specs.System as system
use Rattle.feeds.specs.Marks.{outcome_of}
use Rattle.feeds.specs.Service as service
use Rattle.feeds.specs.Service.{Lent, Got, entry_of, record_for, left_by}
use Rattle.rules.specs.Hub as rules
use Rattle.rules.specs.Hub.{Started, Enrolled, Finish, refused_finish, finished_on, is_logged_in, hub}
use Rattle.rules.specs.declared.Hub.{Hub}
use Rattle.rules.specs.Answers.{CallAnswer, FinishAnswer, FeedAnswer, refusal_of, started_of, enrolled_of, ClosedLine, closed_of, FinishedSession, finished_of, answer_of, fed_of}
use Rattle.rules.specs.Promises.{Starts, Enrols, Closes, Finishes, Feeds}
use Rattle.demands.specs.Calls as calls
use Rattle.demands.specs.Calls.{is_password, unless_refused, new_password, replaced_by, started_with}

-- what is kept between calls: hub, table and the lines' records
abbrev pub Memory : Type 0
Memory = service.Memory hub

-- a call, by what it is lent beside these: a password to start with; node and type to enrol; a line to close; a session's number to finish,
-- and room; line, bytes and room to feed. "A line above 3 is lent any record": close and feed have one for it.
pub data Step : Type 0 where
  start : List ℕ → Step
  enrol : ℕ → ℕ → Step
  close : ℕ → Reading → Step
  finish : ℕ → List ℕ → Step
  feed : Lent → Step

-- what is got back
pub data Return : Type 0 where
  started : Started → Return
  enrolled : Enrolled → Return
  closed : ClosedLine → Return
  finished : FinishedSession → Return
  fed : Got hub → Return

-- the record lent for line l: its own, if it has one
abbrev pub line_record : Memory → ℕ → Reading → Reading
line_record m l spare = get_or m.records l spare

-- One call that keeps its promise, the relation that its `ensures` cites, and what is kept after it: hub, table and record as they are got back,
-- all else as it was. The record may be lent or go in and out by value: the promise is the same.
pub data Made : Memory → Step → Return → Memory → Type 0 where
  starts : {m : Memory} {p : List ℕ} (a : CallAnswer) {h : Hub} {t : List ℕ} → Starts m.hub m.table p a h t
      → Made m (start p) (started (started_of a h t)) (record { hub = h; table = t; records = m.records })
  enrols : {m : Memory} {n type : ℕ} (a : CallAnswer) {t : List ℕ} → Enrols m.table n type a t
      → Made m (enrol n type) (enrolled (enrolled_of a t)) (record { hub = m.hub; table = t; records = m.records })
  closes : {m : Memory} {l : ℕ} {spare : Reading} {a : CallAnswer} {h : Hub} {e : Reading} → Closes m.hub (line_record m l spare) l a h e
      → Made m (close l spare) (closed (closed_of a h e)) (record { hub = h; table = m.table; records = set m.records l e })
  finishes : {m : Memory} {x : ℕ} {room : List ℕ} {a : FinishAnswer} {h : Hub} {left : List ℕ} → Finishes m.hub x room a h left
      → Made m (finish x room) (finished (finished_of a h left)) (record { hub = h; table = m.table; records = m.records })
  feeds : {m : Memory} {g : Lent} {a : FeedAnswer} {h : Hub} {t : List ℕ} {e : Reading} {left : List ℕ}
      → Feeds m.hub m.table (record_for hub m g) g.line g.bytes g.room a h t e left
      → Made m (feed g) (fed (fed_of a h t e left)) (left_by hub m g (fed_of a h t e left))

-- calls one after another: each gets these "as the last one left them, and nothing else touches these"
pub data Steps : Memory → List Step → List Return → Memory → Type 0 where
  stop : {m : Memory} → Steps m [] [] m
  next : {m v e : Memory} {s : Step} {ss : List Step} {o : Return} {os : List Return} → Made m s o v → Steps v ss os e → Steps m (s ∷ ss) (o ∷ os) e

-- ---- refusals

-- the refusal that applies to a call, if any, in the order of the numbers, 9 last
unfoldable pub refusal : Memory → Step → Option ℕ
refusal m (start p) = rules.start_refusal m.table p
refusal m (enrol n type) = rules.enrol_refusal m.table n
refusal m (close l spare) = rules.close_refusal l
refusal m (finish x room) =
    rules.refuse_if (not (any (is_numbered x) (slots_of m.hub.slots))) sessions.not_open (rules.refuse_if (ltb (length room) (length (rules.notice x))) rules.short_room none)
refusal m (feed g) = rules.feed_refusal m.hub m.table (taken (record_for hub m g)) g.line g.bytes (length g.room)

-- the one that finish tells, and feed
unfoldable pub finish_tells : Finish → Option ℕ
finish_tells (refused_finish n) = some n
finish_tells (finished_on l k) = none

unfoldable pub feed_tells : system.Answer → Option ℕ
feed_tells (system.refused n) = some n
feed_tells (system.told u o k) = none

-- the one that a call tells
unfoldable pub refusal_told : Return → Option ℕ
refusal_told (started o) = o.refusal
refusal_told (enrolled o) = o.refusal
refusal_told (closed o) = o.refusal
refusal_told (finished o) = finish_tells o.answer
refusal_told (fed o) = feed_tells o.answer

-- whether there is one
unfoldable pub is_refusal : Option ℕ → Bool
is_refusal none = false
is_refusal (some n) = true

abbrev pub is_refused : Return → Bool
is_refused o = is_refusal (refusal_told o)

-- ---- lent memory

-- the room, if a call is lent any, and as it is got back
unfoldable pub room_lent : Step → Option (List ℕ)
room_lent (start p) = none
room_lent (enrol n type) = none
room_lent (close l spare) = none
room_lent (finish x room) = some room
room_lent (feed g) = some g.room

unfoldable pub room_back : Return → Option (List ℕ)
room_back (started o) = none
room_back (enrolled o) = none
room_back (closed o) = none
room_back (finished o) = some o.room
room_back (fed o) = some o.room

-- the record, if a call is lent one, and as it is got back
unfoldable pub record_lent : Memory → Step → Option Reading
record_lent m (start p) = none
record_lent m (enrol n type) = none
record_lent m (close l spare) = some (line_record m l spare)
record_lent m (finish x room) = none
record_lent m (feed g) = some (record_for hub m g)

unfoldable pub record_back : Return → Option Reading
record_back (started o) = none
record_back (enrolled o) = none
record_back (closed o) = some o.reading
record_back (finished o) = none
record_back (fed o) = some o.reading

-- ---- logins

-- the host's calls, and the feeds of a line that is logged in
unfoldable pub is_privileged : Memory → Step → Bool
is_privileged m (start p) = true
is_privileged m (enrol n type) = true
is_privileged m (close l spare) = true
is_privileged m (finish x room) = true
is_privileged m (feed g) = is_logged_in m.hub g.line

-- none of a list's calls is one of these when it is made
abbrev pub Unprivileged : {m e : Memory} {ss : List Step} {os : List Return} → Steps m ss os e → Type 0
Unprivileged stop = Unit {0}
Unprivileged (next {m} {s = s} x rest) = (is_privileged m s ≡ false) × Unprivileged rest

-- whether line l is logged in after a call, where b says whether it was before: a start that is not refused and a close of l log it out, and
-- a feed on l that tells the right password logs it in
unfoldable pub logged_by : ℕ → Bool → {m v : Memory} {s : Step} {o : Return} → Made m s o v → Bool
logged_by l b (starts a x) = unless_refused (refusal_of a) b
logged_by l b (enrols a x) = b
logged_by l b (closes {l = k} x) = cond (eqb k l) false b
logged_by l b (finishes x) = b
logged_by l b (feeds {m} {g} {a} {e = e} x) = cond (eqb g.line l && is_password m.hub (outcome_of (answer_of a e.bytes))) true b

-- and after a list of calls
unfoldable pub logged_by_all : ℕ → Bool → {m e : Memory} {ss : List Step} {os : List Return} → Steps m ss os e → Bool
logged_by_all l b stop = b
logged_by_all l b (next x rest) = logged_by_all l (logged_by l b x) rest

-- ---- the password

-- the password after a call, where p is that before it: a start that is not refused stores its own, and a feed that tells a change by the right
-- password on a line that is logged in stores the new one
unfoldable pub password_by : List ℕ → {m v : Memory} {s : Step} {o : Return} → Made m s o v → List ℕ
password_by p (starts {p = q} a x) = started_with (refusal_of a) q p
password_by p (enrols a x) = p
password_by p (closes x) = p
password_by p (finishes x) = p
password_by p (feeds {m} {g} {a} {e = e} x) = replaced_by (new_password p (is_logged_in m.hub g.line) (outcome_of (answer_of a e.bytes))) p

-- and after a list of calls
unfoldable pub password_by_all : List ℕ → {m e : Memory} {ss : List Step} {os : List Return} → Steps m ss os e → List ℕ
password_by_all p stop = p
password_by_all p (next x rest) = password_by_all (password_by p x) rest

-- ---- the definitions' calls

-- the one that a step is, by its room's length and the state that its record is taken as
unfoldable pub call_of : Step → calls.Call
call_of (start p) = calls.start p
call_of (enrol n type) = calls.enrol n type
call_of (close l spare) = calls.close l (taken spare)
call_of (finish x room) = calls.finish x (length room)
call_of (feed g) = calls.feed (entry_of g)
