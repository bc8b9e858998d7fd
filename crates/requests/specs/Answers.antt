-- What the functions behind `call` answer: each is the definition's.
use Rattle.std.specs.Prelude.{ℕ, ◌≤◌, ◌≡◌, List, Result, Ok, Err, cond, eqb, length, take, drop, set, get_or}
use Rattle.directory.specs.declared.CommandError.{CommandError}
use Rattle.directory.specs.declared.CommandError.TheVariants as refused
use Rattle.requests.specs.declared.decide.RequestError.{RequestError}
use Rattle.requests.specs.declared.decide.RequestError.TheVariants as error
use Rattle.line.specs.declared.Cursor.{Cursor}
use Rattle.line.specs.declared.Reading.{Reading}
use Rattle.frame.specs.Frame.{head}
use Rattle.frame.specs.declared.FrameOutcome.{FrameOutcome}
use Rattle.frame.specs.declared.FrameOutcome.TheVariants as outcome
use Rattle.passwords.specs.Passwords.{is_same, stored}
use Rattle.nodes.specs.Table.{set_name, set_order_and_placement, set_variation, remove, emptied}
use Rattle.sessions.specs.Sessions as sessions
use Rattle.sessions.specs.declared.ModeSend.{ModeSend}
use Rattle.replies.specs.declared.Reply.{Reply}
use Rattle.replies.specs.declared.Reply.TheVariants as reply
use Rattle.replies.specs.Replies.{says}
use Rattle.rules.specs.declared.Hub.{Hub}
use Rattle.rules.specs.Hub as rules
use Rattle.rules.specs.Hub.{Response, password_size, change_size, with_password, with_slots}

-- ---- the call

-- the record of some bytes at a place
abbrev pub reading_at : List ℕ → Cursor → Reading
reading_at bs p = record { bytes = bs; count = p.count; mode = p.mode }

-- ---- what is done

-- the hub and the table that a request leaves
pub record Left : Type 0 where
  pub hub : Hub
  pub table : List ℕ

-- `change_password`, `log_in`: a password request does something only with status 0
abbrev pub password_left : ℕ → List ℕ → List ℕ → List ℕ
password_left s d p = cond (eqb s rules.correct) (stored (drop password_size d)) p

abbrev pub logins_left : ℕ → ℕ → List ℕ → List ℕ
logins_left s l ls = cond (eqb s rules.correct) (set ls l 1) ls

-- the hub of these parts, as they lie
abbrev pub hub_of : List ℕ → List ℕ → List ℕ → Hub
hub_of p ls b = record { password = p; logins = ls; slots = b }

-- `carry_out`: what is done, by the reply that was decided, the line and the request's data
abbrev pub carried_out : Reply → Hub → List ℕ → ℕ → List ℕ → Left
carried_out reply.Nothing h t l d = record { hub = h; table = t }
carried_out (reply.Error e) h t l d = record { hub = h; table = t }
carried_out (reply.PasswordEntered s) h t l d = record { hub = hub_of h.password (logins_left s l h.logins) h.slots; table = t }
carried_out (reply.PasswordChanged s) h t l d = record { hub = with_password h (password_left s d h.password); table = t }
carried_out (reply.AboutNode n) h t l d = record { hub = h; table = t }
carried_out (reply.VariationSet s n) h t l d = record { hub = h; table = (set_variation t n (get_or d 1 0)).table }
carried_out (reply.NameSet s n) h t l d = record { hub = h; table = (set_name t n (drop 1 d)).table }
carried_out (reply.OrderAndPlacementSet s n) h t l d = record { hub = h; table = (set_order_and_placement t n (drop 1 d)).table }
carried_out (reply.NodesRemoved k) h t l d = record { hub = with_slots h (sessions.close_removed t d h.slots); table = remove d t }
carried_out reply.VirginStateSet h t l d = record { hub = with_slots h (sessions.close_all h.slots); table = emptied t }
carried_out (reply.ModeSendConfirmed x s) h t l d = record { hub = with_slots h (sessions.opened_if s h.slots l (sessions.mode_send_of d)); table = t }
carried_out (reply.SessionFinished x) h t l d = record { hub = h; table = t }

-- a request that is done has its data: two passwords, a byte for the node before what is stored, a mode send
abbrev pub Enough : Reply → List ℕ → Type 0
Enough reply.Nothing d = Unit {0}
Enough (reply.Error e) d = Unit {0}
Enough (reply.PasswordEntered s) d = Unit {0}
Enough (reply.PasswordChanged s) d = length d ≡ change_size
Enough (reply.AboutNode n) d = Unit {0}
Enough (reply.VariationSet s n) d = Unit {0}
Enough (reply.NameSet s n) d = 1 ≤ length d
Enough (reply.OrderAndPlacementSet s n) d = 1 ≤ length d
Enough (reply.NodesRemoved k) d = Unit {0}
Enough reply.VirginStateSet d = Unit {0}
Enough (reply.ModeSendConfirmed x s) d = length d ≡ sessions.mode_send_size
Enough (reply.SessionFinished x) d = Unit {0}

-- ---- what is decided

-- the length of a frame's data that are told, and the data as they stand in the record's array
abbrev pub data_length : FrameOutcome → ℕ
data_length outcome.Nothing = 0
data_length (outcome.Frame c n) = n
data_length (outcome.Refused r) = 0

abbrev pub data_in : FrameOutcome → List ℕ → List ℕ
data_in o bs = take (data_length o) (drop head bs)

-- the reply says what the definition's response x says, and leaves its hub and table once it is carried out with the data d
pub record Decides (x : Response) (h : Hub) (t : List ℕ) (l : ℕ) (d : List ℕ) (r : Reply) : Type 0 where
  pub says : says t r ≡ x.says
  pub left : carried_out r h t l d ≡ record { hub = x.hub; table = x.table }
  pub enough : Enough r d

-- the error of a command that the directory refuses
abbrev pub error_for : CommandError → RequestError
error_for refused.Unknown = error.UnknownCommand
error_for refused.WrongLength = error.Frame

-- the byte of the error frame
abbrev pub error_byte : RequestError → ℕ
error_byte error.UnknownCommand = rules.unknown_command
error_byte error.Frame = rules.frame_error
error_byte error.NotLoggedIn = rules.not_logged_in

-- the reply that tells a request's answer: where it fails, the error frame
abbrev pub answered : Result Reply RequestError → Reply
answered (Ok r) = r
answered (Err e) = reply.Error (error_byte e)

-- each request that has a status
abbrev pub password_status : List ℕ → List ℕ → ℕ
password_status p d = cond (is_same d p) rules.correct rules.incorrect

abbrev pub varied : List ℕ → List ℕ → Reply
varied t d = reply.VariationSet (set_variation t (get_or d 0 0) (get_or d 1 0)).status (get_or d 0 0)

abbrev pub confirmed : List ℕ → List ℕ → ModeSend → Reply
confirmed b t q = reply.ModeSendConfirmed q.session (sessions.mode_send_status (sessions.slots_of b) t q)
