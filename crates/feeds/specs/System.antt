-- Feeds over any hub: what one feed does, and what a list of feeds gives (document 01, "Feed takes a line, bytes and reply room").
use Rattle.std.specs.Prelude.{ℕ, ◌≡◌, List, [], ◌∷◌, length, get_or, set}
use Rattle.std.proofs.Math.Option.{Option, none, some}
use Rattle.frame.specs.Frame as packet
use Rattle.frame.specs.Frame.{Refusal, Outcome}
use Rattle.frame.specs.Reader.{END, Scan, State, read}

-- An entry of a list of feeds: line, bytes and the room's length; a line that has no record of its own is lent one in the state `spare`.
pub record Entry : Type 0 where
  pub line : ℕ
  pub bytes : List ℕ
  pub room : ℕ
  pub spare : State

-- What serving an outcome leaves and writes.
pub record Served (Hub Table : Type 0) : Type 0 where
  pub hub : Hub
  pub table : Table
  pub reply : List ℕ

-- A hub and its table: how an outcome on a line is served, and which call refusal applies, if any, to a feed of a record in some state
-- with line, bytes and the room's length.
pub record System : Type 1 where
  pub Hub : Type 0
  pub Table : Type 0
  pub serve : Hub → Table → ℕ → Outcome → Served Hub Table
  pub refusal : Hub → Table → State → ℕ → List ℕ → ℕ → Option ℕ

-- A feed's answer: the number of its refusal, or bytes used, the outcome and the reply's length.
pub data Answer : Type 0 where
  refused : ℕ → Answer
  told : ℕ → Option Outcome → ℕ → Answer

-- What a feed gives: its answer and its reply's bytes.
pub record Result : Type 0 where
  pub answer : Answer
  pub reply : List ℕ

-- All that a call comes to: hub, table and reading state after it, and the result.
pub record Called (H : System) : Type 0 where
  pub hub : H.Hub
  pub table : H.Table
  pub state : State
  pub result : Result

-- Hub, table and the lines' reading states.
pub record World (H : System) : Type 0 where
  pub hub : H.Hub
  pub table : H.Table
  pub states : List State

module _ (H : System) where
  -- An outcome is served; where there is none, nothing changes and nothing is sent.
  unfoldable pub serve_if : H.Hub → H.Table → ℕ → Option Outcome → Served H.Hub H.Table
  serve_if h t l none = record { hub = h; table = t; reply = [] }
  serve_if h t l (some o) = H.serve h t l o

  -- What reading came to is told, with what serving its outcome left and wrote.
  unfoldable pub settled : Scan State Outcome → Served H.Hub H.Table → Called H
  settled r x = record {
    hub = x.hub;
    table = x.table;
    state = r.after;
    result = record { answer = told r.used r.outcome (length x.reply); reply = x.reply };
  }

  -- A refused call uses nothing, sends nothing and changes nothing; any other reads up to the first outcome or the end of the bytes.
  unfoldable pub decided : H.Hub → H.Table → ℕ → State → Scan State Outcome → Option ℕ → Called H
  decided h t l s r (some n) = record { hub = h; table = t; state = s; result = record { answer = refused n; reply = [] } }
  decided h t l s r none = settled r (serve_if h t l r.outcome)

  -- The call of feed, lent hub, table, a record in the state s, bytes and room of some length: feed's promise is this.
  unfoldable pub call : H.Hub → H.Table → State → ℕ → List ℕ → ℕ → Called H
  call h t s l bytes room = decided h t l s (read s bytes) (H.refusal h t s l bytes room)

  -- The state of the record lent: the line's own, if it has one.
  unfoldable pub state_for : World H → Entry → State
  state_for w e = get_or w.states e.line e.spare

  -- What a call leaves is put back where it came from.
  unfoldable pub returned : World H → ℕ → Called H → World H × Result
  returned w l c = (record { hub = c.hub; table = c.table; states = set w.states l c.state }, c.result)

  -- One feed of a list: it gets hub, table and its line's own record as the last one left them.
  unfoldable pub feed : World H → Entry → World H × Result
  feed w e = returned w e.line (call w.hub w.table (state_for w e) e.line e.bytes e.room)

  -- What the feeds of a list give, in order.
  unfoldable pub results : World H → List Entry → List Result
  results w [] = []
  results w (e ∷ es) = (feed w e).1 ∷ results (feed w e).0 es

  -- The state that a list of feeds ends in.
  unfoldable pub end_state : World H → List Entry → World H
  end_state w [] = w
  end_state w (e ∷ es) = end_state (feed w e).0 es

-- The error frame 0000 with byte 2.
abbrev pub error_reply : List ℕ
error_reply = END ∷ 0 ∷ 4 ∷ 0 ∷ 0 ∷ 2 ∷ 6 ∷ END ∷ []

-- All that demand 3 asks of a hub: serving a refused packet leaves hub and table, and brings the error reply only.
abbrev pub OnlyErrorReply : System → Type 0
OnlyErrorReply H = (h : H.Hub) (t : H.Table) (l : ℕ) (n : Refusal) → H.serve h t l (packet.refused n) ≡ record { hub = h; table = t; reply = error_reply }
