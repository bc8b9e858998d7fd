-- "Frames are read and written exactly as the KLF 200 specification 3.18 says" (demand 2): the wire of a line, and what the calls write, in
-- document 01's words. That reading is exact is stated and proved in proofs/Frames.antt: ReadExactly.
use Rattle.std.specs.Prelude.{ℕ, ◌≤◌, ◌≡◌, List, [], ◌∷◌, ◌++◌, Result, map, length, take, drop}
use Rattle.std.proofs.Math.Option.{Option}
use Rattle.frame.specs.Line.{written}
use Rattle.frame.specs.Frame.{Outcome, max_data}
use Rattle.frame.specs.declared.WriteRefusal.{WriteRefusal}
use Rattle.frame.specs.Writer as writer
use Rattle.frame.specs.Writer.{up_to, write, Writes}
use Rattle.frame.specs.Reader.{outcomes, emptied, step, taken}
use Rattle.feeds.specs.System.{told}
use Rattle.feeds.specs.Sent.{frame_of, sent}
use Rattle.feeds.specs.Service.{Lent, Got, Feeds, used_in}
use Rattle.feeds.specs.Demand3.{record_at}
use Rattle.rules.specs.Hub.{hub, finished_on}
use Rattle.rules.specs.Answers.{FinishedSession}
use Rattle.rules.specs.Frames.{Frames, as_sent}
use Rattle.demands.specs.Steps.{Memory, feed, finish, fed, finished, Made}

-- the wire of line l in a list of feeds: bytes that lead to the state of its record at the start, then the bytes used on it
abbrev pub wire_of : ℕ → Feeds hub → List ℕ
wire_of l F = written (taken (record_at l F)) ++ used_in l F

-- the room that the writer leaves where it writes n bytes
pub record Wrote (room : List ℕ) (c : ℕ) (d : List ℕ) (n : ℕ) (left : List ℕ) : Type 0 where
  pub most : length d ≤ max_data
  pub frame : take n left ≡ sent (as_sent c d most ∷ [])
  pub behind : drop n left ≡ drop n room

-- writing
pub record WrittenExactly : Type 0 where
  -- what a feed writes are well-formed frames, each with an END before and after; so is what a finish writes
  pub by_feed : {m v : Memory} {g : Lent} {o : Got hub} → Made m (feed g) (fed o) v → (u : ℕ) (y : Option Outcome) (k : ℕ) → o.answer ≡ told u y k → Frames (take k o.room)
  pub by_finish : {m v : Memory} {x : ℕ} {room : List ℕ} {o : FinishedSession} → Made m (finish x room) (finished o) v → (l k : ℕ) → o.answer ≡ finished_on l k → Frames (take k o.room)
  -- what the frame writer writes, unless it refuses, is one, of its command and data; what stood behind it stays
  pub by_writer : (room : List ℕ) (c : ℕ) (d : List ℕ) (r : Result ℕ WriteRefusal) (left : List ℕ) → Writes (write room c d) (writer.told r) left → (n : ℕ) → writer.told r ≡ up_to n → Wrote room c d n left
  -- they are read as these frames and nothing else
  pub read_back : (w : List ℕ) (x : Frames w) → outcomes step emptied w ≡ map frame_of x.frames
