-- Frames as they are sent on a line.
use Rattle.std.specs.Prelude.{ℕ, ◌≡◌, List, [], ◌∷◌, ◌++◌, replicate}
use Rattle.frame.specs.Frame.{Outcome, frame, judge}
use Rattle.frame.specs.Reader.{END, escape}

-- A well-formed frame: its bytes, which the checks accept with this command and these data, and how many ENDs are sent before it;
-- none where it shares its neighbour's.
pub record Sent : Type 0 where
  pub ends : ℕ
  pub bytes : List ℕ
  pub command : ℕ
  pub content : List ℕ
  pub accepted : judge bytes ≡ frame command content

-- The outcome that a well-formed frame gives.
unfoldable pub frame_of : Sent → Outcome
frame_of f = frame f.command f.content

-- Bytes with n ENDs before and one after.
abbrev pub enclosed : ℕ → List ℕ → List ℕ
enclosed n w = replicate n END ++ (w ++ END ∷ [])

-- Well-formed frames on the wire, each escaped, with its ENDs before and one after.
unfoldable pub sent : List Sent → List ℕ
sent [] = []
sent (f ∷ fs) = enclosed f.ends (escape f.bytes) ++ sent fs

-- The same, and n ENDs behind the last.
abbrev pub sent_then : List Sent → ℕ → List ℕ
sent_then fs n = sent fs ++ replicate n END
