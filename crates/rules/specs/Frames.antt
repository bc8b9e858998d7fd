-- What the hub writes are frames as document 01 has them sent: END, the escaped frame, END, one behind another.
use Rattle.std.specs.Prelude.{ℕ, ◌≤◌, ◌≡◌, List, [], ◌∷◌, length}
use Rattle.frame.specs.Frame.{framed, max_data}
use Rattle.frame.proofs.JudgeLaws.{framed-accepted}
use Rattle.feeds.specs.Sent.{Sent, sent}

-- a frame of a command and no more than 250 data bytes, as a sender writes it: one END before it
abbrev pub as_sent : (c : ℕ) (d : List ℕ) → length d ≤ max_data → Sent
as_sent c d n = record { ends = 1; bytes = framed c d; command = c; content = d; accepted = framed-accepted c d n }

-- each has one END before it
abbrev pub OneEnd : List Sent → Type 0
OneEnd [] = Unit {0}
OneEnd (f ∷ fs) = (f.ends ≡ 1) × OneEnd fs

-- bytes that are well-formed frames, one behind another, each with an END before and after
pub record Frames (w : List ℕ) : Type 0 where
  pub frames : List Sent
  pub ends : OneEnd frames
  pub bytes : w ≡ sent frames
