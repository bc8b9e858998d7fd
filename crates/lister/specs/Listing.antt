-- The listing of a capture (document 01, "Bytes to try"): a line per outcome, then the wire bytes since the last END.
use Rattle.std.specs.Prelude.{ℕ, suc, ◌-◌, ◌^◌, min, List, [], ◌∷◌, ◌++◌, cond, length, eqb}
use Rattle.frame.specs.Frame.{Outcome, frame, refused}
use Rattle.frame.specs.Reader.{END, emptied, outcomes, step}
use Rattle.lister.specs.Lines.{frame_line, refused_line, left_line}

-- the line of an outcome
abbrev pub outcome_line : Outcome → List ℕ
outcome_line (frame c d) = frame_line c (length d)
outcome_line (refused r) = refused_line r.number r.at

unfoldable pub lines : List Outcome → List ℕ
lines [] = []
lines (o ∷ os) = outcome_line o ++ lines os

-- the wire bytes since the last END, where k stood before: an END starts the count anew
unfoldable pub left_after : ℕ → List ℕ → ℕ
left_after k [] = k
left_after k (b ∷ w) = left_after (cond (eqb b END) 0 (suc k)) w

-- a count as far as 64 bits hold it
abbrev pub capped : ℕ → ℕ
capped n = min n (2 ^ 64 - 1)

-- the whole listing of a capture
unfoldable pub listing : List ℕ → List ℕ
listing w = lines (outcomes step emptied w) ++ left_line (left_after 0 w)
