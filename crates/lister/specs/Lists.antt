-- What a call that lists some bytes promises.
use Rattle.std.specs.Prelude.{ℕ, ◌+◌, ◌≤◌, ◌<◌, ◌≡◌, List, [], ◌++◌, ◌⊎◌, length, take, drop}
use Rattle.line.specs.declared.Cursor.{Cursor}
use Rattle.frame.specs.Line.{limit, Clear}
use Rattle.frame.specs.declared.FrameOutcome.{FrameOutcome as Given}
use Rattle.frame.specs.declared.FrameOutcome.TheVariants as given
use Rattle.frame.specs.Frame.{number}
use Rattle.frame.specs.Reader.{State, taken, outcomes, final, step}
use Rattle.lister.specs.Lines.{frame_line, refused_line, left_line, LINE}
use Rattle.text.specs.Appended.{appended, Leaves}
use Rattle.text.specs.Page.{Writes}
use Rattle.text.specs.declared.page.Page.{Page}
use Rattle.lister.specs.declared.Listed.{Listed}
use Rattle.lister.specs.Listing.{lines, left_after, capped}

-- the line of what a call of the frame layer tells, if it tells an outcome
abbrev pub given_line : Given → List ℕ
given_line given.Nothing = []
given_line (given.Frame c n) = frame_line c n
given_line (given.Refused r) = refused_line (number r.cause) r.at

-- `outcome_line`: it is appended, and is no longer than any line
pub record OutcomeLine (o : Given) (old new : Page) : Type 0 where
  pub line : Writes (given_line o) old new
  pub short : length (given_line o) ≤ LINE

-- `answer`: an answer from its parts
abbrev pub listed_of : List ℕ → Cursor → ℕ → List ℕ → ℕ → ℕ → Listed
listed_of bs p k w at n = record {
  used = at;
  written = n;
  reading = record { bytes = bs; count = p.count; mode = p.mode };
  left = capped (left_after k (take at w));
}

-- From the state s, with k bytes since the last END: r and the room `after` tell what the bytes used give.
-- The record given back claims no more bytes than its array has, and none while it skips, whatever the lent one claimed.
-- Left to the program: how many bytes it uses; it stops only at the end of the bytes or where a line might not fit. And the
-- array's places beyond the bytes held; it stays 255 long.
pub record Lists (s : State) (k : ℕ) (w before after : List ℕ) (r : Listed) : Type 0 where
  pub within : r.used ≤ length w
  pub written : r.written ≡ length (lines (outcomes step s (take r.used w)))
  pub fits : r.written ≤ length before
  pub text : after ≡ lines (outcomes step s (take r.used w)) ++ drop r.written before
  pub reading : taken r.reading ≡ final step s (take r.used w)
  pub count_within : r.reading.count ≤ limit
  pub clear : Clear r.reading.mode r.reading.count
  pub full : length r.reading.bytes ≡ limit
  pub left : r.left ≡ capped (left_after k (take r.used w))
  pub stops : (r.used ≡ length w) ⊎ (length before < r.written + LINE)

-- The last line stands at the front of the room, whole or not at all, and what stood behind it stays.
pub record LastLine (k : ℕ) (before after : List ℕ) (n : ℕ) : Type 0 where
  pub line : Leaves (appended before 0 (left_line k)) after n
  pub within : n ≤ length before

-- Calls one after another, each from the state and the count that the last one left: of the bytes used in all and the text written in all.
pub data Calls : State → ℕ → List ℕ → List ℕ → State → ℕ → Type 0 where
  done : {s : State} {k : ℕ} → Calls s k [] [] s k
  next : {s e : State} {k j : ℕ} {u text : List ℕ} (w before after : List ℕ) (r : Listed)
      → Lists s k w before after r → Calls (taken r.reading) r.left u text e j
      → Calls s k (take r.used w ++ u) (take r.written after ++ text) e j
