-- What the functions behind the reader answer.
use Rattle.std.specs.Prelude.{ℕ, ◌+◌, ◌*◌, ◌≤◌, ◌<◌, ◌≡◌, List, [], ◌∷◌, ◌++◌, Bool, cond, ◌&&◌, ◌||◌, length, take, drop, leb, eqb}
use Rattle.std.proofs.Math.Option.{Option, none, some}
use Rattle.line.specs.declared.Fault.{Fault}
use Rattle.line.specs.declared.Fault.TheVariants.{WrongEscape, TooLong}
use Rattle.line.specs.declared.Mode.{Mode}
use Rattle.line.specs.declared.Mode.TheVariants.{Plain, Escaped, Skipping}
use Rattle.line.specs.declared.PacketOutcome.{PacketOutcome as Given}
use Rattle.line.specs.declared.PacketOutcome.TheVariants.{Nothing, Packet, Refused}
use Rattle.line.specs.declared.Cursor.{Cursor}
use Rattle.line.specs.declared.Reading.{Reading}
use Rattle.line.specs.declared.AnswerAt.{AnswerAt}
use Rattle.line.specs.declared.step.Action.{Action}
use Rattle.line.specs.declared.step.Action.TheVariants.{Store, Keep, Settle, Skip, Refuse, Give}
use Rattle.line.specs.Scan.{ahead}
use Rattle.line.specs.Wire.{END, ESC}
use Rattle.line.specs.Places.{WirePlace, DecodedPlace, wire_at, FaultAt}
use Rattle.line.specs.Reader.{limit, refusal, wrong_escape, too_long, read, State, plain, skipping, emptied, Outcome, refused, decoded, close, step}
use Rattle.line.specs.Reachable.{possible}
use Rattle.line.specs.Answers.{at, taken_as, told, Clear}

-- `cursor_of`: where a reading stands, apart from its bytes
abbrev pub cursor_of : Reading → Cursor
cursor_of r = record { count = r.count; mode = r.mode }

-- `taken_at`: the state that a record of any bytes is taken as
pub record Takes (p r : Cursor) : Type 0 where
  pub state : (bs : List ℕ) → at (take r.count bs) r.mode ≡ taken_as bs p.count p.mode
  pub within : r.count ≤ limit
  pub clear : Clear r.mode r.count

-- `skipping_at`: the same of a record that skips
pub record SkipsAt (f : FaultAt) (r : Cursor) : Type 0 where
  pub state : (bs : List ℕ) → at (take r.count bs) r.mode ≡ cond (possible f) (skipping f) emptied
  pub count : r.count ≡ 0
  pub clear : Clear r.mode r.count

-- `told_at`: an answer from its parts
abbrev pub told_at : ℕ → Given → ℕ → Mode → AnswerAt Given
told_at n o k m = record { used = n; outcome = o; cursor = record { count = k; mode = m } }

-- `plain_run`: from the byte i on, k more bytes are read and stored, and the rest is as before
pub record Runs (m : Mode) (bs : List ℕ) (n : ℕ) (w : List ℕ) (i : ℕ) (cs : List ℕ) (k : ℕ) : Type 0 where
  pub read : read (at (take n bs) m) (drop i w) ≡ ahead k (read (at (take (n + k) cs) m) (drop (i + k) w))
  pub held : n + k ≤ limit
  pub within : i + k ≤ length w
  pub full : length cs ≡ limit
  pub clear : Clear m n → Clear m (n + k)

-- `skip_run`: from the byte i on, k more bytes are skipped, whatever the piece is settled for
pub record Skips (w : List ℕ) (i k : ℕ) : Type 0 where
  pub read : (f : FaultAt) → read (skipping f) (drop i w) ≡ ahead k (read (skipping f) (drop (i + k) w))
  pub within : i + k ≤ length w

-- `is_special`: C0 and DB
abbrev pub is_special : ℕ → Bool
is_special b = eqb b END || eqb b ESC

-- `wire_by`: a fault's wire place, by its decoded place, where each byte before it takes n wire bytes
abbrev pub wire_by : ℕ → Fault → DecodedPlace → WirePlace
wire_by n WrongEscape d = wire_at (n * d.0 + 1)
wire_by n TooLong d = wire_at (n * d.0)

-- `is_between`
abbrev pub between : WirePlace → WirePlace → WirePlace → Bool
between w l m = leb l.0 w.0 && leb w.0 m.0

-- `fault_behind`: where a fault is that the next byte meets behind the bytes held
abbrev pub fault_behind : Fault → List ℕ → FaultAt
fault_behind WrongEscape h = wrong_escape h
fault_behind TooLong h = too_long h

-- what an action makes of the bytes held
abbrev pub acted : List ℕ → Action → State × Option Outcome
acted h (Store v) = (plain (h ++ v ∷ []), none)
acted h (Keep m) = (at h m, none)
acted h (Settle f) = (skipping (fault_behind f h), none)
acted h (Skip f) = (skipping f, none)
acted h (Refuse f) = (emptied, some (refused (refusal (fault_behind f h))))
acted h (Give o) = (emptied, told o h)

-- a byte is stored only where there is room, and what is told lies within the bytes held
abbrev pub Fits : ℕ → Action → Type 0
Fits n (Store v) = n < limit
Fits n (Keep Plain) = Unit {0}
Fits n (Keep Escaped) = Unit {0}
Fits n (Keep (Skipping f)) = ⊥
Fits n (Settle f) = Unit {0}
Fits n (Skip f) = Unit {0}
Fits n (Refuse f) = Unit {0}
Fits n (Give Nothing) = ⊥
Fits n (Give (Packet k)) = k ≤ n
Fits n (Give (Refused f)) = Unit {0}

-- the action r does what x does, whatever n bytes are held
pub record Acts (n : ℕ) (x : List ℕ → State × Option Outcome) (r : Action) : Type 0 where
  pub act : (h : List ℕ) → length h ≡ n → acted h r ≡ x h
  pub fits : Fits n r

-- `decide`: the definition's step
abbrev pub stepping : Mode → ℕ → List ℕ → State × Option Outcome
stepping m b h = step (at h m) b

-- `close`: an END among whole bytes
abbrev pub closing : List ℕ → State × Option Outcome
closing h = (emptied, close (plain h))

-- `store`: one more decoded byte
abbrev pub storing : ℕ → List ℕ → State × Option Outcome
storing b h = (decoded h b, none)
