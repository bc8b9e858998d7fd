-- What a lent record is taken as, and what a call of the reader promises.
use Rattle.std.specs.Prelude.{ℕ, ◌≤◌, ◌≡◌, List, [], ◌++◌, cond, take, replicate, ltb}
use Rattle.std.proofs.Math.Option.{Option, none, some}
use Rattle.line.specs.declared.Mode.{Mode}
use Rattle.line.specs.declared.Mode.TheVariants.{Plain, Escaped, Skipping}
use Rattle.line.specs.declared.Reading.{Reading}
use Rattle.line.specs.declared.PacketOutcome.{PacketOutcome as Given}
use Rattle.line.specs.declared.PacketOutcome.TheVariants.{Nothing, Packet, Refused}
use Rattle.line.specs.declared.Answer.{Answer}
use Rattle.line.specs.declared.AnswerAt.{AnswerAt}
use Rattle.line.specs.Scan.{Scan, also}
use Rattle.line.specs.Reader.{limit, refusal, State, plain, escaped, skipping, emptied, Outcome, packet, refused, read}
use Rattle.line.specs.Reachable.{Possible, possible}

-- the state of h bytes held in a mode; while a settled piece is skipped, none are
abbrev pub at : List ℕ → Mode → State
at h Plain = plain h
at h Escaped = escaped h
at h (Skipping f) = skipping f

-- A record that no bytes could leave is taken as emptied, but for document 01's cases. So one that claims more than 255 is emptied; else
-- one that skips is skipping with none, whatever it claims, unless the places of its fault are impossible.
abbrev pub held_as : List ℕ → Mode → State
held_as h Plain = plain h
held_as h Escaped = escaped h
held_as h (Skipping f) = cond (possible f) (skipping f) emptied

abbrev pub taken_as : List ℕ → ℕ → Mode → State
taken_as bs n m = cond (ltb limit n) emptied (held_as (take n bs) m)

abbrev pub taken : Reading → State
taken r = taken_as r.bytes r.count r.mode

-- the record of a reading between packets
abbrev pub emptied_reading : Reading
emptied_reading = record { bytes = replicate limit 0; count = 0; mode = Plain }

-- the outcome that an answer tells; a packet's bytes are the first ones of the record's array
abbrev pub told : Given → List ℕ → Option Outcome
told Nothing bs = none
told (Packet n) bs = some (packet (take n bs))
told (Refused f) bs = some (refused (refusal f))

abbrev pub seen : Answer Given → Scan State Outcome
seen r = record { used = r.used; outcome = told r.outcome r.reading.bytes; after = taken r.reading }

-- a packet is no longer than the array
abbrev pub Within : Given → Type 0
Within Nothing = Unit {0}
Within (Packet n) = n ≤ limit
Within (Refused f) = Unit {0}

-- a record that skips claims no bytes, and its fault has places that some bytes leave
abbrev pub Clear : Mode → ℕ → Type 0
Clear Plain n = Unit {0}
Clear Escaped n = Unit {0}
Clear (Skipping f) n = (n ≡ 0) × Possible f

-- The promise of a call: r tells what the definition x gives, and each count in it lies within the array.
-- Left to the program: the array's places beyond the bytes held and, where a packet is told, beyond the packet's.
pub record Answers (x : Scan State Outcome) (r : Answer Given) : Type 0 where
  pub told : seen r ≡ x
  pub packet_within : Within r.outcome
  pub count_within : r.reading.count ≤ limit
  pub clear : Clear r.reading.mode r.reading.count

-- the answer with the bytes that it lies apart from
abbrev pub answer_of : {O : Type 0} → List ℕ → AnswerAt O → Answer O
answer_of bs t = record { used = t.used; outcome = t.outcome; reading = record { bytes = bs; count = t.cursor.count; mode = t.cursor.mode } }

-- Calls one after another: each is lent a record that is taken as the one before left it, and some bytes. Told of them
-- are the bytes used in all, the outcomes and the last record.
pub data Calls : Reading → List ℕ → List Outcome → Reading → Type 0 where
  done : {s : Reading} → Calls s [] [] s
  next : {s t e : Reading} {u : List ℕ} {os : List Outcome} (w : List ℕ) (r : Answer Given)
      → Answers (read (taken s) w) r → taken t ≡ taken r.reading → Calls t u os e
      → Calls s (take r.used w ++ u) (also (told r.outcome r.reading.bytes) os) e
