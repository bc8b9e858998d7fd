-- What the code's records and answers come to: the states that they are taken as, and answers in parts.
use Rattle.std.specs.Prelude.{ℕ, ◌≤◌, ◌≡◌, refl, Bool, true, false, cond, List, length, take, ltb}
use Rattle.std.proofs.Common.{sym, arith, length-take, length-take-le, ltb-false, le-ltb}
use Rattle.line.specs.declared.Mode.{Mode}
use Rattle.line.specs.declared.Mode.TheVariants.{Plain, Escaped, Skipping}
use Rattle.line.specs.declared.Reading.{Reading}
use Rattle.line.specs.declared.PacketOutcome.{PacketOutcome}
use Rattle.line.specs.declared.Answer.{Answer}
use Rattle.line.specs.declared.AnswerAt.{AnswerAt}
use Rattle.line.specs.Scan.{final}
use Rattle.line.specs.Reader.{limit, skipping, emptied, held, step, read}
use Rattle.line.specs.Reachable.{Reachable, possible, written}
use Rattle.line.specs.ReachableLaws.{possible-true, possible_test, reachable_written}
use Rattle.line.specs.Answers.{at, held_as, taken_as, taken, emptied_reading, told, seen, Clear, Answers, answer_of}
use Rattle.line.specs.Step.{cursor_of}
use Rattle.line.specs.Lent.{told_of, ReadsPacket}

-- ---- records

-- the emptied record is taken as the state between packets
pub emptied-taken : taken emptied_reading ≡ emptied
emptied-taken = refl

-- a record is taken by its bytes and its cursor
pub cursor_taken : (r : Reading) → taken_as r.bytes (cursor_of r).count (cursor_of r).mode ≡ taken r
cursor_taken r = refl

-- a clear record claims as many bytes as its state holds
pub clear_held : (bs : List ℕ) (n : ℕ) (m : Mode) → n ≤ length bs → Clear m n → length (held (at (take n bs) m)) ≡ n
clear_held bs n Plain h x = length-take-le n bs h
clear_held bs n Escaped h x = length-take-le n bs h
clear_held bs n (Skipping f) h x = sym x.0

-- it is taken at its word
held_as_clear : (h : List ℕ) (n : ℕ) (m : Mode) → Clear m n → held_as h m ≡ at h m
held_as_clear h n Plain x = refl
held_as_clear h n Escaped x = refl
held_as_clear h n (Skipping f) x = rw (possible_test f x.1)

pub taken_clear : (bs : List ℕ) (n : ℕ) (m : Mode) → n ≤ limit → Clear m n → taken_as bs n m ≡ at (take n bs) m
taken_clear bs n m h x = rw (le-ltb limit n h) (held_as_clear (take n bs) n m x)

-- and its state is one that bytes leave
pub clear_reachable : (bs : List ℕ) (n : ℕ) (m : Mode) → n ≤ limit → Clear m n → Reachable (at (take n bs) m)
clear_reachable bs n Plain h x = simp length-take (omega arith)
clear_reachable bs n Escaped h x = simp length-take (omega arith)
clear_reachable bs n (Skipping f) h x = x.1

-- every record is taken as a state that bytes leave
held_as_reachable : (h : List ℕ) (m : Mode) → length h ≤ limit → Reachable (held_as h m)
held_as_reachable h Plain x = x
held_as_reachable h Escaped x = x
held_as_reachable h (Skipping f) x = go (possible f) refl
  where
    go : (t : Bool) → possible f ≡ t → Reachable (cond t (skipping f) emptied)
    go true e = possible-true f e
    go false e = omega arith

pub taken_reachable : (r : Reading) → Reachable (taken r)
taken_reachable r = go (ltb limit r.count) refl
  where
    go : (t : Bool) → ltb limit r.count ≡ t → Reachable (cond t emptied (held_as (take r.count r.bytes) r.mode))
    go true e = omega arith
    go false e = held_as_reachable (take r.count r.bytes) r.mode (simp length-take (omega (arith, ltb-false)))

-- these: those of an open piece, read from between packets
pub taken-written : (r : Reading) → final step emptied (written (taken r)) ≡ taken r
taken-written r = reachable_written (taken r) (taken_reachable r)

-- ---- an answer in parts

-- bytes that lie apart from an answer tell its packet and its state
pub apart_seen : (bs : List ℕ) (t : AnswerAt PacketOutcome)
    → seen (answer_of bs t) ≡ record { used = t.used; outcome = told t.outcome bs; after = taken_as bs t.cursor.count t.cursor.mode }
apart_seen bs t = refl

-- a call by value whose record is put back is a call on the lent record
pub packet_lent : (s : Reading) (w : List ℕ) (a : Answer PacketOutcome) → Answers (read (taken s) w) a → ReadsPacket s w (told_of a) a.reading
packet_lent s w a x = x
