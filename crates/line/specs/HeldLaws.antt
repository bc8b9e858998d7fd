-- Every state that bytes leave is that of a record.
use Rattle.std.specs.Prelude.{ℕ, ◌-◌, ◌≤◌, ◌≡◌, refl, List, [], ◌++◌, length, replicate}
use Rattle.std.proofs.Common.{arith, length-append, le-ltb}
use Rattle.std.proofs.lemmas.List.{length-replicate}
use Rattle.std.proofs.Math.Seq.{take-append_seam}
use Rattle.line.specs.declared.Mode.{Mode}
use Rattle.line.specs.declared.Mode.TheVariants.{Plain, Escaped, Skipping}
use Rattle.line.specs.declared.Reading.{Reading}
use Rattle.line.specs.Reader.{limit, State, plain, escaped, skipping}
use Rattle.line.specs.Reachable.{Reachable}
use Rattle.line.specs.ReachableLaws.{possible_test}
use Rattle.line.specs.Answers.{taken, Clear}

-- a record with these bytes held, and zeros beyond
padded : List ℕ → Mode → Reading
padded h m = record { bytes = h ++ replicate (limit - length h) 0; count = length h; mode = m }

-- a record in a state
pub record_of : State → Reading
record_of (plain h) = padded h Plain
record_of (escaped h) = padded h Escaped
record_of (skipping f) = padded [] (Skipping f)

-- it is taken as that state
pub taken_record : (s : State) → Reachable s → taken (record_of s) ≡ s
unfolding record_of padded
taken_record (plain h) x = rw (le-ltb limit (length h) x, take-append_seam h (replicate (limit - length h) 0))
taken_record (escaped h) x = rw (le-ltb limit (length h) x, take-append_seam h (replicate (limit - length h) 0))
taken_record (skipping f) x = rw (possible_test f x)

-- it has 255 places, claims no more bytes, and none while it skips
padded_full : (h : List ℕ) → length h ≤ limit → length (h ++ replicate (limit - length h) 0) ≡ limit
padded_full h x = omega (arith, length-append h (replicate (limit - length h) 0), length-replicate {A = ℕ} (limit - length h) 0)

pub record_bounded : (s : State) → Reachable s
    → (length (record_of s).bytes ≡ limit) × ((record_of s).count ≤ limit) × Clear (record_of s).mode (record_of s).count
unfolding record_of padded
record_bounded (plain h) x = (padded_full h x, x, tt)
record_bounded (escaped h) x = (padded_full h x, x, tt)
record_bounded (skipping f) x = (padded_full [] (omega arith), omega arith, (refl, x))
