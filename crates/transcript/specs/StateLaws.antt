-- What a reading shows where it is taken at some place.
use Rattle.std.specs.Prelude.{ℕ, ◌≡◌, refl, List, take}
use Rattle.line.specs.declared.Mode.{Mode}
use Rattle.line.specs.declared.Mode.TheVariants as mode
use Rattle.frame.specs.Line.{Clear}
use Rattle.frame.specs.Reader.{held, at}
use Rattle.transcript.specs.State.{mode_of}

pub held_at : (bs : List ℕ) (n : ℕ) (m : Mode) → Clear m n → held (at (take n bs) m) ≡ take n bs
held_at bs n mode.Plain c = refl
held_at bs n mode.Escaped c = refl
held_at bs n (mode.Skipping f) c = rw c.0

pub mode_of_at : (h : List ℕ) (m : Mode) → mode_of (at h m) ≡ m
unfolding mode_of
mode_of_at h mode.Plain = refl
mode_of_at h mode.Escaped = refl
mode_of_at h (mode.Skipping f) = refl
