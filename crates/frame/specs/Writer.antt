-- What writing promises.
use Rattle.std.specs.Prelude.{ℕ, ◌+◌, ◌≡◌, List, ◌++◌, Result, Ok, Err, cond, length, take, drop, ltb}
use Rattle.frame.specs.declared.LongData.{LongData}
use Rattle.frame.specs.declared.WriteRefusal.{WriteRefusal}
use Rattle.frame.specs.declared.WriteRefusal.TheVariants as refusal
use Rattle.frame.specs.Xor.{◌⊕◌, xor_all}
use Rattle.frame.specs.Frame.{head_of, wire, max_data}

-- room in which every frame fits: 255 bytes, each doubled, and two ENDs. It is a bound: the protocol byte 0 is never doubled
abbrev pub room_for_any : ℕ
room_for_any = 512

-- document 01's numbers of the writer's refusals
abbrev pub short_room : ℕ
short_room = 9

abbrev pub long_data : ℕ
long_data = 10

-- what writing comes to: the room written up to a place, a refusal by its number, or, at an offset only, that the room from there on is
-- too short, for which document 01 has no number
pub data Writing : Type 0 where
  up_to : ℕ → Writing
  refused : ℕ → Writing
  no_fit : Writing

-- what the code's answers tell
abbrev pub told : Result ℕ WriteRefusal → Writing
told (Ok n) = up_to n
told (Err refusal.ShortRoom) = refused short_room
told (Err refusal.LongData) = refused long_data

abbrev pub told_at : Result ℕ WriteRefusal → Writing
told_at (Ok n) = up_to n
told_at (Err refusal.ShortRoom) = no_fit
told_at (Err refusal.LongData) = refused long_data

abbrev pub told_length : Result ℕ LongData → Writing
told_length (Ok n) = up_to n
told_length (Err e) = refused long_data

-- what a call that writes comes to, and the room that it leaves
pub record Wire : Type 0 where
  pub answer : Writing
  pub room : List ℕ

-- refusal 10 for data above 250, then 9 for room shorter than the wire form, nothing written; else the wire form, and what stood behind it
unfoldable pub write : List ℕ → ℕ → List ℕ → Wire
write room c d =
    cond (ltb max_data (length d)) (record { answer = refused long_data; room = room })
    (cond (ltb (length room) (length (wire c d))) (record { answer = refused short_room; room = room })
    (record { answer = up_to (length (wire c d)); room = wire c d ++ drop (length (wire c d)) room }))

-- the same from the place i on, in room of any length: it is written whole or not at all
unfoldable pub write_at : List ℕ → ℕ → ℕ → List ℕ → Wire
write_at room i c d =
    cond (ltb max_data (length d)) (record { answer = refused long_data; room = room })
    (cond (ltb (length room) (i + length (wire c d))) (record { answer = no_fit; room = room })
    (record { answer = up_to (i + length (wire c d)); room = take i room ++ wire c d ++ drop (i + length (wire c d)) room }))

-- how much room a frame takes: refusal 10, else the wire form's length
unfoldable pub measured : ℕ → List ℕ → Writing
measured c d = cond (ltb max_data (length d)) (refused long_data) (up_to (length (wire c d)))

-- what an answer tells and a room are the definition's
pub record Writes (x : Wire) (r : Writing) (l : List ℕ) : Type 0 where
  pub answer : r ≡ x.answer
  pub room : l ≡ x.room

-- the check byte, from the head's and the data's
abbrev pub check : ℕ → List ℕ → ℕ
check c d = xor_all (head_of c (length d)) ⊕ xor_all d
