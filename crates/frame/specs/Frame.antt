-- A frame's layout, the checks on a packet, and the wire form (document 01, "From packet to frame").
use Rattle.std.specs.Prelude.{ℕ, ◌+◌, ◌-◌, ◌*◌, ◌/◌, ◌%◌, ◌≤◌, List, [], ◌∷◌, ◌++◌, Bool, cond, length, take, drop, get_or, leb, eqb}
use Rattle.line.specs.Wire.{END}
use Rattle.line.specs.declared.Fault.TheVariants as fault
use Rattle.line.specs.Reader as line
use Rattle.line.specs.Reader.{limit}
use Rattle.frame.specs.declared.Cause.{Cause}
use Rattle.frame.specs.declared.Cause.TheVariants.{WrongEscape, TooLong, TooShort, WrongProtocol, BelowLength, BeyondLength, WrongCheck}
use Rattle.frame.specs.declared.PacketRefusal.{PacketRefusal}
use Rattle.frame.specs.Xor.{xor_all}
pub use Rattle.line.specs.Reader.{Refusal}
unfoldable pub use Rattle.line.specs.Wire.{escape}
pub use Rattle.line.specs.Places.{wire_at, decoded_at, places_at}
unfoldable pub use Rattle.line.specs.Places.{wire_length, on_wire, byte_at, behind}

-- the number of a packet refusal's cause; the line reader's faults have theirs. A frame shorter than its length byte claims keeps 5, a longer
-- one gets 15 (document 02, CR 2)
abbrev pub number : Cause → ℕ
number WrongEscape = line.number fault.WrongEscape
number TooLong = line.number fault.TooLong
number TooShort = 3
number WrongProtocol = 4
number BelowLength = 5
number BeyondLength = 15
number WrongCheck = 6

-- what a refusal tells: the cause's number, and where
abbrev pub refusal : PacketRefusal → Refusal
refusal r = record { number = number r.cause; at = r.at }

-- a packet refusal's number: 1 to 6, or 15
pub data Numbered : ℕ → Type 0 where
  low : {n : ℕ} → 1 ≤ n → n ≤ 6 → Numbered n
  longer : Numbered 15

pub data Outcome : Type 0 where
  frame : ℕ → List ℕ → Outcome
  refused : Refusal → Outcome

-- ---- layout

-- data are 0 to 250 bytes
abbrev pub max_data : ℕ
max_data = 250

-- four bytes stand before the data, five around them
abbrev pub head : ℕ
head = 4

abbrev pub around : ℕ
around = 5

-- before n data bytes: protocol byte 0, length L, command high byte first. L counts command, data and check byte
abbrev pub head_of : ℕ → ℕ → List ℕ
head_of c n = 0 ∷ (n + 3) ∷ c / 256 ∷ c % 256 ∷ []

-- the head, then the data
unfoldable pub body : ℕ → List ℕ → List ℕ
body c d = head_of c (length d) ++ d

-- the check byte is the exclusive or of all bytes before it
unfoldable pub framed : ℕ → List ℕ → List ℕ
framed c d = body c d ++ xor_all (body c d) ∷ []

-- a sender writes END, the escaped frame, END
unfoldable pub wire : ℕ → List ℕ → List ℕ
wire c d = END ∷ (escape (framed c d) ++ END ∷ [])

-- ---- the checks on a packet h

-- the length that the length byte claims for the whole frame: L + 2
abbrev pub claimed : List ℕ → ℕ
claimed h = get_or h 1 0 + 2

-- Each refusal with both places. Of a byte, the wire place is that in the packet's one escaped form, and an escaped byte's is its ESC's. The
-- 256th byte:
unfoldable pub too_long : List ℕ → Refusal
too_long h = record { number = number TooLong; at = byte_at h (decoded_at limit) }

-- a short packet: the END, decoded place the count
unfoldable pub too_short : List ℕ → Refusal
too_short h = record { number = number TooShort; at = behind h }

-- the protocol byte
unfoldable pub wrong_protocol : List ℕ → Refusal
wrong_protocol h = record { number = number WrongProtocol; at = byte_at h (decoded_at 0) }

-- a frame shorter than claimed: the END, decoded place the count
unfoldable pub below_length : List ℕ → Refusal
below_length h = record { number = number BelowLength; at = behind h }

-- a frame longer than claimed: the first byte too many
unfoldable pub beyond_length : List ℕ → Refusal
beyond_length h = record { number = number BeyondLength; at = byte_at h (decoded_at (claimed h)) }

-- the check byte
unfoldable pub wrong_check : List ℕ → Refusal
wrong_check h = record { number = number WrongCheck; at = byte_at h (decoded_at (length h - 1)) }

abbrev pub command_of : List ℕ → ℕ
command_of h = get_or h 2 0 * 256 + get_or h 3 0

abbrev pub data_of : List ℕ → List ℕ
data_of h = take (length h - around) (drop head h)

-- a check is passed, or the packet is refused
abbrev pub pass : Bool → Refusal → Outcome → Outcome
pass t n o = cond t o (refused n)

-- checks in this order: short, protocol, length (5 and 15 together), check byte. More than 255 bytes, which the line reader never gives, are refusal 2
unfoldable pub judge : List ℕ → Outcome
judge h =
    pass (leb (length h) limit) (too_long h)
    (pass (leb around (length h)) (too_short h)
    (pass (eqb (get_or h 0 0) 0) (wrong_protocol h)
    (pass (leb (claimed h) (length h)) (below_length h)
    (pass (leb (length h) (claimed h)) (beyond_length h)
    (pass (eqb (get_or h (length h - 1) 0) (xor_all (take (length h - 1) h))) (wrong_check h)
    (frame (command_of h) (data_of h)))))))
