use Rattle.std.proofs.Common.{take}
use Rattle.memory.specs.Wrote.{Wrote}
use Rattle.text.specs.Bytes.{hex_pairs}
use Rattle.text.proofs.bytes.hex_pairs.Given as goal

-- The digits of the bytes so far are stored, and nothing else is.
abbrev pub invariant-loop-byte : goal.invariant-loop-byte
invariant-loop-byte l = Wrote l.initial.out l.at (hex_pairs (take l.byte-index l.bytes)) l.out l.place
