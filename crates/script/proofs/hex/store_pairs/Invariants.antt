use Rattle.std.proofs.Common.{◌*◌, ◌≡◌, take, drop}
use Rattle.memory.specs.Wrote.{Wrote}
use Rattle.script.specs.Script.{all_hex, pairs}
use Rattle.script.proofs.hex.store_pairs.Given as goal

-- The bytes of the first i pairs are stored, and nothing else is; all digits before them are some.
abbrev pub invariant-loop-i : goal.invariant-loop-i
invariant-loop-i l = Wrote l.initial.out 0 (take l.i (pairs l.text)) l.out l.i × (all_hex l.text ≡ all_hex (drop (2 * l.i) l.text))
