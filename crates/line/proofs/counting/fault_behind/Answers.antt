use Rattle.std.proofs.Common.{◌∙◌, arith, rules}
use Rattle.line.proofs.CountingLaws.{held_most, escape_behind, long_behind}
use Rattle.line.proofs.counting.fault_behind.Goals as goal
use Rattle.line.proofs.counting.fault_behind.Goals.{in-WrongEscape, in-TooLong}

pub overflow_add-behind : goal.overflow_add-behind
overflow_add-behind c = let h = held_most _ _ _ (search rules) c.requires c.escapes.ensures in omega arith

pub overflow_add-wire : goal.overflow_add-wire
overflow_add-wire c = let h = held_most _ _ _ (search rules) c.requires c.escapes.ensures in omega arith

pub overflow_cast-wire : goal.overflow_cast-wire
overflow_cast-wire c =
    let h = held_most _ _ _ (search rules) c.requires c.escapes.ensures in
    elim c.match-fault.branch [ in-WrongEscape w ↦ omega arith | in-TooLong w ↦ omega arith ]

pub returns : goal.returns
returns c =
    c.fault_at.ensures
    ∙ elim c.match-fault.branch [
      | in-WrongEscape w ↦ rw (w.in-WrongEscape.is, w.wire-is) (escape_behind _ _ _ (search rules) c.requires c.escapes.ensures)
      | in-TooLong w ↦ rw (w.in-TooLong.is, w.wire-is) (long_behind _ _ _ (search rules) c.requires c.escapes.ensures)
    ]
