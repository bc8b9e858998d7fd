use Rattle.std.proofs.Common.{ℕ}
use Rattle.std.proofs.lemmas.List.{length-replicate}
use Rattle.text.specs.BuiltLaws.{built_none, built_text}
use Rattle.report.specs.State.{slot_size}
use Rattle.report.proofs.slots.slot_line.Goals as goal

pub put_slot-requires : goal.put_slot-requires
put_slot-requires c = built_none _ slot_size (length-replicate {A = ℕ} slot_size 0)

pub returns : goal.returns
returns c = rw (c.written.ensures, built_text c.put_slot.ensures) at c.append.ensures
