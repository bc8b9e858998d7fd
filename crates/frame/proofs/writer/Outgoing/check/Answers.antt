use Rattle.frame.specs.Xor.{◌⊕◌}
use Rattle.frame.proofs.writer.Outgoing.check.Goals as goal

pub returns : goal.returns
unfolding ◌⊕◌
returns c = rw (c.xor_all.ensures, c.xor_all-2.ensures, c.head.ensures)
