use Rattle.transcript.proofs.world.first.Goals as goal

pub returns : goal.returns
returns c = rw (c.first.ensures, c.emptied.ensures)
