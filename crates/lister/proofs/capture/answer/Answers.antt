use Rattle.lister.proofs.capture.answer.Goals as goal

pub returns : goal.returns
returns c = rw c.left_after.ensures
