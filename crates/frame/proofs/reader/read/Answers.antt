use Rattle.frame.proofs.reader.read.Goals as goal

pub returns : goal.returns
returns c = rw c.with_bytes.ensures c.read_in-told.ensures
