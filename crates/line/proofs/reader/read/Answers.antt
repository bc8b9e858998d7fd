use Rattle.line.proofs.reader.read.Goals as goal

pub returns : goal.returns
returns c = rw c.with_bytes.ensures (rw c.cursor_of.ensures at c.read_in-told.ensures)
