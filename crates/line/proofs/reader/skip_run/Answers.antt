use Rattle.line.proofs.reader.Loop.{skips_front}
use Rattle.line.proofs.reader.skip_run.Goals as goal

pub returns : goal.returns
returns c = skips_front _ _ _ c.requires (rw c.first_end.ensures at c.unwrap_or.ensures)
