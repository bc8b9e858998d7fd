use Rattle.frame.proofs.reader.Laws.{answered}
use Rattle.frame.proofs.reader.read_in.Goals as goal

pub returns : goal.returns
returns c = answered _ _ _ c.read_in-told.result _ c.read_in-told.ensures c.judge_in.ensures
