use Rattle.replies.specs.ReplyLaws.{one_written}
use Rattle.replies.proofs.writing.one.Goals as goal

pub returns : goal.returns
returns c = one_written _ _ c.requires _ _ _ c.write.ensures
