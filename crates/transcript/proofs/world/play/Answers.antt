use borrow.Author.Rules.{rules}
use Rattle.transcript.proofs.world.play.Goals as goal

pub made-requires : goal.made-requires
made-requires c = (c.parse-call.ensures.within, search rules)

pub returns : goal.returns
returns c = rw c.parse-call.ensures.line at c.made.ensures
