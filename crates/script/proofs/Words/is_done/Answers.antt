use Rattle.script.specs.WordLaws.{ended_by}
use Rattle.script.proofs.Words.is_done.Goals as goal

pub returns : goal.returns
returns c = ended_by c.args.self.now.line.now c.args.self.now.from
