use Rattle.demands.specs.Steps.{starts}
use Rattle.service.proofs.calls.start.Goals as goal

pub returns : goal.returns
returns c = starts c.start-made.result.answer c.start-made.ensures
