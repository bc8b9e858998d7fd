use Rattle.demands.specs.Steps.{enrols}
use Rattle.service.proofs.calls.enrol.Goals as goal

pub returns : goal.returns
returns c = enrols c.enrol.result c.enrol.ensures
