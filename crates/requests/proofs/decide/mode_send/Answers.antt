use Rattle.requests.proofs.decide.mode_send.Goals as goal

pub returns : goal.returns
returns c = rw (c.from-status.ensures, c.status.ensures)
