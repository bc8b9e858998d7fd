use Rattle.rules.proofs.logins.is_logged_in.Goals as goal

pub returns : goal.returns
returns c = rw (c.byte.ensures, c.from.ensures)
