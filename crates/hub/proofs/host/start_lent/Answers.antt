use mathlib.Core.Path.{ap, ◌∙◌}
use borrow.Author.Tests.{eq-eqb, ne_eqb}
use Rattle.passwords.specs.Passwords.{stored}
use Rattle.hub.proofs.host.start_lent.Goals as goal

pub returns-then-table-ne-TABLE : goal.returns-then-table-ne-TABLE
returns-then-table-ne-TABLE c = simp (ne_eqb _ _ c.if-table-ne-TABLE.true)

pub returns-then-password-ne-PASSWORD : goal.returns-then-password-ne-PASSWORD
returns-then-password-ne-PASSWORD c = simp (eq-eqb _ _ c.if-table-ne-TABLE.false, ne_eqb _ _ c.if-password-ne-PASSWORD.true)

pub returns : goal.returns
returns c =
    let kept = c.stored-kept.ensures ∙ ap stored c.copy_from_slice.ensures.after in
    simp (eq-eqb _ _ c.if-table-ne-TABLE.false, eq-eqb _ _ c.if-password-ne-PASSWORD.false, c.empty.ensures, c.fresh.ensures, kept)
