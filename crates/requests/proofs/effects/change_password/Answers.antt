use mathlib.Core.Path.{◌≡◌, ap, ◌∙◌}
use native.Mathlib.Omega.{arith}
use lib.ListN.{length, drop, length-drop}
use lib.Seq.{take_all}
use borrow.Author.Tests.{eq-eqb, ne_eqb}
use Rattle.passwords.specs.Passwords.{stored}
use Rattle.rules.specs.Hub.{password_size}
use Rattle.requests.proofs.effects.change_password.Goals as goal

pub returns-then-status : goal.returns-then-status
returns-then-status c =
    let a = c.args in
    let new = drop password_size a.payload.now in
    let half : length new ≡ password_size = length-drop password_size a.payload.now ∙ omega (arith, c.requires) in
    let bytes : c.stored-kept.result ≡ stored new = c.stored-kept.ensures ∙ ap stored (c.password_at-sent.ensures ∙ take_all password_size new (omega arith)) in
    simp (eq-eqb _ _ c.if-status.true) bytes

pub returns-else-status : goal.returns-else-status
returns-else-status c = simp (ne_eqb _ _ c.if-status.false)
