use Rattle.sessions.specs.Sessions.{mode_send_size}
use Rattle.rules.specs.Hub.{password_size, change_size, request}
use Rattle.directory.specs.DirectoryLaws.{fits_fixed}
use Rattle.directory.specs.Lookup.{find}
use Rattle.directory.specs.Directory.{directory}
use Rattle.requests.proofs.decide.Laws.{failed_decides, entered_decides, changed_decides, varied_decides, named_decides, placed_decides, removed_decides, zeroed_decides, sent_decides}
use borrow.Author.Tests.{ne_eqb}
use native.Mathlib.Omega.{arith}
use mathlib.Core.Path.{refl}
use Rattle.requests.proofs.decide.request.Goals as goal

pub password_status-requires : goal.password_status-requires
unfolding find directory
password_status-requires c =
    let n = fits_fixed 0x3000 password_size _ refl (rw c.in-12288.is at c.requires) in
    omega (arith, n)

pub password_status-requires-in-12290 : goal.password_status-requires-in-12290
unfolding find directory
password_status-requires-in-12290 c =
    let n = fits_fixed 0x3002 change_size _ refl (rw c.in-12290.is at c.requires) in
    omega (arith, n)

pub bounds-payload-0 : goal.bounds-payload-0
unfolding find directory
bounds-payload-0 c =
    let n = fits_fixed 0x0200 1 _ refl (rw c.in-512.is at c.requires) in
    omega (arith, n)

pub set_variation-requires : goal.set_variation-requires
unfolding find directory
set_variation-requires c = fits_fixed 0x0206 2 _ refl (rw c.in-518.is at c.requires)

pub bounds-payload-0-in-520 : goal.bounds-payload-0-in-520
unfolding find directory
bounds-payload-0-in-520 c =
    let n = fits_fixed 0x0208 65 _ refl (rw c.in-520.is at c.requires) in
    omega (arith, n)

pub bounds-payload-0-in-525 : goal.bounds-payload-0-in-525
unfolding find directory
bounds-payload-0-in-525 c =
    let n = fits_fixed 0x020D 4 _ refl (rw c.in-525.is at c.requires) in
    omega (arith, n)

pub mode_send_of-requires : goal.mode_send_of-requires
unfolding find directory
mode_send_of-requires c = fits_fixed 0x0320 mode_send_size _ refl (rw c.in-800.is at c.requires)

pub returns-in-12288 : goal.returns-in-12288
unfolding request find directory
returns-in-12288 c = rw (c.in-12288.is, c.password_status.ensures) (entered_decides _ _ _ _ (fits_fixed 0x3000 password_size _ refl (rw c.in-12288.is at c.requires)))

pub returns-in-12290 : goal.returns-in-12290
unfolding request find directory
returns-in-12290 c = rw (c.in-12290.is, c.password_status-in-12290.ensures) (changed_decides _ _ _ _ (fits_fixed 0x3002 change_size _ refl (rw c.in-12290.is at c.requires)))

pub returns-in-512 : goal.returns-in-512
unfolding request
returns-in-512 c = rw c.in-512.is (record { says = refl; left = refl; enough = tt })

pub returns-in-518 : goal.returns-in-518
unfolding request
returns-in-518 c = rw (c.in-518.is, c.set_variation.ensures) (varied_decides _ _ _ _)

pub returns-in-520 : goal.returns-in-520
unfolding request find directory
returns-in-520 c =
    let n = fits_fixed 0x0208 65 _ refl (rw c.in-520.is at c.requires) in
    rw (c.in-520.is, c.set_name.ensures) (named_decides _ _ _ _ (omega (arith, n)))

pub returns-in-525 : goal.returns-in-525
unfolding request find directory
returns-in-525 c =
    let n = fits_fixed 0x020D 4 _ refl (rw c.in-525.is at c.requires) in
    rw (c.in-525.is, c.set_order_and_placement.ensures) (placed_decides _ _ _ _ (omega (arith, n)))

pub returns-in-262 : goal.returns-in-262
unfolding request
returns-in-262 c = rw c.in-262.is (removed_decides _ _ _ _)

pub returns-in-264 : goal.returns-in-264
unfolding request
returns-in-264 c = rw c.in-264.is (zeroed_decides _ _ _ _)

pub returns-in-800 : goal.returns-in-800
unfolding request find directory
returns-in-800 c = rw (c.in-800.is, c.mode_send.ensures, c.mode_send_of.ensures) (sent_decides _ _ _ _ (fits_fixed 0x0320 mode_send_size _ refl (rw c.in-800.is at c.requires)))

pub returns-in_default : goal.returns-in_default
unfolding request
returns-in_default c =
    let n = c.in_default.in_default-own.rest in
    rw (ne_eqb _ _ n.0.0.0.0.0.0.0.0.1, ne_eqb _ _ n.0.0.0.0.0.0.0.1, ne_eqb _ _ n.0.0.0.0.0.0.1, ne_eqb _ _ n.0.0.0.0.0.1, ne_eqb _ _ n.0.0.0.0.1, ne_eqb _ _ n.0.0.0.1, ne_eqb _ _ n.0.0.1, ne_eqb _ _ n.0.1, ne_eqb _ _ n.1) (failed_decides _ _ _ _ _)
