use borrow.Author.Tests.{lt-ltb, le-ltb}
use mathlib.Core.Option.{none-ne-some}
use mathlib.Core.Path.{refl}
use native.Mathlib.Omega.{arith}
use Rattle.rules.specs.Hub.{line_count}
use Rattle.hub.proofs.closing.close_record.Goals as goal

pub returns-in-Err : goal.returns-in-Err
returns-in-Err c =
    let (wrong, above) = c.in-Err.ensures in
    let e = le-ltb c.args.line line_count above in
    record { refusal = rw (wrong, e); hub = rw e; state = rw e; kept = λ n z. refl; bounded = tt }

pub returns-in-Ok : goal.returns-in-Ok
returns-in-Ok c =
    let e = lt-ltb c.in-Ok.line.number line_count c.in-Ok.line.one_of_four in
    rw (← c.in-Ok.ensures, c.emptied.ensures, c.closed_line.ensures) (record { refusal = rw e; hub = rw e; state = rw e; kept = λ n z. absurd (none-ne-some n z); bounded = (refl, omega arith, tt) })
