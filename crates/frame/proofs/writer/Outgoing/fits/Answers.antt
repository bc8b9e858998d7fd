use Rattle.std.specs.Prelude.{◌≤◌, length}
use Rattle.std.proofs.Common.{arith, le-leb}
use Rattle.frame.specs.Frame.{wire}
use Rattle.frame.specs.WireLaws.{wire_short}
use Rattle.frame.proofs.writer.Outgoing.fits.Goals as goal

pub returns-then-self-space : goal.returns-then-self-space
returns-then-self-space c =
    let frame = c.args.self in
    let h = c.if-self-space.true in
    let enough : length (wire frame.command frame.payload.now) ≤ c.args.space = omega (arith, wire_short frame.command frame.payload.now) in
    rw (le-leb _ _ h, le-leb _ _ enough)
