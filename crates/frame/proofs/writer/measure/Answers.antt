use Rattle.std.specs.Prelude.{◌≤◌, ◌≡◌, Err, length}
use Rattle.std.proofs.Common.{ap, ◌∙◌, rules, lt-ltb, le-ltb}
use Rattle.frame.specs.Frame.{max_data}
use Rattle.frame.specs.Writer.{up_to, measured}
use Rattle.frame.proofs.writer.measure.Goals as goal

pub returns-in_err-new : goal.returns-in_err-new
unfolding measured
returns-in_err-new c =
    let refused : c.from_residual.result ≡ Err c.in_err-new.field-0.0 = search rules in
    rw (refused, lt-ltb _ _ c.in_err-new.ensures)

pub returns : goal.returns
unfolding measured
returns c =
    let frame = c.in_ok-new.field-0 in
    let (command, payload) = c.in_ok-new.ensures in
    let few : length c.args.payload.now ≤ max_data = rw payload at frame.fits_frame in
    rw (le-ltb _ _ few) (ap up_to (c.wire_len.ensures ∙ rw (command, payload)))
