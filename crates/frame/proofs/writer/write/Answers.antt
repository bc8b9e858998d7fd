use Rattle.std.proofs.Common.{ap, ◌∙◌}
use Rattle.frame.specs.WireLaws.{numbered, told-numbered, write-placed}
use Rattle.frame.proofs.writer.write.Goals as goal

pub returns : goal.returns
returns c =
    let w = c.write_at.ensures in
    rw (write-placed c.args.room.now c.args.command c.args.payload.now)
    (record { answer = told-numbered c.write_at.result ∙ ap numbered w.answer; room = w.room })
