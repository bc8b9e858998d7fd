use Rattle.std.proofs.Common.{length, rules}
use Rattle.std.proofs.lemmas.List.{length-replicate}
use Rattle.transcript.specs.Replies.{filler}
use Rattle.transcript.proofs.world.Laws.{filled, filled-filler, plays_finish}
use Rattle.transcript.proofs.world.finish.Goals as goal

pub returns : goal.returns
returns c =
    let room = c.args.room.now in
    let f = rw (c.fill.ensures.after (λ y e. e)) at c.finish-finished.ensures in
    rw (← length-replicate (length room) filler)
    (plays_finish (filled room) (filled-filler room) c.args.run c.args.table.now c.args.session _ _ _ f (search rules))
