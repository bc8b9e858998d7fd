use Rattle.std.proofs.Common.{length, rules}
use Rattle.std.proofs.lemmas.List.{length-replicate}
use Rattle.transcript.specs.Replies.{filler}
use Rattle.transcript.proofs.world.Laws.{filled, filled-filler, plays_feed}
use Rattle.transcript.proofs.world.feed.Goals as goal

pub returns : goal.returns
returns c =
    let room = c.args.room.now in
    let f = rw (c.fill.ensures.after (λ y e. e), c.record_of-lent.ensures) at c.feed_by_value-fed.ensures in
    rw (c.with_record.ensures, ← length-replicate (length room) filler)
    (plays_feed (filled room) (filled-filler room) c.args.run _ _ _ _ _ _ _ _ f (search rules))
