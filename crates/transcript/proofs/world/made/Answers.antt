use native.Mathlib.Omega.{arith}
use mathlib.Core.Path.{◌≡◌, refl, sym}
use lib.ListN.{length, take}
use lib.Seq.{length-take-le}
use Rattle.transcript.specs.LinesLaws.{all_none}
use Rattle.transcript.specs.World.{World, start, enrol, feed, play}
use Rattle.transcript.proofs.world.Laws.{plays_lent}
use Rattle.transcript.proofs.world.made.Goals as goal

pub slice_bounds-start-end-in-Start : goal.slice_bounds-start-end-in-Start
slice_bounds-start-end-in-Start c = sym (length-take-le c.min-n.result c.args.table.now (omega (arith, c.min-n.ensures)))

pub slice_bounds-feed-end-in-Feed : goal.slice_bounds-feed-end-in-Feed
slice_bounds-feed-end-in-Feed c = sym (length-take-le c.min-n-in-Feed.result c.args.table.now (omega (arith, c.min-n-in-Feed.ensures)))

pub slice_bounds-feed-end-in-Feed-2 : goal.slice_bounds-feed-end-in-Feed-2
slice_bounds-feed-end-in-Feed-2 c =
    let w = rw c.in-Feed.is at c.requires.0 in
    sym (length-take-le c.in-Feed.len c.args.bytes.now (omega (arith, w.0)))

pub returns-in-Start : goal.returns-in-Start
unfolding play
returns-in-Start c =
    rw c.in-Start.is
    (plays_lent c.args.run _ _ _ (λ (w : World). start w (take c.in-Start.len c.args.bytes.now)) _ c.min-n.ensures c.start.ensures)

pub returns-in-Enrol : goal.returns-in-Enrol
unfolding play
returns-in-Enrol c =
    rw c.in-Enrol.is
    (plays_lent c.args.run _ _ _ (λ (w : World). enrol w c.in-Enrol.node c.in-Enrol.kind) _ c.min-n-in-Enrol.ensures c.enrol.ensures)

pub returns-in-Feed : goal.returns-in-Feed
unfolding play
returns-in-Feed c =
    let most = c.in-Feed.most in
    let w = rw c.in-Feed.is at c.requires.0 in
    let long : length (take most c.args.room.now) ≡ most = length-take-le most c.args.room.now (omega (arith, w.2, c.requires.1)) in
    rw c.in-Feed.is
    (plays_lent c.args.run _ _ _ (λ (w : World). feed w c.in-Feed.k (take c.in-Feed.len c.args.bytes.now) most) _ c.min-n-in-Feed.ensures (rw long at c.feed.ensures))

pub returns-in-Close : goal.returns-in-Close
unfolding play
returns-in-Close c = rw c.in-Close.is c.close.ensures

pub returns-in-Finish : goal.returns-in-Finish
unfolding play
returns-in-Finish c =
    let most = c.in-Finish.most in
    let w = rw c.in-Finish.is at c.requires.0 in
    let long : length (take most c.args.room.now) ≡ most = length-take-le most c.args.room.now (omega (arith, w, c.requires.1)) in
    rw c.in-Finish.is (rw long at c.finish.ensures)

pub returns-in-Show : goal.returns-in-Show
unfolding play
returns-in-Show c = rw c.in-Show.is c.show.ensures

pub returns-in-Table : goal.returns-in-Table
unfolding play
returns-in-Table c = rw c.in-Table.is c.list.ensures

pub returns-in-Remark : goal.returns-in-Remark
unfolding play
returns-in-Remark c = rw c.in-Remark.is (record { world = refl; text = all_none _ _ })

pub returns-in-Bad : goal.returns-in-Bad
unfolding play
returns-in-Bad c = rw c.in-Bad.is c.bad.ensures

pub returns-in-Long : goal.returns-in-Long
unfolding play
returns-in-Long c = rw c.in-Long.is c.long.ensures
