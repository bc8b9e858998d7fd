use mathlib.Core.Path.{◌≡◌, refl}
use native.Mathlib.Omega.{arith}
use Rattle.rounds.specs.Rounds.{none, more}
use Rattle.rounds.proofs.rounds_feed.Goals as goal

pub loop-init : goal.loop-init
loop-init c = none

pub loop-preserved : goal.loop-preserved
loop-preserved c = more c.loop.invariant (record { answer = c.feed_in-fed.result.answer; feeds = c.feed_in-fed.ensures; length = c.fed_len-len.ensures })

pub returns : goal.returns
returns c =
    let all : c.loop.counter ≡ c.args.rounds = omega (arith, c.loop.auto.counter-end, c.loop-test.false) in
    record {
      reply = _;
      entered = _;
      last = _;
      enters = c.enter-entered.ensures;
      rounds = rw all at c.loop.invariant;
      table = refl;
      room = refl;
    }
