use mathlib.Core.Path.{◌≡◌, refl}
use native.Mathlib.Omega.{arith}
use Rattle.requests.specs.Answers.{reading_at}
use Rattle.rounds.specs.Rounds.{none, more}
use Rattle.rounds.proofs.rounds_finish.Goals as goal

pub loop-init : goal.loop-init
loop-init c = none

pub loop-preserved : goal.loop-preserved
loop-preserved c =
    more c.loop.invariant
    (record {
      reply = _;
      between = record { hub = c.feed_in-sent.result.hub; table = _; reading = reading_at _ c.feed_in-sent.result.cursor; room = _ };
      fed = record { answer = c.feed_in-sent.result.answer; feeds = c.feed_in-sent.ensures; length = refl };
      finished = record { answer = c.finish-finished.result.answer; finishes = c.finish-finished.ensures; table = refl; reading = refl; length = c.finished_len-len.ensures };
    })

pub returns : goal.returns
returns c =
    let all : c.loop.counter ≡ c.args.rounds = omega (arith, c.loop.auto.counter-end, c.loop-test.false) in
    record {
      reply = _;
      entered = _;
      last = _;
      enters = c.enter-entered.ensures;
      rounds = rw all at c.loop.invariant;
      table = refl;
      room = refl;
    }
