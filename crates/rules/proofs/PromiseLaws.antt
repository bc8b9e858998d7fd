-- Feed keeps the promise that crate feeds states of any hub.
use Rattle.std.specs.Prelude.{ℕ, List}
use Rattle.line.specs.declared.Reading.{Reading}
use Rattle.feeds.specs.Service.{Promise}
use Rattle.rules.specs.declared.Hub.{Hub}
use Rattle.rules.specs.Hub.{hub}
use Rattle.rules.specs.Answers.{FeedAnswer, fed_of}
use Rattle.rules.specs.Promises.{Feeds}

pub feeds_promise : {h : Hub} {t : List ℕ} {s : Reading} {l : ℕ} {bytes space : List ℕ} {a : FeedAnswer} {h' : Hub} {t' : List ℕ} {e : Reading} {left : List ℕ}
    → Feeds h t s l bytes space a h' t' e left → Promise hub h t s l bytes space (fed_of a h' t' e left)
feeds_promise x = record { hub = x.hub; table = x.table; state = x.state; answer = x.answer; room = x.room; kept = x.kept }
