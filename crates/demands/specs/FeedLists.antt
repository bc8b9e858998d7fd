-- Lists of feeds of this hub, of which demand 3 speaks: each keeps the promise that the `ensures` of feed cites, and each gets the hub, the one
-- table and its line's own record as the last one left them.
use Rattle.std.specs.Prelude.{ℕ, List, [], ◌∷◌}
use Rattle.line.specs.declared.Reading.{Reading}
use Rattle.feeds.specs.Service.{Lent, Got, record_for, left_by}
use Rattle.rules.specs.declared.Hub.{Hub}
use Rattle.rules.specs.Hub.{hub}
use Rattle.rules.specs.Answers.{FeedAnswer, fed_of}
use Rattle.rules.specs.Promises.{Feeds}
use Rattle.demands.specs.Steps.{Memory}

-- feeds one after another
pub data Run : Memory → List Lent → List (Got hub) → Memory → Type 0 where
  stop : {m : Memory} → Run m [] [] m
  next : {m v : Memory} {g : Lent} {gs : List Lent} {os : List (Got hub)} {a : FeedAnswer} {h : Hub} {t : List ℕ} {e : Reading} {left : List ℕ}
      → Feeds m.hub m.table (record_for hub m g) g.line g.bytes g.room a h t e left
      → Run (left_by hub m g (fed_of a h t e left)) gs os v → Run m (g ∷ gs) (fed_of a h t e left ∷ os) v

-- a list of feeds that was run
pub record FeedList : Type 0 where
  pub start : Memory
  pub lent : List Lent
  pub got : List (Got hub)
  pub end : Memory
  pub run : Run start lent got end
