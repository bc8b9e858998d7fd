-- A list of feeds of this hub (specs/FeedLists.antt) is one of a hub's feeds as crate feeds has them.
use Rattle.std.specs.Prelude.{List}
use Rattle.feeds.specs.Service as service
use Rattle.feeds.specs.Service.{Lent, Got}
use Rattle.rules.specs.Hub.{hub}
use Rattle.rules.proofs.PromiseLaws.{feeds_promise}
use Rattle.demands.specs.Steps.{Memory}
use Rattle.demands.specs.FeedLists.{Run, stop, next, FeedList}

-- it is one of a hub's feeds as crate feeds has them, so what is used, told and compared of it is defined there
pub run_promised : {m v : Memory} {gs : List Lent} {os : List (Got hub)} → Run m gs os v → service.Run hub m gs os v
run_promised stop = service.stop
run_promised (next x rest) = service.next (feeds_promise x) (run_promised rest)

abbrev pub feeds_of : FeedList → service.Feeds hub
feeds_of F = record { start = F.start; lent = F.lent; got = F.got; end = F.end; run = run_promised F.run }
