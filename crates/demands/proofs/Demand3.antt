-- Demand 3 of this hub: any hub state, any four records, one table, any list of feeds. What its words mean is crate feeds, specs/Demand3.antt,
-- clause by clause in the papers' words; a list of feeds is FeedLists.antt, made of the promise that the `ensures` of feed cites.
use Rattle.std.specs.Prelude.{ℕ, ◌<◌, ◌≡◌, Bool, List, length}
use Rattle.nodes.specs.Table.{table_size}
use Rattle.feeds.specs.Service.{used_in}
use Rattle.feeds.specs.Demand3 as any_hub
use Rattle.feeds.specs.Demand3.{OneDamaged, Without, Harmless, AnyThenFrames, Recovered}
use Rattle.feeds.proofs.Demand3.{demand3}
use Rattle.rules.specs.Hub.{line_count, hub}
use Rattle.demands.specs.Steps.{Memory}
use Rattle.demands.specs.FeedLists.{FeedList}
use Rattle.demands.proofs.FeedLists.{feeds_of}
use Rattle.demands.proofs.FeedListLaws.{list_without, list-used}
use Rattle.demands.proofs.ErrorReply.{only_error_reply}

-- Demand 3, whole.
pub record Demand3 : Type 0 where
  pub first : (l : ℕ) (F : FeedList) (d : OneDamaged l (feeds_of F)) → Harmless l (feeds_of F) d
  pub second : (l : ℕ) (F : FeedList) (a : AnyThenFrames l (feeds_of F)) → Recovered l (feeds_of F) a
  -- "Without them in the list": for every list and whichever feeds are left out, there is such a list to compare with
  pub without : (m : List Bool) (F : FeedList) → (G : FeedList) × Without m (feeds_of F) (feeds_of G)
  -- and its cases can come: from any memory with the right table and four records, on any line, any bytes can be those used
  pub met : (m : Memory) (l : ℕ) → l < line_count → length m.table ≡ table_size → length m.records ≡ line_count → (bytes : List ℕ)
      → (F : FeedList) × (F.start ≡ m) × (used_in l (feeds_of F) ≡ bytes)

of_any : any_hub.Demand3 hub
of_any = demand3 hub only_error_reply

pub demand_3 : Demand3
demand_3 = record {
  first = λ l F d. of_any.first l (feeds_of F) d;
  second = λ l F a. of_any.second l (feeds_of F) a;
  without = list_without;
  met = list-used;
}
