-- What is kept, as the demands have it: hub, table and the lines' records; and what a feed is lent beside it.
use Rattle.std.specs.Prelude.{ℕ, List}
use Rattle.frame.specs.Reader.{emptied_reading}
use Rattle.feeds.specs.Service.{Lent}
use Rattle.demands.specs.Steps as demands
use Rattle.service.specs.declared.Kept.{Kept}

abbrev pub memory_of : Kept → List ℕ → demands.Memory
memory_of k t = record { hub = k.hub; table = t; records = k.records }

-- a line above 3 has no record of its own, and is lent an emptied one
abbrev pub lent_by : ℕ → List ℕ → List ℕ → Lent
lent_by l bytes room = record { line = l; bytes = bytes; room = room; spare = emptied_reading }
