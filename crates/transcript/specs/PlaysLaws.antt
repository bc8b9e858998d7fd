-- Before the first line: the run that `first` gives and a table buffer of zeros are the definition's world.
use Rattle.std.specs.Prelude.{ℕ, ◌≡◌, refl, replicate}
use Rattle.script.specs.Script.{table_most}
use Rattle.transcript.specs.World.{first_world}
use Rattle.transcript.specs.Plays.{world_of, first_run}

pub first-world : world_of first_run (replicate {A = ℕ} table_most 0) ≡ first_world
first-world = refl
