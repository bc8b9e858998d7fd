-- What `play` promises: the world after a line, and the lines of its answer.
use Rattle.std.specs.Prelude.{ℕ, ◌≡◌, List, map, replicate}
use Rattle.frame.specs.Reader.{taken, emptied_reading}
use Rattle.rules.specs.Hub.{line_count, first_hub}
use Rattle.text.specs.Appended.{Leaves}
use Rattle.transcript.specs.Lines.{appended_all}
use Rattle.transcript.specs.World.{World, Played}
use Rattle.transcript.specs.declared.Run.{Run}

-- a run and the table buffer, as they are compared: each record by the state that it is taken as
abbrev pub world_of : Run → List ℕ → World
world_of r t = record { hub = r.hub; table = t; states = map taken r.readings }

-- before the first line
abbrev pub first_run : Run
first_run = record { hub = first_hub; readings = replicate line_count emptied_reading; at = 0 }

-- the world after a line is the definition's, and its lines are appended to the output, each whole or not at all. Left to the program: how a
-- record lies that is taken as the definition's state
pub record Plays (x : Played) (before : List ℕ) (at : ℕ) (r : Run) (table after : List ℕ) : Type 0 where
  pub world : world_of r table ≡ x.world
  pub text : Leaves (appended_all before at x.lines) after r.at
