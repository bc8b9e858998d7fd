use Prim.Native.Nat.{ℕ, ◌<◌}
use mathlib.Core.Bool.{Bool, false}
use mathlib.Core.List.{List, []}
use mathlib.Core.Path.{◌≡◌}
use lib.ListN.{length, take, drop, get_or}
use Rattle.sessions.specs.Search.{member}
use Rattle.sessions.specs.Sessions.{target_count, targets_legal}
use Rattle.sessions.proofs.targets.targets_legal.Given as goal

-- The nodes that are seen are those of the indices.
pub record Seen (seen : List Bool) (ns : List ℕ) : Type 0 where
  pub whole : length seen ≡ target_count
  pub those : (n : ℕ) → n < target_count → get_or seen n false ≡ member n ns

-- The indices before the place are legal, and are seen.
abbrev pub invariant-loop-target : goal.invariant-loop-target
invariant-loop-target l =
    Seen l.seen (take l.target-index l.indices)
    × (targets_legal l.table [] l.indices ≡ targets_legal l.table (take l.target-index l.indices) (drop l.target-index l.indices))
