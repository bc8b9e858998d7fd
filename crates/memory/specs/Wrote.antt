-- A run of bytes stored in lent memory.
use Rattle.std.specs.Prelude.{ℕ, ◌+◌, ◌-◌, min, ◌≡◌, List, length}
use Rattle.std.proofs.lemmas.List.Edits.{sets}

-- how many of n bytes fit into l places from the place i on
abbrev pub fitting : ℕ → ℕ → ℕ → ℕ
fitting l i n = min n (l - i)

-- `after` is `before` with `vs` stored from `start` on, and `next` is the place behind them
pub record Wrote (before : List ℕ) (start : ℕ) (vs : List ℕ) (after : List ℕ) (next : ℕ) : Type 0 where
  pub content : after ≡ sets before start vs
  pub place : next ≡ start + length vs
