-- Reading byte by byte, whatever the step: a state and a byte give the next state and perhaps an outcome.
use Rattle.std.specs.Prelude.{ℕ, suc, ◌+◌, List, [], ◌∷◌}
use Rattle.std.proofs.Math.Option.{Option, none, some}

-- an element that may be missing, before others
abbrev pub also : {A : Type 0} → Option A → List A → List A
also none l = l
also (some a) l = a ∷ l

-- what one call comes to: bytes used, the outcome, and the state after them
pub record Scan (State Out : Type 0) : Type 0 where
  pub used : ℕ
  pub outcome : Option Out
  pub after : State

module _ {State Out : Type 0} where
  -- a byte that led to the state s: an outcome ends the call; else it goes on as the rest does
  unfoldable pub onward : State → Option Out → Scan State Out → Scan State Out
  onward s none r = record { used = suc r.used; outcome = r.outcome; after = r.after }
  onward s (some o) r = record { used = 1; outcome = some o; after = s }

  -- i bytes before the rest
  abbrev pub ahead : ℕ → Scan State Out → Scan State Out
  ahead i r = record { used = i + r.used; outcome = r.outcome; after = r.after }

module _ {State Out : Type 0} (step : State → ℕ → State × Option Out) where
  -- every outcome of some bytes, in order
  unfoldable pub outcomes : State → List ℕ → List Out
  outcomes s [] = []
  outcomes s (b ∷ w) = also (step s b).1 (outcomes (step s b).0 w)

  -- the state after them
  unfoldable pub final : State → List ℕ → State
  final s [] = s
  final s (b ∷ w) = final (step s b).0 w

  -- one call: to the end of the first outcome or of the bytes
  unfoldable pub scan : State → List ℕ → Scan State Out
  scan s [] = record { used = 0; outcome = none; after = s }
  scan s (b ∷ w) = onward (step s b).0 (step s b).1 (scan (step s b).0 w)
