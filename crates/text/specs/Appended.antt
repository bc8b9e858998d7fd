-- A text appended to lent memory.
use Rattle.std.specs.Prelude.{ℕ, ◌+◌, ◌≡◌, List, cond, length, leb}
use Rattle.std.proofs.lemmas.List.Edits.{sets}

-- memory, and the place behind what was appended to it
pub record Memory : Type 0 where
  pub bytes : List ℕ
  pub place : ℕ

-- a text that fits whole is stored from its place on; another changes nothing
unfoldable pub appended : List ℕ → ℕ → List ℕ → Memory
appended l at text = cond (leb (at + length text) (length l)) (record { bytes = sets l at text; place = at + length text }) (record { bytes = l; place = at })

-- the promise of a call: memory and place after it are the definition's
pub record Leaves (x : Memory) (after : List ℕ) (next : ℕ) : Type 0 where
  pub bytes : after ≡ x.bytes
  pub place : next ≡ x.place
