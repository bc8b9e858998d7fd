-- One damaged byte (demand 3).
use Rattle.std.specs.Prelude.{ℕ, ◌≡◌, List, ◌∷◌}
use Rattle.line.specs.Wire.{END}

-- of the bytes before and after: one is replaced by a different one, inserted or lost, no END being involved
pub data Damage : List ℕ → List ℕ → Type 0 where
  replaced : {a b : ℕ} {w : List ℕ} → (a ≡ b → ⊥) → (b ≡ END → ⊥) → Damage (a ∷ w) (b ∷ w)
  inserted : {b : ℕ} {w : List ℕ} → (b ≡ END → ⊥) → Damage w (b ∷ w)
  lost : {a : ℕ} {w : List ℕ} → Damage (a ∷ w) w
  further : {a : ℕ} {w v : List ℕ} → Damage w v → Damage (a ∷ w) (a ∷ v)
