-- Cutting a line into words, seen from the words: what they make with one space between each two.
use Rattle.std.specs.Prelude.{ℕ, ◌≡◌, List, [], ◌∷◌, ◌++◌, Bool, true, not, ◌&&◌, eqb}
use Rattle.script.specs.Script.{space}

unfoldable pub joined : List (List ℕ) → List ℕ
joined [] = []
joined (w ∷ []) = w
joined (w ∷ v ∷ ws) = w ++ space ∷ joined (v ∷ ws)

unfoldable pub spaceless : List ℕ → Bool
spaceless [] = true
spaceless (b ∷ bs) = not (eqb b space) && spaceless bs

-- no word has a space
abbrev pub Spaceless : List (List ℕ) → Type 0
Spaceless [] = Unit {0}
Spaceless (w ∷ ws) = (spaceless w ≡ true) × Spaceless ws
