-- Some bytes compared with 1, 0, 2: with themselves, behind the zero, with others of their length, with less and with more.
use Rattle.std.specs.Prelude.{ℕ, ◌≡◌, refl, List, [], ◌∷◌, map, true, false}
use Rattle.memory.specs.Octets.{same}

bytes : List ℕ
bytes = 1 ∷ 0 ∷ 2 ∷ []

compared : map (same bytes) (bytes ∷ (1 ∷ 0 ∷ 3 ∷ []) ∷ (2 ∷ 0 ∷ 2 ∷ []) ∷ (1 ∷ 0 ∷ []) ∷ [] ∷ (1 ∷ 0 ∷ 2 ∷ 0 ∷ []) ∷ []) ≡ true ∷ false ∷ false ∷ false ∷ false ∷ false ∷ []
unfolding same bytes
compared = refl

none : map (same []) ([] ∷ (0 ∷ []) ∷ []) ≡ true ∷ false ∷ []
unfolding same
none = refl
