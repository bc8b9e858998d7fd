-- Searching a list.
use Rattle.std.specs.Prelude.{◌≡◌, ℕ, zero, suc, List, [], ◌∷◌, ◌++◌, Bool, true, false, cond, eqb}

module _ {A : Type 0} (p : A → Bool) where
  -- some element passes the test
  unfoldable pub any : List A → Bool
  any [] = false
  any (a ∷ l) = cond (p a) true (any l)

  -- the place of the first that does; the list's length where none does
  unfoldable pub first : List A → ℕ
  first [] = 0
  first (a ∷ l) = cond (p a) 0 (suc (first l))

-- what a test of the code gives is what p computes
abbrev pub Computes : {A : Type 0} → (A → Bool → Type 0) → (A → Bool) → Type 0
Computes {A} gives p = (a : A) (r : Bool) → gives a r → r ≡ p a

-- a number stands in a list
abbrev pub member : ℕ → List ℕ → Bool
member n = any (eqb n)

-- the numbers below n, ascending
unfoldable pub below : ℕ → List ℕ
below zero = []
below (suc n) = below n ++ n ∷ []
