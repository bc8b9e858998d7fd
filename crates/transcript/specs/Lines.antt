-- Lines appended to lent memory one after another.
use Rattle.std.specs.Prelude.{ℕ, zero, suc, List, [], ◌∷◌, ◌++◌, ◌≡◌}
use Rattle.text.specs.Appended.{appended, Leaves, Memory}
use Rattle.text.specs.declared.page.Page.{Page}

-- each is appended behind the one before, whole or not at all
unfoldable pub appended_all : List ℕ → ℕ → List (List ℕ) → Memory
appended_all l at [] = record { bytes = l; place = at }
appended_all l at (x ∷ xs) = appended_all (appended l at x).bytes (appended l at x).place xs

-- the lines of the numbers below n, ascending
unfoldable pub lines_below : (ℕ → List (List ℕ)) → ℕ → List (List ℕ)
lines_below f zero = []
lines_below f (suc n) = lines_below f n ++ f n

-- the promise of a call: the lines were appended to the memory that the page holds, and the page still holds it
pub record WritesAll (lines : List (List ℕ)) (old new : Page) : Type 0 where
  pub same : new.out.ghost_name ≡ old.out.ghost_name
  pub leaves : Leaves (appended_all old.out.now old.at lines) new.out.now new.at
