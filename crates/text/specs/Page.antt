-- A page before and after a call that writes on it.
use Rattle.std.specs.Prelude.{ℕ, ◌≡◌, List}
use Rattle.text.specs.declared.page.Page.{Page}
use Rattle.text.specs.Appended.{appended, Leaves}

-- the promise of a call: the text was appended to the memory that the page holds, and the page still holds it
pub record Writes (text : List ℕ) (old new : Page) : Type 0 where
  pub same : new.out.ghost_name ≡ old.out.ghost_name
  pub leaves : Leaves (appended old.out.now old.at text) new.out.now new.at
