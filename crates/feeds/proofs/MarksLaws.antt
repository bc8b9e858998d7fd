-- "So no feed belongs to two frames": none belongs to two outcomes of a line.
use Prim.Native.Nat.{ℕ, zero, suc}
use Rattle.std.specs.Prelude.{◌≡◌, Bool, get_or, eqb}
use Rattle.std.proofs.Math.Path.{sym}
use Rattle.std.proofs.Common.{◌∙◌}
use Rattle.std.proofs.Math.Bool.{true, false, cond}
use Rattle.std.proofs.lemmas.Bool.{false≢true}
use mathlib.Core.List.{List, [], ◌∷◌}
use borrow.Author.Tests.{eqb-true}
use Rattle.feeds.specs.System.{Entry, Answer}
use Rattle.feeds.specs.Marks.{counted, outcome_on, marks_from, marks}

module _ (l j k : ℕ) where
  -- The same, where n outcomes were told before.
  from_once : (n : ℕ) (es : List Entry) (rs : List Answer) (i : ℕ)
      → get_or (marks_from l j n es rs) i false ≡ true → get_or (marks_from l k n es rs) i false ≡ true → j ≡ k
  unfolding marks_from
  from_once n [] rs i p q = absurd (false≢true p)
  from_once n (e ∷ es) [] i p q = absurd (false≢true p)
  from_once n (e ∷ es) (a ∷ rs) (suc i) p q = from_once (counted n (outcome_on l e a)) es rs i p q
  from_once n (e ∷ es) (a ∷ rs) zero p q = go (eqb e.line l) p q
    where
      go : (t : Bool) → cond t (eqb n j) false ≡ true → cond t (eqb n k) false ≡ true → j ≡ k
      go true p q = sym (eqb-true n j p) ∙ eqb-true n k q
      go false p q = absurd (false≢true p)

  -- A feed that belongs to outcome j and to outcome k of line l belongs to one outcome.
  pub marks_once : (es : List Entry) (rs : List Answer) (i : ℕ) → get_or (marks l j es rs) i false ≡ true → get_or (marks l k es rs) i false ≡ true → j ≡ k
  marks_once = from_once 0
