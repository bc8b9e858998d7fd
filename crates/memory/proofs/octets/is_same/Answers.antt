use Rattle.std.proofs.Common.{ℕ, ◌≡◌, refl, List, [], ◌∷◌, ◌&&◌, ◌∙◌, ap, eqb}
use Rattle.std.specs.Cmp.Lexicographic.{pointwise}
use Rattle.memory.specs.Octets.{same}
use Rattle.memory.proofs.octets.is_same.Goals as goal

-- what the library's `==` says of slices
pointwise_same : (l m : List ℕ) → pointwise eqb l m ≡ same l m
unfolding same
pointwise_same [] [] = refl
pointwise_same [] (b ∷ m) = refl
pointwise_same (a ∷ l) [] = refl
pointwise_same (a ∷ l) (b ∷ m) = ap (λ t. eqb a b && t) (pointwise_same l m)

pub returns : goal.returns
returns c = c.eq.ensures ∙ pointwise_same _ _
