-- Bytes compared by the library's `==`.
use Rattle.std.proofs.Common.{ℕ, ◌≡◌, refl, sym, ap, ◌∙◌, List, [], ◌∷◌, Bool, ◌&&◌, eqb}
use Rattle.std.specs.Cmp.Lexicographic.{pointwise}
use Rattle.memory.specs.Octets.{same}

pub pointwise_same : (l m : List ℕ) → pointwise eqb l m ≡ same l m
unfolding same
pointwise_same [] [] = refl
pointwise_same [] (b ∷ m) = refl
pointwise_same (a ∷ l) [] = refl
pointwise_same (a ∷ l) (b ∷ m) = ap (λ t. eqb a b && t) (pointwise_same l m)

-- what a test of a word says of it
pub same-by : (l m : List ℕ) {r t : Bool} → r ≡ pointwise eqb l m → r ≡ t → same l m ≡ t
same-by l m e f = sym (pointwise_same l m) ∙ sym e ∙ f
