-- What holds of each element: of two lists one behind the other, of many of one element, and what follows from it.
use Rattle.std.specs.Prelude.{ℕ, zero, suc, List, [], ◌∷◌, ◌++◌, replicate}
use Rattle.line.specs.Pieces.{Every}

module _ {A : Type 0} (P : A → Type 0) where
  pub every_all : ((a : A) → P a) → (p : List A) → Every P p
  every_all f [] = tt
  every_all f (a ∷ p) = (f a, every_all f p)

  pub every_append : (p q : List A) → Every P p → Every P q → Every P (p ++ q)
  every_append [] q x y = y
  every_append (a ∷ p) q x y = (x.0, every_append p q x.1 y)

  pub every_replicate : (n : ℕ) (a : A) → P a → Every P (replicate n a)
  every_replicate zero a x = tt
  every_replicate (suc n) a x = (x, every_replicate n a x)

pub every_map : {A : Type 0} (P Q : A → Type 0) → ((a : A) → P a → Q a) → (p : List A) → Every P p → Every Q p
every_map P Q f [] x = tt
every_map P Q f (a ∷ p) x = (f a x.0, every_map P Q f p x.1)
