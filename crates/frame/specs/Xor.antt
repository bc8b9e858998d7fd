-- The exclusive or of numbers and of all bytes of a list.
use Rattle.std.specs.Prelude.{ℕ, List, [], ◌∷◌}
use Rattle.std.specs.Int.Bits.{bit_xor}

-- the library's, shut: it unfolds only where a proof says so
unfoldable pub ◌⊕◌ : ℕ → ℕ → ℕ
◌⊕◌ a b = bit_xor a b

infixr 60 ◌⊕◌
unfoldable pub xor_all : List ℕ → ℕ
xor_all [] = 0
xor_all (b ∷ l) = b ⊕ xor_all l
