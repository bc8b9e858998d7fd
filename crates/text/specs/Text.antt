-- The pieces of the programs' lines as bytes: words and numbers.
use Rattle.std.specs.Prelude.{ℕ, zero, suc, ◌+◌, ◌/◌, ◌%◌, List, [], ◌∷◌, ◌++◌, true, false, cond, ltb}
use Prim.Native.Char.{code}
use Prim.Native.String as Characters

-- the codes of a text's characters
unfoldable pub ascii : Characters.String → List ℕ
ascii Characters.[] = []
ascii (Characters.◌∷◌ c s) = code c ∷ ascii s

-- the code of a digit: 0 to 9, then A to F
unfoldable pub digit : ℕ → ℕ
digit d = cond (ltb d 10) (48 + d) (55 + d)

-- A number in base ten with no leading zero: below ten its one digit, else its tens and then its ones. Each step goes
-- from a number to its tens; n of them are enough for n, and the test comes first, so that no more are computed than there are digits.
unfoldable pub decimal_in : ℕ → ℕ → List ℕ
decimal_in zero n = digit n ∷ []
decimal_in (suc steps) n = elim (ltb n 10) [ true ↦ digit n ∷ [] | false ↦ decimal_in steps (n / 10) ++ (digit (n % 10) ∷ []) ]

unfoldable pub decimal : ℕ → List ℕ
decimal n = decimal_in n n

-- the four hexadecimal digits of a number below 65536
abbrev pub hex4 : ℕ → List ℕ
hex4 n = digit (n / 4096 % 16) ∷ digit (n / 256 % 16) ∷ digit (n / 16 % 16) ∷ digit (n % 16) ∷ []
