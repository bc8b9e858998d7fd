-- Passwords (document 02, CR 3).
use Rattle.std.specs.Prelude.{ℕ, ◌-◌, List, [], ◌∷◌, ◌++◌, Bool, cond, length, replicate, eqb}
use Rattle.memory.specs.Octets.{same}

abbrev pub password_size : ℕ
password_size = 32

-- a password is the bytes before the first zero, or all
unfoldable pub password_of : List ℕ → List ℕ
password_of [] = []
password_of (b ∷ bs) = cond (eqb b 0) [] (b ∷ password_of bs)

-- those only are compared, and whole: as many bytes, and equal ones at each place
abbrev pub is_same : List ℕ → List ℕ → Bool
is_same a b = same (password_of a) (password_of b)

-- it is stored with zeros from its first zero on
abbrev pub stored : List ℕ → List ℕ
stored bs = password_of bs ++ replicate (length bs - length (password_of bs)) 0
