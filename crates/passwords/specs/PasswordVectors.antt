-- Passwords that end at 0, 1, 31 and 32, with old bytes behind them.
use Rattle.std.specs.Prelude.{ℕ, ◌≡◌, refl, List, [], ◌∷◌, ◌++◌, map, true, false, take, replicate}
use Rattle.memory.specs.Octets.{same}
use Rattle.passwords.specs.Passwords.{password_size, password_of, is_same, stored}

-- 32 bytes: n times 7, a zero if there is room for it, and old bytes
sevens : ℕ → ℕ → List ℕ
sevens old n = take 32 (replicate n 7 ++ 0 ∷ replicate 31 old)

ends : List ℕ
ends = 0 ∷ 1 ∷ 31 ∷ 32 ∷ []

size : password_size ≡ 32
size = refl

cut : map (λ n. password_of (sevens 9 n)) ends ≡ [] ∷ (7 ∷ []) ∷ replicate 31 7 ∷ replicate 32 7 ∷ []
unfolding password_of sevens ends
cut = refl

kept : map (λ n. stored (sevens 9 n)) ends ≡ replicate 32 0 ∷ (7 ∷ replicate 31 0) ∷ (replicate 31 7 ++ 0 ∷ []) ∷ replicate 32 7 ∷ []
unfolding password_of sevens ends
kept = refl

-- with other old bytes: only those that end at the same place are the same, so none that is shorter or longer
compared : map (λ m. map (λ n. is_same (sevens 9 m) (sevens 5 n)) ends) ends
    ≡ (true ∷ false ∷ false ∷ false ∷ []) ∷ (false ∷ true ∷ false ∷ false ∷ []) ∷ (false ∷ false ∷ true ∷ false ∷ []) ∷ (false ∷ false ∷ false ∷ true ∷ []) ∷ []
unfolding password_of same sevens ends
compared = refl

-- a byte that differs, before the zero and behind it; the same bytes, but for the zero's place
others : map (is_same (1 ∷ 2 ∷ 0 ∷ 3 ∷ [])) ((1 ∷ 2 ∷ 0 ∷ 4 ∷ []) ∷ (1 ∷ 4 ∷ 0 ∷ 3 ∷ []) ∷ (4 ∷ 2 ∷ 0 ∷ 3 ∷ []) ∷ (1 ∷ 0 ∷ 2 ∷ 3 ∷ []) ∷ (1 ∷ 2 ∷ 3 ∷ 0 ∷ []) ∷ [])
    ≡ true ∷ false ∷ false ∷ false ∷ false ∷ []
unfolding password_of same
others = refl
