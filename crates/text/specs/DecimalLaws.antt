-- A number in base ten: its digits one by one, and how many they are.
use Rattle.std.specs.Prelude.{ℕ, zero, suc, ◌+◌, ◌*◌, ◌/◌, ◌%◌, ◌^◌, ◌≤◌, ◌<◌, ◌≡◌, refl, [], ◌∷◌, ◌++◌, Bool, true, false, ◌⊎◌, length, ltb}
use Rattle.std.proofs.Common.{sym, ◌∙◌, inl, inr, ⊎_elim, pow-suc, arith, length-append, lt-ltb, le-ltb, ltb-true, ltb-false}
use Rattle.std.proofs.Math.Nat.{one-le-pow}
use Rattle.text.specs.Text.{digit, decimal_in, decimal}

ten_at : (n : ℕ) (t : Bool) → ltb n 10 ≡ t → (n < 10) ⊎ (10 ≤ n)
ten_at n true e = inl (ltb-true n 10 e)
ten_at n false e = inr (ltb-false n 10 e)

pub ten : (n : ℕ) → (n < 10) ⊎ (10 ≤ n)
ten n = ten_at n (ltb n 10) refl

-- ---- more steps than enough change nothing

steps_few : (k n : ℕ) → n < 10 → decimal_in k n ≡ digit n ∷ []
unfolding decimal_in
steps_few zero n h = refl
steps_few (suc k) n h = rw (lt-ltb n 10 h, decimal_in)

steps_more : (k n : ℕ) → 10 ≤ n → decimal_in (suc k) n ≡ decimal_in k (n / 10) ++ (digit (n % 10) ∷ [])
unfolding decimal_in
steps_more k n h = rw (le-ltb n 10 h, decimal_in)

steps_enough : (k m n : ℕ) → n ≤ k → n ≤ m → decimal_in k n ≡ decimal_in m n
steps_enough zero m n h l = steps_few zero n (omega arith) ∙ sym (steps_few m n (omega arith))
steps_enough (suc k) zero n h l = steps_few (suc k) n (omega arith) ∙ sym (steps_few zero n (omega arith))
steps_enough (suc k) (suc m) n h l =
    ⊎_elim (λ x. steps_few (suc k) n x ∙ sym (steps_few (suc m) n x))
    (λ x. steps_more k n x ∙ rw (steps_enough k m (n / 10) (omega arith) (omega arith)) (sym (steps_more m n x)))
    (ten n)

-- ---- below ten one digit, else the tens and the ones

pub decimal_few : (n : ℕ) → n < 10 → decimal n ≡ digit n ∷ []
unfolding decimal
decimal_few n h = steps_few n n h

pub decimal_more : (n : ℕ) → 10 ≤ n → decimal n ≡ decimal (n / 10) ++ (digit (n % 10) ∷ [])
unfolding decimal
decimal_more zero h = absurd (omega arith)
decimal_more (suc k) h = steps_more k (suc k) h ∙ rw (steps_enough k (suc k / 10) (suc k / 10) (omega arith) (omega arith))

length_few : (n : ℕ) → n < 10 → length (decimal n) ≡ 1
length_few n h = rw (decimal_few n h)

pub length_more : (n : ℕ) → 10 ≤ n → length (decimal n) ≡ length (decimal (n / 10)) + 1
length_more n h = rw (decimal_more n h, length-append)

-- ---- how many digits: one at least; more than k from 10 ^ k on, and up to k below it

pub decimal-some : (n : ℕ) → 0 < length (decimal n)
decimal-some n = ⊎_elim (λ x. omega (arith, length_few n x)) (λ x. omega (arith, length_more n x)) (ten n)

pub decimal_above : (k n : ℕ) → 10 ^ k ≤ n → k < length (decimal n)
decimal_above zero n h = decimal-some n
decimal_above (suc k) n h =
    let p : 10 ^ suc k ≡ 10 ^ k * 10 = pow-suc 10 k in
    let o : 1 ≤ 10 ^ k = one-le-pow k 10 (omega arith) in
    let x : 10 ≤ n = omega arith in
    let ih : k < length (decimal (n / 10)) = decimal_above k (n / 10) (omega arith) in
    omega (arith, length_more n x)

pub decimal-below : (k n : ℕ) → 0 < k → n < 10 ^ k → length (decimal n) ≤ k
decimal-below zero n o h = absurd (omega arith)
decimal-below (suc zero) n o h = omega (arith, length_few n h)
decimal-below (suc (suc k)) n o h =
    let p : 10 ^ suc (suc k) ≡ 10 ^ suc k * 10 = pow-suc 10 (suc k) in
    let ih : length (decimal (n / 10)) ≤ suc k = decimal-below (suc k) (n / 10) (omega arith) (omega arith) in
    ⊎_elim (λ x. omega (arith, length_few n x)) (λ x. omega (arith, length_more n x)) (ten n)

-- 64 bits hold no more than twenty digits
pub decimal_short : (n : ℕ) → n < 2 ^ 64 → length (decimal n) ≤ 20
decimal_short n h = decimal-below 20 n (omega arith) (omega arith)
