use Rattle.std.proofs.Common.{ℕ, ◌+◌, ◌-◌, ◌/◌, ◌%◌, ◌≤◌, ◌<◌, ◌≡◌, ◌∙◌, ap, ⊎_elim, List, length, take, set, arith, take_all}
use Rattle.std.proofs.lemmas.List.Edits.{sets}
use Rattle.memory.specs.WroteLaws.{sets_last}
use Rattle.text.specs.Text.{digit, decimal}
use Rattle.text.specs.DecimalLaws.{ten, decimal_few, decimal_more, length_more}
use Rattle.text.proofs.digits.decimal.Goals as goal

-- the last of several digits stored, the others are left to store
last_stored : (n : ℕ) (l : List ℕ) (i j : ℕ) → 10 ≤ n → j + 1 ≡ i + length (decimal n)
    → sets (set l j (digit (n % 10))) i (decimal (n / 10)) ≡ sets l i (decimal n)
last_stored n l i j h e = sets_last (decimal (n / 10)) (digit (n % 10)) l i j (omega (arith, length_more n h)) ∙ rw (← decimal_more n h)

-- the only one stored, none is left
only_stored : (n : ℕ) (l : List ℕ) (i : ℕ) → n < 10 → set l i (digit n) ≡ sets l i (decimal n)
only_stored n l i h = rw (decimal_few n h)

stored : (n : ℕ) (l : List ℕ) (i j : ℕ) → i < j → j ≡ i + length (decimal n)
    → sets (set l (j - 1) (digit (n % 10))) i (take (j - 1 - i) (decimal (n / 10))) ≡ sets l i (take (j - i) (decimal n))
stored n l i j h e = ⊎_elim few more (ten n)
  where
    few : n < 10 → sets (set l (j - 1) (digit (n % 10))) i (take (j - 1 - i) (decimal (n / 10))) ≡ sets l i (take (j - i) (decimal n))
    few x =
        let one : length (decimal n) ≡ 1 = ap length (decimal_few n x) in
        let a : j - 1 ≡ i = omega arith in
        let b : i - i ≡ 0 = omega arith in
        let d : n % 10 ≡ n = omega arith in
        let all : take (j - i) (decimal n) ≡ decimal n = take_all (j - i) (decimal n) (omega arith) in
        rw (all, a, b, d) (only_stored n l i x)

    more : 10 ≤ n → sets (set l (j - 1) (digit (n % 10))) i (take (j - 1 - i) (decimal (n / 10))) ≡ sets l i (take (j - i) (decimal n))
    more x =
        let all : take (j - i) (decimal n) ≡ decimal n = take_all (j - i) (decimal n) (omega arith) in
        let rest : take (j - 1 - i) (decimal (n / 10)) ≡ decimal (n / 10) = take_all (j - 1 - i) (decimal (n / 10)) (omega (arith, length_more n x)) in
        rw (all, rest) (last_stored n l i (j - 1) x (omega arith))

-- where digits are left, as many are as the rest has
left : (n i j : ℕ) → i < j - 1 → j ≡ i + length (decimal n) → j - 1 ≡ i + length (decimal (n / 10))
left n i j h e = ⊎_elim (λ x. absurd (omega (arith, ap length (decimal_few n x)))) (λ x. omega (arith, length_more n x)) (ten n)

pub loop-place-preserved : goal.loop-place-preserved
loop-place-preserved c =
    let l = c.loop-place in
    let e : l.place ≡ c.args.at + length (decimal l.rest) = l.invariant.0 c.loop-place-test.true in
    let ones : l.rest % 10 % 16 ≡ l.rest % 10 = omega arith in
    (λ h. left l.rest c.args.at l.place h e, rw (c.digit.ensures, ones) (stored l.rest l.out c.args.at l.place c.loop-place-test.true e ∙ l.invariant.1))
