use Rattle.std.proofs.Common.{ℕ, ◌≤◌, ◌≡◌, refl, List, [], ◌∷◌, cond, length, arith}
use Rattle.std.proofs.lemmas.Bool.Decides.{nat_tests}
use Rattle.std.proofs.lemmas.List.Recursion.{is_position_or_len}
use Rattle.std.specs.Prelude.{◌==◌, Some, None, nat_lt, unwrap_or}
use Rattle.std.specs.List.{position_or_len}
use Rattle.report.specs.Entry.{name_length}
use Rattle.report.proofs.names.name_length.Goals as goal

-- the first zero byte, or the end
first_zero : (l : List ℕ) → name_length l ≡ position_or_len (λ b. b == 0) l
unfolding name_length
first_zero l = is_position_or_len name_length (λ b. b == 0) refl (λ x xs. grind arith) l

within : (l : List ℕ) → name_length l ≤ length l
unfolding name_length
within [] = omega arith
within (x ∷ xs) = grind (arith, nat_tests, within xs)

or_end : (i n : ℕ) → i ≤ n → unwrap_or (cond (nat_lt i n) (Some i) None) n ≡ i
or_end i n h = grind (arith, nat_tests)

pub returns : goal.returns
returns c =
    let name = c.args.name.now in
    let e = or_end (position_or_len (λ b. b == 0) name) (length name) (rw (first_zero name) at (within name)) in
    let same : c.unwrap_or.result ≡ name_length name = rw (c.unwrap_or.ensures, c.first_zero.ensures, first_zero name) e in
    (same, rw same (within name))
