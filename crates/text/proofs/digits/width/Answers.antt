use Rattle.std.proofs.Common.{ℕ, suc, ◌+◌, ◌*◌, ◌^◌, ◌<◌, ◌≤◌, ◌≡◌, length, pow-suc, arith}
use Rattle.text.specs.Text.{decimal}
use Rattle.text.specs.DecimalLaws.{decimal_few, decimal_above, decimal-below}
use Rattle.text.proofs.digits.width.Goals as goal

-- the power of ten below a number of more than one digit says how many it has
digits : (k n : ℕ) → 10 ≤ n → 10 ^ k ≤ n → n < 10 * 10 ^ k → k + 1 ≡ length (decimal n)
digits k n t e l =
    let p : 10 ^ suc k ≡ 10 ^ k * 10 = pow-suc 10 k in
    let more : k < length (decimal n) = decimal_above k n (omega arith) in
    let most : length (decimal n) ≤ suc k = decimal-below (suc k) n (omega arith) (omega arith) in
    omega arith

pub returns-in-0-to-9 : goal.returns-in-0-to-9
returns-in-0-to-9 c = rw (decimal_few c.args.number (omega arith))

pub returns-in-10-to-99 : goal.returns-in-10-to-99
returns-in-10-to-99 c = digits 1 c.args.number (omega arith) (omega arith) (omega arith)

pub returns-in_default : goal.returns-in_default
returns-in_default c = digits _ c.args.number (omega arith) c.ilog10.ensures.power_le c.ilog10.ensures.next_power_gt
