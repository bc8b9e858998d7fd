-- A session's bits are its nodes: it holds exactly those that its request names.
use Rattle.std.specs.Prelude.{ℕ, zero, suc, ◌/◌, ◌%◌, ◌^◌, ◌<◌, ◌≡◌, refl, List, [], ◌∷◌, Bool, true, false, cond, ◌&&◌, ◌||◌, length, set, get_or, replicate, ltb, eqb}
use Rattle.std.proofs.Common.{sym, ap, ◌∙◌, arith, mod-lt, div-one, mul_comm, mul-div_cancel, pow-suc, length-set, get_or-set_same, get_or-set_other, ltb-true, ltb-false, lt-ltb, le-ltb, eqb-true, eq-eqb, ne_eqb}
use Rattle.std.proofs.Math.Nat.{div-eq_of_lt, zero-div, div-div-eq-div-mul, mul-mod_left}
use Rattle.std.proofs.lemmas.List.{length-replicate}
use Rattle.std.proofs.Math.Seq.{set_out}
use Rattle.std.proofs.Math.Pow.{pow-lt}
use Rattle.std.specs.Int.Bits.{bit_or}
use Rattle.std.proofs.lemmas.Nat.{or_shr, or_mod}
use Rattle.std.proofs.Math.Dec.{eqb-zero-suc, eqb-suc-zero, eqb-suc-suc}
use Rattle.std.proofs.lemmas.Bool.{eqb-false}
use Rattle.nodes.specs.Table.{bit}
use Rattle.sessions.specs.declared.ModeSend.{ModeSend}
use Rattle.sessions.specs.Search.{any, member}
use Rattle.sessions.specs.Sessions.{target_count, mark_bytes, holds, named, with_bit, marked, session_slot}

-- ---- a number's binary digits

abbrev digit : ℕ → ℕ → Bool
digit x j = eqb (x / 2 ^ j % 2) 1

or_digits : (a b : ℕ) → a < 2 → b < 2 → eqb (bit_or a b) 1 ≡ (eqb a 1 || eqb b 1)
or_digits zero zero g h = refl
or_digits zero (suc zero) g h = refl
or_digits (suc zero) zero g h = refl
or_digits (suc zero) (suc zero) g h = refl
or_digits zero (suc (suc b)) g h = absurd (omega arith)
or_digits (suc zero) (suc (suc b)) g h = absurd (omega arith)
or_digits (suc (suc a)) b g h = absurd (omega arith)

or_digit : (x y j : ℕ) → digit (bit_or x y) j ≡ (digit x j || digit y j)
or_digit x y j =
    ap (λ (z : ℕ). eqb (z % 2) 1) (or_shr x y j) ∙ ap (λ (z : ℕ). eqb z 1) (or_mod (x / 2 ^ j) (y / 2 ^ j) 1)
    ∙ or_digits (x / 2 ^ j % 2) (y / 2 ^ j % 2) (mod-lt (x / 2 ^ j) (omega arith)) (mod-lt (y / 2 ^ j) (omega arith))

-- a power of two has one digit
power_half : (i j : ℕ) → 2 ^ suc i / 2 ^ suc j ≡ 2 ^ i / 2 ^ j
power_half i j =
    ap (λ (z : ℕ). 2 ^ suc i / z) (pow-suc 2 j ∙ mul_comm (2 ^ j) 2) ∙ sym (div-div-eq-div-mul (2 ^ suc i) 2 (2 ^ j))
    ∙ ap (λ (z : ℕ). z / 2 / 2 ^ j) (pow-suc 2 i) ∙ ap (λ (z : ℕ). z / 2 ^ j) (mul-div_cancel (2 ^ i) (omega arith))

power_digit : (i j : ℕ) → digit (2 ^ i) j ≡ eqb i j
power_digit zero zero = refl
power_digit zero (suc j) = ap (λ (z : ℕ). eqb (z % 2) 1) (div-eq_of_lt (pow-lt {i = 0} {j = suc j} (omega arith))) ∙ sym (eqb-zero-suc j)
power_digit (suc i) zero =
    ap (λ (z : ℕ). eqb (z % 2) 1) (div-one (2 ^ suc i) ∙ pow-suc 2 i) ∙ ap (λ (z : ℕ). eqb z 1) (mul-mod_left (2 ^ i) 2) ∙ sym (eqb-suc-zero i)
power_digit (suc i) (suc j) = ap (λ (z : ℕ). eqb (z % 2) 1) (power_half i j) ∙ power_digit i j ∙ sym (eqb-suc-suc i j)

-- ---- a bit set is that bit and no other

same_bit : (k n : ℕ) → n / 8 ≡ k / 8 → eqb (k % 8) (n % 8) ≡ eqb n k
same_bit k n e = go (eqb n k) refl
  where
    go : (b : Bool) → eqb n k ≡ b → eqb (k % 8) (n % 8) ≡ b
    go true x = eq-eqb (k % 8) (n % 8) (ap (λ (z : ℕ). z % 8) (sym (eqb-true n k x)))
    go false x = ne_eqb (k % 8) (n % 8) (λ y. eqb-false n k x (omega (arith, y, e)))

or_swap : (a b : Bool) → (a || b) ≡ (b || a)
or_swap true true = refl
or_swap true false = refl
or_swap false true = refl
or_swap false false = refl

and_false : {c : Bool} (a : Bool) → ((a && false) || c) ≡ c
and_false true = refl
and_false false = refl

pub with_bit-bit : (ms : List ℕ) (k n : ℕ) → bit (with_bit ms k) n ≡ ((ltb (n / 8) (length ms) && eqb n k) || bit ms n)
unfolding bit with_bit
with_bit-bit ms k n = go (eqb (n / 8) (k / 8)) (ltb (k / 8) (length ms)) refl refl
  where
    go : (a b : Bool) → eqb (n / 8) (k / 8) ≡ a → ltb (k / 8) (length ms) ≡ b
        → digit (get_or (set ms (k / 8) (bit_or (get_or ms (k / 8) 0) (2 ^ (k % 8)))) (n / 8) 0) (n % 8)
        ≡ ((ltb (n / 8) (length ms) && eqb n k) || digit (get_or ms (n / 8) 0) (n % 8))
    go true true x y =
        let e = eqb-true (n / 8) (k / 8) x in
        rw (e, y, get_or-set_same ms (k / 8) (bit_or (get_or ms (k / 8) 0) (2 ^ (k % 8))) 0 (ltb-true (k / 8) (length ms) y))
        (or_digit (get_or ms (k / 8) 0) (2 ^ (k % 8)) (n % 8) ∙ or_swap (digit (get_or ms (k / 8) 0) (n % 8)) (digit (2 ^ (k % 8)) (n % 8))
        ∙ ap (λ (b : Bool). b || digit (get_or ms (k / 8) 0) (n % 8)) (power_digit (k % 8) (n % 8) ∙ same_bit k n e))
    go true false x y =
        let e = eqb-true (n / 8) (k / 8) x in
        rw (e, y, set_out ms (k / 8) (bit_or (get_or ms (k / 8) 0) (2 ^ (k % 8))) (ltb-false (k / 8) (length ms) y))
    go false b x y =
        let other = ne_eqb n k (λ z. eqb-false (n / 8) (k / 8) x (ap (λ (m : ℕ). m / 8) z)) in
        rw (other, get_or-set_other ms (k / 8) (n / 8) (bit_or (get_or ms (k / 8) 0) (2 ^ (k % 8))) 0 (eqb-false (n / 8) (k / 8) x))
        (sym (and_false (ltb (n / 8) (length ms))))

with_bit-length : (ms : List ℕ) (k : ℕ) → length (with_bit ms k) ≡ length ms
unfolding with_bit
with_bit-length ms k = length-set ms (k / 8) (bit_or (get_or ms (k / 8) 0) (2 ^ (k % 8)))

-- ---- the bits of a session

-- a node is marked if it was before, or is among the indices and has a place
pub marked-bit : (n : ℕ) (ns ms : List ℕ) → bit (marked ms ns) n ≡ ((ltb (n / 8) (length ms) && member n ns) || bit ms n)
unfolding marked any
marked-bit n [] ms = sym (and_false (ltb (n / 8) (length ms)))
marked-bit n (m ∷ ns) ms =
    rw (marked-bit n ns (with_bit ms m), with_bit-length ms m, with_bit-bit ms m n) (go (ltb (n / 8) (length ms)) (eqb n m) (member n ns) (bit ms n))
  where
    go : (a b c d : Bool) → ((a && c) || ((a && b) || d)) ≡ ((a && cond b true c) || d)
    go true true true d = refl
    go true true false d = refl
    go true false c d = refl
    go false b c d = refl

-- a place of zeros has 0, and so has one behind them
pub zeros_at : (k i : ℕ) → ◌≡◌ {A = ℕ} (get_or (replicate k 0) i 0) 0
zeros_at zero i = refl
zeros_at (suc k) zero = refl
zeros_at (suc k) (suc i) = zeros_at k i

unmarked : (k n : ℕ) → bit (replicate k 0) n ≡ false
unfolding bit
unmarked k n = rw (zeros_at k (n / 8), zero-div (2 ^ (n % 8)))

-- the bits of 25 bytes are 0 to 199
places : (n : ℕ) → ltb (n / 8) mark_bytes ≡ ltb n target_count
places n = go (ltb n target_count) refl
  where
    go : (b : Bool) → ltb n target_count ≡ b → ltb (n / 8) mark_bytes ≡ b
    go true x = lt-ltb (n / 8) mark_bytes (omega (arith, ltb-true n target_count x))
    go false x = le-ltb (n / 8) mark_bytes (omega (arith, ltb-false n target_count x))

-- a session holds a node exactly if the request names it among its first count indices; none from 200 on
pub marks_exactly : (n l : ℕ) (r : ModeSend) → holds n (session_slot l r) ≡ (ltb n target_count && member n (named r))
marks_exactly n l r =
    marked-bit n (named r) (replicate mark_bytes 0)
    ∙ rw (unmarked mark_bytes n, length-replicate {A = ℕ} mark_bytes 0, places n) (or_swap (ltb n target_count && member n (named r)) false)

-- the bits of a session are 25 bytes
marked-length : (ns ms : List ℕ) → length (marked ms ns) ≡ length ms
unfolding marked
marked-length [] ms = refl
marked-length (n ∷ ns) ms = marked-length ns (with_bit ms n) ∙ with_bit-length ms n

pub session-marks : (l : ℕ) (r : ModeSend) → length (session_slot l r).nodes ≡ mark_bytes
session-marks l r = marked-length (named r) (replicate mark_bytes 0) ∙ length-replicate {A = ℕ} mark_bytes 0
