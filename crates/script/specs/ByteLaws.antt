-- Digits one by one: numbers, and words of bytes.
use Rattle.std.specs.Prelude.{ℕ, zero, suc, ◌+◌, ◌*◌, ◌-◌, ◌/◌, ◌≤◌, ◌<◌, ◌≡◌, refl, List, [], ◌∷◌, Bool, true, false, cond, not, ◌&&◌, length, get_or, drop, leb, ltb, Option, Some, None}
use Rattle.std.proofs.Common.{ap, ◌∙◌, sym, add-one, arith, drop_of_length-le, drop-cons, leb-true, ltb-true, lt-ltb, eq-eqb, ne_eqb}
use Rattle.std.proofs.lemmas.Option.{none-some, same_Some}
use Rattle.script.specs.Script.{between, digits_from, digits_most, leading_zero, is_plain, number, kept, number_up_to, hex_value, all_hex, pairs, hex_from, session}
use Rattle.script.specs.Code.{digit_of, pair_of}

-- ---- decimal digits

pub digits_on : (w : List ℕ) (i v : ℕ) → i < length w → between 48 57 (get_or w i 0) ≡ true
    → digits_from v (drop i w) ≡ digits_from (v * 10 + (get_or w i 0 - 48)) (drop (i + 1) w)
unfolding digits_from
digits_on w i v h e = rw (drop-cons w i 0 h, e, add-one)

pub digits-not : (w : List ℕ) (i v : ℕ) → i < length w → between 48 57 (get_or w i 0) ≡ false → digits_from v (drop i w) ≡ None
unfolding digits_from
digits-not w i v h e = rw (drop-cons w i 0 h, e)

pub digits_end : (w : List ℕ) (i v : ℕ) → length w ≤ i → digits_from v (drop i w) ≡ Some v
unfolding digits_from
digits_end w i v h = rw (drop_of_length-le w h)

pub plain_short : (w : List ℕ) → is_plain w ≡ true → length w ≤ digits_most
unfolding is_plain
plain_short w e = go (ltb 0 (length w)) (leb (length w) digits_most) (not (leading_zero w)) refl e
  where
    go : (t u v : Bool) → leb (length w) digits_most ≡ u → (t && u && v) ≡ true → length w ≤ digits_most
    go t true v p e = leb-true (length w) digits_most p
    go true false v p e = let z : ◌≡◌ {A = ℕ} 0 1 = cc in absurd (omega arith)
    go false false v p e = let z : ◌≡◌ {A = ℕ} 0 1 = cc in absurd (omega arith)

-- both ends of a range
pub between_is : (low high b : ℕ) → between low high b ≡ true → (low ≤ b) × (b ≤ high)
between_is low high b e = go (leb low b) (leb b high) refl refl e
  where
    go : (t u : Bool) → leb low b ≡ t → leb b high ≡ u → (t && u) ≡ true → (low ≤ b) × (b ≤ high)
    go true true p q e = (leb-true low b p, leb-true b high q)
    go true false p q e = let z : ◌≡◌ {A = ℕ} 0 1 = cc in absurd (omega arith)
    go false u p q e = let z : ◌≡◌ {A = ℕ} 0 1 = cc in absurd (omega arith)

-- a number is in its range
pub up_to_most : (most : ℕ) (w : List ℕ) (n : ℕ) → number_up_to most w ≡ Some n → n ≤ most
unfolding number_up_to
up_to_most most w n e = go (number w) e
  where
    is_within : (m : ℕ) (t : Bool) → leb m most ≡ t → cond t (Some m) None ≡ Some n → n ≤ most
    is_within m true p e = rw (same_Some m n e) at (leb-true m most p)
    is_within m false p e = absurd (none-some n e)

    go : (o : Option ℕ) → kept most o ≡ Some n → n ≤ most
    go None e = absurd (none-some n e)
    go (Some m) e = is_within m (leb m most) refl e

-- ---- hexadecimal digits

-- a digit that is one, and a byte that is none
pub digit_is : (b n : ℕ) → hex_value b ≡ n → n < 16 → digit_of b ≡ Some n
unfolding digit_of
digit_is b n e h = rw (e, lt-ltb n 16 h)

pub digit-not : (b : ℕ) → hex_value b ≡ 16 → digit_of b ≡ None
unfolding digit_of
digit-not b e = rw e

pub digit_value : (b n : ℕ) → digit_of b ≡ Some n → (hex_value b ≡ n) × (n < 16)
unfolding digit_of
digit_value b n e = go (ltb (hex_value b) 16) refl e
  where
    go : (t : Bool) → ltb (hex_value b) 16 ≡ t → cond t (Some (hex_value b)) None ≡ Some n → (hex_value b ≡ n) × (n < 16)
    go true p e = let same = same_Some (hex_value b) n e in (same, rw same at (ltb-true (hex_value b) 16 p))
    go false p e = absurd (none-some n e)

pub no_digit : (b : ℕ) → digit_of b ≡ None → ltb (hex_value b) 16 ≡ false
unfolding digit_of
no_digit b e = go (ltb (hex_value b) 16) e
  where
    go : (t : Bool) → cond t (Some (hex_value b)) None ≡ None → t ≡ false
    go true e = absurd (none-some (hex_value b) (sym e))
    go false e = refl

-- the byte of two digits
pub pair_is : (h l m n : ℕ) → digit_of h ≡ Some m → digit_of l ≡ Some n → pair_of h l ≡ Some (m * 16 + n)
unfolding pair_of
pair_is h l m n p q =
    let high = digit_value h m p in
    let low = digit_value l n q in
    rw (high.0, low.0, lt-ltb m 16 high.1, lt-ltb n 16 low.1)

pub pair-high : (h l : ℕ) → digit_of h ≡ None → pair_of h l ≡ None
unfolding pair_of
pair-high h l p = rw (no_digit h p)

pub pair-low : (h l m : ℕ) → digit_of h ≡ Some m → digit_of l ≡ None → pair_of h l ≡ None
unfolding pair_of
pair-low h l m p q =
    let high = digit_value h m p in
    rw (high.0, lt-ltb m 16 high.1, no_digit l q)

-- both are digits
both_are : (x n : ℕ) (t u b : Bool) → cond (t && u) (Some x) None ≡ Some n → (x ≡ n) × ((t && (u && b)) ≡ b)
both_are x n true true b k = (same_Some x n k, refl)
both_are x n true false b k = absurd (none-some n k)
both_are x n false u b k = absurd (none-some n k)

-- a pair of digits on
pub pair_on : (w : List ℕ) (i n : ℕ) → 2 * i + 1 < length w → pair_of (get_or w (2 * i) 0) (get_or w (2 * i + 1) 0) ≡ Some n
    → all_hex (drop (2 * i) w) ≡ all_hex (drop (2 * (i + 1)) w)
unfolding all_hex pair_of
pair_on w i n h k =
    let two : 2 * (i + 1) ≡ suc (suc (2 * i)) = omega arith in
    let one : 2 * i + 1 ≡ suc (2 * i) = omega arith in
    rw (drop-cons w (2 * i) 0 (omega arith), drop-cons w (suc (2 * i)) 0 (omega arith), two)
    (both_are (hex_value (get_or w (2 * i) 0) * 16 + hex_value (get_or w (suc (2 * i)) 0)) n (ltb (hex_value (get_or w (2 * i) 0)) 16) (ltb (hex_value (get_or w (suc (2 * i)) 0)) 16) (all_hex (drop (suc (suc (2 * i))) w)) (rw one at k)).1

-- the byte of two digits, where both are
pub pair_byte : (h l n : ℕ) → pair_of h l ≡ Some n → hex_value h * 16 + hex_value l ≡ n
unfolding pair_of
pair_byte h l n k = (both_are (hex_value h * 16 + hex_value l) n (ltb (hex_value h) 16) (ltb (hex_value l) 16) true k).0

-- a byte that is no digit
one_is_not : (x : ℕ) (t u b : Bool) → cond (t && u) (Some x) None ≡ None → (t && (u && b)) ≡ false
one_is_not x true true b e = absurd (none-some x (sym e))
one_is_not x true false b e = refl
one_is_not x false u b e = refl

pub pair_not : (w : List ℕ) (i : ℕ) → 2 * i + 1 < length w → pair_of (get_or w (2 * i) 0) (get_or w (2 * i + 1) 0) ≡ None → all_hex (drop (2 * i) w) ≡ false
unfolding all_hex pair_of
pair_not w i h k =
    let one : 2 * i + 1 ≡ suc (2 * i) = omega arith in
    rw (drop-cons w (2 * i) 0 (omega arith), drop-cons w (suc (2 * i)) 0 (omega arith))
    (one_is_not (hex_value (get_or w (2 * i) 0) * 16 + hex_value (get_or w (suc (2 * i)) 0)) (ltb (hex_value (get_or w (2 * i) 0)) 16) (ltb (hex_value (get_or w (suc (2 * i)) 0)) 16) (all_hex (drop (suc (suc (2 * i))) w)) (rw one at k))

pub hex_end : (w : List ℕ) (i : ℕ) → length w ≤ i → all_hex (drop i w) ≡ true
unfolding all_hex
hex_end w i h = rw (drop_of_length-le w h)

-- ---- words of bytes

pub length_pairs : (w : List ℕ) → length (pairs w) ≡ length w / 2
unfolding pairs
length_pairs [] = refl
length_pairs (h ∷ []) = refl
length_pairs (h ∷ l ∷ bs) = omega (arith, length_pairs bs)

pub pairs-at : (w : List ℕ) (i : ℕ) → 2 * i + 1 < length w → get_or (pairs w) i 0 ≡ hex_value (get_or w (2 * i) 0) * 16 + hex_value (get_or w (2 * i + 1) 0)
unfolding pairs
pairs-at [] i h = absurd (omega arith)
pairs-at (a ∷ []) i h = absurd (omega arith)
pairs-at (a ∷ b ∷ bs) zero h = refl
pairs-at (a ∷ b ∷ bs) (suc i) h =
    let e : 2 * suc i ≡ suc (suc (2 * i)) = omega arith in
    let f : suc (suc (2 * i)) + 1 ≡ suc (suc (2 * i + 1)) = omega arith in
    rw (e, f) (pairs-at bs i (omega arith))

-- ---- sessions

-- of four bytes the two pairs decide
abbrev pub left : List ℕ → Option ℕ
left w = pair_of (get_or w 0 0) (get_or w 1 0)

abbrev pub right : List ℕ → Option ℕ
right w = pair_of (get_or w 2 0) (get_or w 3 0)

-- the number of four digits, by its two pairs
hex_four : (w : List ℕ) (m n : ℕ) → length w ≡ 4 → left w ≡ Some m → right w ≡ Some n → hex_from 0 w ≡ m * 256 + n
unfolding hex_from
hex_four [] m n e h k = absurd (omega arith)
hex_four (a ∷ []) m n e h k = absurd (omega arith)
hex_four (a ∷ b ∷ []) m n e h k = absurd (omega arith)
hex_four (a ∷ b ∷ c ∷ []) m n e h k = absurd (omega arith)
hex_four (a ∷ b ∷ c ∷ d ∷ []) m n e h k = omega (arith, pair_byte a b m h, pair_byte c d n k)
hex_four (a ∷ b ∷ c ∷ d ∷ e ∷ w) m n q h k = absurd (omega arith)

pub session_is : (w : List ℕ) (m n : ℕ) → length w ≡ 4 → left w ≡ Some m → right w ≡ Some n → session w ≡ Some (m * 256 + n)
unfolding session
session_is w m n e h k =
    let all : all_hex w ≡ true = pair_on w 0 m (omega arith) h ∙ pair_on w 1 n (omega arith) k ∙ hex_end w 4 (omega arith) in
    rw (eq-eqb (length w) 4 e, all) (ap Some (hex_four w m n e h k))

pub session-length : (w : List ℕ) → (length w ≡ 4 → ⊥) → session w ≡ None
unfolding session
session-length w h = rw (ne_eqb (length w) 4 h)

pub session-left : (w : List ℕ) → length w ≡ 4 → left w ≡ None → session w ≡ None
unfolding session
session-left w e h = rw (eq-eqb (length w) 4 e, pair_not w 0 (omega arith) h)

pub session-right : (w : List ℕ) (m : ℕ) → length w ≡ 4 → left w ≡ Some m → right w ≡ None → session w ≡ None
unfolding session
session-right w m e h k = rw (eq-eqb (length w) 4 e, pair_on w 0 m (omega arith) h ∙ pair_not w 1 (omega arith) k)
