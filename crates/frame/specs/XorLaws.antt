-- Laws of exclusive or. The library lacks that it is associative; from that it can be cancelled.
use Rattle.std.specs.Prelude.{ℕ, zero, suc, ◌+◌, ◌*◌, ◌/◌, ◌%◌, ◌<◌, ◌≡◌, refl, List, [], ◌∷◌, ◌++◌}
use Rattle.std.proofs.Common.{sym, ap, ap₂, ◌∙◌, arith, mod-lt}
use Rattle.std.proofs.Math.Arith.{bin_ind}
use Rattle.std.specs.Int.Bits.{bit_xor, differ, xor_step, xor_zero_r, xor_self}
use Rattle.std.proofs.lemmas.Nat.{xor_comm, xor_shr, xor_mod}
use Rattle.frame.specs.Xor.{◌⊕◌, xor_all}

-- ---- by binary digits

-- 0 or 1
data Digit : ℕ → Type 0 where
  off : Digit 0
  on : Digit 1

digit : (n : ℕ) → n < 2 → Digit n
digit zero h = off
digit (suc zero) h = on
digit (suc (suc n)) h = absurd (omega arith)

-- the last digit
low : (a : ℕ) → Digit (a % 2)
low a = digit (a % 2) (mod-lt a (omega arith))

-- at digits, eight closed cases
xor_digit : {a b : ℕ} → Digit a → Digit b → bit_xor a b ≡ differ a b
xor_digit off off = refl
xor_digit off on = refl
xor_digit on off = refl
xor_digit on on = refl

differ_assoc : {a b c : ℕ} → Digit a → Digit b → Digit c → differ (differ a b) c ≡ differ a (differ b c)
differ_assoc off b c = refl
differ_assoc on off c = refl
differ_assoc on on off = refl
differ_assoc on on on = refl

xor_half : (a b : ℕ) → bit_xor a b / 2 ≡ bit_xor (a / 2) (b / 2)
xor_half a b = xor_shr a b 1

xor_low : (a b : ℕ) → bit_xor a b % 2 ≡ differ (a % 2) (b % 2)
xor_low a b = xor_mod a b 1 ∙ xor_digit (low a) (low b)

abbrev Associates : ℕ → Type 0
Associates a = (b c : ℕ) → bit_xor (bit_xor a b) c ≡ bit_xor a (bit_xor b c)

-- as the halves do, so do the numbers
xor_assoc_step : (a : ℕ) → Associates (a / 2) → Associates a
xor_assoc_step a ih b c =
    xor_step (bit_xor a b) c
    ∙ ap₂ (λ (x y : ℕ). bit_xor x (c / 2) * 2 + differ y (c % 2)) (xor_half a b) (xor_low a b)
    ∙ ap₂ (λ (x y : ℕ). x * 2 + y) (ih (b / 2) (c / 2)) (differ_assoc (low a) (low b) (low c))
    ∙ ap₂ (λ (x y : ℕ). bit_xor (a / 2) x * 2 + differ (a % 2) y) (sym (xor_half b c)) (sym (xor_low b c))
    ∙ sym (xor_step a (bit_xor b c))

-- ---- of two numbers

-- brackets do not matter
pub ⊕-assoc : (a b c : ℕ) → (a ⊕ b) ⊕ c ≡ a ⊕ (b ⊕ c)
unfolding ◌⊕◌
⊕-assoc a b c = bin_ind Associates (λ b c. refl) xor_assoc_step a b c

-- nor does the order
pub ⊕-comm : (a b : ℕ) → a ⊕ b ≡ b ⊕ a
unfolding ◌⊕◌
⊕-comm a b = xor_comm a b

-- a number cancels itself
pub ⊕-self : (a : ℕ) → a ⊕ a ≡ 0
unfolding ◌⊕◌
⊕-self a = xor_self a

-- zero changes nothing on the right
pub ⊕-zero : (a : ℕ) → a ⊕ 0 ≡ a
unfolding ◌⊕◌
⊕-zero a = xor_zero_r a

-- nor on the left
pub zero-⊕ : (a : ℕ) → 0 ⊕ a ≡ a
unfolding ◌⊕◌
zero-⊕ a = refl

-- the same number twice changes nothing
pub ⊕-back : (a b : ℕ) → a ⊕ (a ⊕ b) ≡ b
⊕-back a b = sym (⊕-assoc a a b) ∙ ap (λ (x : ℕ). x ⊕ b) (⊕-self a) ∙ zero-⊕ b

-- a common number on the left can be dropped
pub ⊕-cancel : (a : ℕ) {b c : ℕ} → a ⊕ b ≡ a ⊕ c → b ≡ c
⊕-cancel a {b} {c} e = sym (⊕-back a b) ∙ ap (λ (x : ℕ). a ⊕ x) e ∙ ⊕-back a c

-- and on the right
pub ⊕-cancel-right : (c : ℕ) {a b : ℕ} → a ⊕ c ≡ b ⊕ c → a ≡ b
⊕-cancel-right c {a} {b} e = ⊕-cancel c (⊕-comm c a ∙ e ∙ ⊕-comm b c)

-- ---- of a list

-- a list's is that of its parts
pub xor_all_append : (a b : List ℕ) → xor_all (a ++ b) ≡ xor_all a ⊕ xor_all b
unfolding xor_all
xor_all_append [] b = sym (zero-⊕ (xor_all b))
xor_all_append (x ∷ a) b = ap (λ (n : ℕ). x ⊕ n) (xor_all_append a b) ∙ sym (⊕-assoc x (xor_all a) (xor_all b))

-- with one more number behind a list
pub xor_all_snoc : (a : List ℕ) (v : ℕ) → xor_all (a ++ v ∷ []) ≡ xor_all a ⊕ v
unfolding xor_all
xor_all_snoc a v = xor_all_append a (v ∷ []) ∙ ap (λ (n : ℕ). xor_all a ⊕ n) (⊕-zero v)
