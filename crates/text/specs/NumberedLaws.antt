-- A number between two words, appended behind other text.
use Rattle.std.specs.Prelude.{ℕ, ◌+◌, ◌^◌, ◌≤◌, ◌<◌, ◌≡◌, List, [], ◌++◌, length}
use Rattle.std.proofs.Common.{sym, ap, ◌∙◌, append_assoc, append-nil, arith, length-append}
use Rattle.memory.specs.Wrote.{Wrote}
use Rattle.text.specs.Text.{decimal}
use Rattle.text.specs.DecimalLaws.{decimal_short}
use Rattle.text.specs.Appended.{appended, Leaves}
use Rattle.text.specs.AppendedLaws.{fitting_then}
use Rattle.text.specs.Built.{Built}
use Rattle.text.specs.BuiltLaws.{built_more}

four : (w x y z : List ℕ) → w ++ (x ++ y ++ z) ≡ w ++ x ++ y ++ z
four w x y z = sym (append_assoc w (x ++ y) z) ∙ ap (λ (l : List ℕ). l ++ z) (sym (append_assoc w x y))

-- texts appended one behind the other are stored, where they fit together
pub fitting-numbered : {l m n : List ℕ} {at a e : ℕ} {xs : List ℕ} (before : List ℕ) (number : ℕ) (behind : List ℕ)
    → (at + length xs ≤ length l → Wrote l at xs m a) → Leaves (appended m a (before ++ decimal number ++ behind)) n e
    → at + length (xs ++ before ++ decimal number ++ behind) ≤ length l → Wrote l at (xs ++ before ++ decimal number ++ behind) n e
fitting-numbered {xs} before number behind front x =
    rw (← four xs before (decimal number) behind) (fitting_then (before ++ decimal number ++ behind) front x)

-- the same with no word behind the number
pub fitting_word_number : {l m n : List ℕ} {at a e : ℕ} {xs : List ℕ} (before : List ℕ) (number : ℕ) → (at + length xs ≤ length l → Wrote l at xs m a)
    → Leaves (appended m a (before ++ decimal number ++ [])) n e → at + length (xs ++ before ++ decimal number) ≤ length l → Wrote l at (xs ++ before ++ decimal number) n e
fitting_word_number {xs} before number front x =
    rw (← append-nil (xs ++ before ++ decimal number)) (fitting-numbered before number [] front x)

-- a line that is being built; the number has no more than 20 digits
pub built_numbered : {size most : ℕ} {m n : List ℕ} {a e : ℕ} {xs : List ℕ} (before : List ℕ) (number : ℕ) (behind : List ℕ) → number < 2 ^ 64
    → most + (length before + 20 + length behind) ≤ size → Leaves (appended m a (before ++ decimal number ++ behind)) n e
    → Built size most xs m a → Built size (most + (length before + 20 + length behind)) (xs ++ before ++ decimal number ++ behind) n e
built_numbered {xs} before number behind h room x b =
    rw (← four xs before (decimal number) behind)
    (built_more (before ++ decimal number ++ behind) (length before + 20 + length behind)
    (simp length-append (omega (arith, decimal_short number h))) room x b)

pub built_word_number : {size most : ℕ} {m n : List ℕ} {a e : ℕ} {xs : List ℕ} (before : List ℕ) (number : ℕ) → number < 2 ^ 64
    → most + (length before + 20 + 0) ≤ size → Leaves (appended m a (before ++ decimal number ++ [])) n e
    → Built size most xs m a → Built size (most + (length before + 20 + 0)) (xs ++ before ++ decimal number) n e
built_word_number {xs} before number h room x b = rw append-nil at (built_numbered before number [] h room x b)
