-- Bytes as text: one more, and how long it is.
use Rattle.std.specs.Prelude.{ℕ, zero, suc, ◌+◌, ◌*◌, ◌<◌, ◌≡◌, refl, List, [], ◌∷◌, ◌++◌, length, take, get_or}
use Rattle.std.proofs.Common.{ap, ◌∙◌, arith}
use Rattle.memory.specs.WroteLaws.{take_more}
use Rattle.text.specs.Text.{ascii}
use Rattle.text.specs.Bytes.{hex2, hex_pairs, bytes_word, word_length}

hex_pairs_append : (a b : List ℕ) → hex_pairs (a ++ b) ≡ hex_pairs a ++ hex_pairs b
unfolding hex_pairs
hex_pairs_append [] b = refl
hex_pairs_append (x ∷ a) b = ap (λ (l : List ℕ). hex2 x ++ l) (hex_pairs_append a b)

pub hex_pairs_more : (l : List ℕ) (i : ℕ) → i < length l → hex_pairs (take (i + 1) l) ≡ hex_pairs (take i l) ++ hex2 (get_or l i 0)
unfolding hex_pairs
hex_pairs_more l i h = ap hex_pairs (take_more l i h) ∙ hex_pairs_append (take i l) (get_or l i 0 ∷ [])

pub length-hex_pairs : (l : List ℕ) → length (hex_pairs l) ≡ 2 * length l
unfolding hex_pairs
length-hex_pairs [] = refl
length-hex_pairs (b ∷ l) = omega (arith, length-hex_pairs l)

pub length-bytes_word : (l : List ℕ) → length (bytes_word l) ≡ word_length (length l)
unfolding bytes_word word_length ascii
length-bytes_word [] = refl
length-bytes_word (b ∷ l) = length-hex_pairs (b ∷ l)

pub word_length-some : (n : ℕ) → 0 < n → word_length n ≡ 2 * n
unfolding word_length
word_length-some zero h = absurd (omega arith)
word_length-some (suc n) h = refl

pub bytes_word-none : (l : List ℕ) → length l ≡ 0 → bytes_word l ≡ ascii "-"
unfolding bytes_word
bytes_word-none [] e = refl
bytes_word-none (b ∷ l) e = absurd (omega arith)

pub bytes_word-some : (l : List ℕ) → 0 < length l → bytes_word l ≡ hex_pairs l
unfolding bytes_word
bytes_word-some [] h = absurd (omega arith)
bytes_word-some (b ∷ l) h = refl

-- no text of bytes is empty
pub word_length_least : (n : ℕ) → 0 < word_length n
unfolding word_length
word_length_least zero = omega arith
word_length_least (suc n) = omega arith
