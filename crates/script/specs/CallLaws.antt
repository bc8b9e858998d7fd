-- A line by its length, its first byte and its call word.
use Rattle.std.specs.Prelude.{ℕ, ◌+◌, ◌-◌, ◌≤◌, ◌<◌, ◌≡◌, refl, List, [], ◌∷◌, true, false, length, take, get_or, eqb, Option, Some, None}
use Rattle.std.proofs.Common.{sym, ap, ◌∙◌, arith, le-leb}
use Rattle.std.proofs.lemmas.Bool.{lt-leb}
use Rattle.std.proofs.lemmas.Option.{same_Some}
use Rattle.script.specs.Script.{longest, table_most, table_right, words, first, table_of, number_up_to, remark, long, called, call_of, hash, is_remark, parse}
use Rattle.script.specs.Code.{word_end, words_from, Numbered, TableAt}
use Rattle.script.specs.WordLaws.{from-behind, from_within, from_cut}
use Rattle.script.specs.ByteLaws.{up_to_most}

-- ---- [TABLE]

pub table_none : (l : List ℕ) (i : ℕ) → length l < i → table_of (words_from l i) ≡ Some table_right
unfolding table_of
table_none l i h = rw (from-behind l i h)

pub table_word : (l : List ℕ) (i : ℕ) → i ≤ length l → table_of (words_from l i) ≡ number_up_to table_most (first (words_from l i))
unfolding table_of
table_word l i h = rw (from_cut l i h)

-- the number of the word is that of [TABLE]
pub table-numbered : (l : List ℕ) (i : ℕ) (left : List (List ℕ)) (r : Option ℕ) → i ≤ length l → Numbered table_most (words_from l i) left r → TableAt (words_from l i) left r
table-numbered l i left (Some n) h p = (table_word l i h ∙ p.0, p.1)
table-numbered l i left None h p = table_word l i h ∙ p

pub table_most_lem : (ws : List (List ℕ)) (n : ℕ) → table_of ws ≡ Some n → n ≤ table_most
unfolding table_of
table_most_lem [] n e = let same_number = same_Some table_right n e in omega arith
table_most_lem (w ∷ ws) n e = up_to_most table_most w n e

-- ---- remarks

pub remark_empty : (l : List ℕ) → length l ≡ 0 → is_remark l ≡ true
unfolding is_remark
remark_empty [] e = refl
remark_empty (b ∷ l) e = absurd (omega arith)

pub remark_first : (l : List ℕ) → 0 < length l → is_remark l ≡ eqb (get_or l 0 0) hash
unfolding is_remark
remark_first [] h = absurd (omega arith)
remark_first (b ∷ l) h = refl

-- ---- the whole line

pub parse-long : (l : List ℕ) → longest < length l → parse l ≡ long
unfolding parse
parse-long l h = rw (lt-leb (length l) longest h)

pub parse_remark : (l : List ℕ) → length l ≤ longest → is_remark l ≡ true → parse l ≡ remark
unfolding parse
parse_remark l h e = rw (le-leb (length l) longest h, e)

pub parse-words : (l : List ℕ) → length l ≤ longest → is_remark l ≡ false → parse l ≡ call_of (words l)
unfolding parse
parse-words l h e = rw (le-leb (length l) longest h, e)

-- the call word, and the words behind it
pub parse_word : (l : List ℕ) → length l ≤ longest → is_remark l ≡ false → parse l ≡ called (take (word_end l 0) l) (words_from l (word_end l 0 + 1))
parse_word l h e =
    let whole : word_end l 0 - 0 ≡ word_end l 0 = omega arith in
    parse-words l h e ∙ ap call_of (sym (from_within l 0 (omega arith)) ∙ from_cut l 0 (omega arith)) ∙ rw whole
