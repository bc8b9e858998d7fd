-- The words of a line, one by one: where each starts and ends.
use Rattle.std.specs.Prelude.{ℕ, suc, ◌+◌, ◌-◌, ◌≤◌, ◌<◌, ◌≡◌, refl, List, [], ◌∷◌, Bool, true, false, cond, length, get_or, take, drop, leb, ltb, eqb}
use Rattle.std.proofs.Common.{sym, ap, ◌∙◌, add-zero, add-one, arith, length-drop, drop_of_length-le, drop-cons, drop-drop, leb-true, leb-false, le-leb, ltb-true}
use Rattle.std.proofs.lemmas.Bool.{lt-leb, ltb-false}
use Rattle.script.specs.Script.{space, before, words, first, rest, ended}
use Rattle.script.specs.Code.{word_length, word_end, words_from}

-- ---- the first word

-- the words behind the space that ends one
abbrev behind : List ℕ → List (List ℕ)
behind [] = []
behind (b ∷ bs) = words bs

words-first : (l : List ℕ) → words l ≡ take (word_length l) l ∷ behind (drop (word_length l) l)
unfolding words word_length
words-first [] = refl
words-first (b ∷ bs) = go (eqb b space) (words-first bs)
  where
    go : (t : Bool) → words bs ≡ take (word_length bs) bs ∷ behind (drop (word_length bs) bs) → cond t ([] ∷ words bs) (before b (words bs))
        ≡ take (cond t 0 (suc (word_length bs))) (b ∷ bs) ∷ behind (drop (cond t 0 (suc (word_length bs))) (b ∷ bs))
    go true e = refl
    go false e = ap (before b) e

pub length_word : (l : List ℕ) → word_length l ≤ length l
unfolding word_length
length_word [] = omega arith
length_word (b ∷ bs) = go (eqb b space) (length_word bs)
  where
    go : (t : Bool) → word_length bs ≤ length bs → cond t 0 (suc (word_length bs)) ≤ suc (length bs)
    go true h = omega arith
    go false h = omega arith

-- ---- byte by byte

pub word_on : (l : List ℕ) (i : ℕ) → i < length l → eqb (get_or l i 0) space ≡ false → i + word_length (drop i l) ≡ i + 1 + word_length (drop (i + 1) l)
unfolding word_length
word_on l i h e = rw (drop-cons l i 0 h, e, add-one) (omega arith)

pub word_found : (l : List ℕ) (i : ℕ) → i < length l → eqb (get_or l i 0) space ≡ true → i + word_length (drop i l) ≡ i
unfolding word_length
word_found l i h e = rw (drop-cons l i 0 h, e) (add-zero i)

pub word_end_lem : (l : List ℕ) (i : ℕ) → length l ≤ i → i + word_length (drop i l) ≡ i
unfolding word_length
word_end_lem l i h = rw (drop_of_length-le l h) (add-zero i)

-- ---- where a word ends

pub end_within : (l : List ℕ) (i : ℕ) → word_end l i ≤ length l
unfolding word_end
end_within l i = omega arith

pub end_behind : (l : List ℕ) (i : ℕ) → i ≤ length l → i ≤ word_end l i
unfolding word_end
end_behind l i h = omega arith

-- it lies between the word's start and the line's end
pub end_part : (l : List ℕ) (i e : ℕ) → i ≤ length l → e ≡ word_end l i → (i ≤ e) × (e ≤ length l)
end_part l i e h p = rw p (end_behind l i h, end_within l i)

pub end_is : (l : List ℕ) (i : ℕ) → i ≤ length l → word_end l i ≡ i + word_length (drop i l)
unfolding word_end
end_is l i h = omega (arith, length_word (drop i l), length-drop i l)

-- ---- the words from a place on

pub from-behind : (l : List ℕ) (i : ℕ) → length l < i → words_from l i ≡ []
unfolding words_from
from-behind l i h = rw (lt-leb i (length l) h)

pub from_within : (l : List ℕ) (i : ℕ) → i ≤ length l → words_from l i ≡ words (drop i l)
unfolding words_from
from_within l i h = rw (le-leb i (length l) h)

behind-from : (l : List ℕ) (k : ℕ) → k ≤ length l → behind (drop k l) ≡ words_from l (k + 1)
behind-from l k h = go (leb (length l) k) refl
  where
    go : (t : Bool) → leb (length l) k ≡ t → behind (drop k l) ≡ words_from l (k + 1)
    go true e =
        let past = leb-true (length l) k e in
        ap behind (drop_of_length-le l past) ∙ sym (from-behind l (k + 1) (omega arith))
    go false e =
        let less = leb-false (length l) k e in
        ap behind (drop-cons l k 0 less) ∙ rw (← add-one k) (sym (from_within l (k + 1) (omega arith)))

-- the first of them, and the others
pub from_cut : (l : List ℕ) (i : ℕ) → i ≤ length l → words_from l i ≡ take (word_end l i - i) (drop i l) ∷ words_from l (word_end l i + 1)
from_cut l i h =
    let end = end_is l i h in
    let long : word_end l i - i ≡ word_length (drop i l) = omega arith in
    from_within l i h
    ∙ words-first (drop i l)
    ∙ rw (drop-drop (word_length (drop i l)) i l, long, ← end)
    (ap (λ (ws : List (List ℕ)). take (word_length (drop i l)) (drop i l) ∷ ws) (behind-from l (word_end l i) (end_within l i)))

pub from_first : (l : List ℕ) (i : ℕ) → i ≤ length l → first (words_from l i) ≡ take (word_end l i - i) (drop i l)
from_first l i h = ap first (from_cut l i h)

pub from-rest : (l : List ℕ) (i : ℕ) → rest (words_from l i) ≡ words_from l (word_end l i + 1)
unfolding word_end
from-rest l i = go (leb i (length l)) refl
  where
    go : (t : Bool) → leb i (length l) ≡ t → rest (words_from l i) ≡ words_from l (word_end l i + 1)
    go true e = ap rest (from_cut l i (leb-true i (length l) e))
    go false e =
        let past = leb-false i (length l) e in
        ap rest (from-behind l i past) ∙ sym (from-behind l (word_end l i + 1) (omega arith))

-- none is left behind the line's end
pub ended_is : (l : List ℕ) (i : ℕ) → length l < i → ended (words_from l i) ≡ true
ended_is l i h = ap ended (from-behind l i h)

pub ended-not : (l : List ℕ) (i : ℕ) → i ≤ length l → ended (words_from l i) ≡ false
ended-not l i h = ap ended (from_cut l i h)

-- so where the next one would start says whether there is one
pub ended_by : (l : List ℕ) (i : ℕ) → ltb (length l) i ≡ ended (words_from l i)
ended_by l i = go (ltb (length l) i) refl
  where
    go : (t : Bool) → ltb (length l) i ≡ t → t ≡ ended (words_from l i)
    go true e = sym (ended_is l i (ltb-true (length l) i e))
    go false e = sym (ended-not l i (ltb-false (length l) i e))

pub ended_behind : (l : List ℕ) (i : ℕ) → ended (words_from l i) ≡ true → length l < i
ended_behind l i h = ltb-true (length l) i (ended_by l i ∙ h)

pub ended_within : (l : List ℕ) (i : ℕ) → ended (words_from l i) ≡ false → i ≤ length l
ended_within l i h = ltb-false (length l) i (ended_by l i ∙ h)

-- the part of the line up to the word's end is that word
pub word_part : (l : List ℕ) (i e : ℕ) → i ≤ length l → e ≡ word_end l i → take (e - i) (drop i l) ≡ first (words_from l i)
word_part l i e h p = rw (p, from_first l i h)
