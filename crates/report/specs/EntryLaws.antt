-- A name byte by byte: how long it is, and its text one byte further.
use Rattle.std.specs.Prelude.{ℕ, ◌+◌, ◌*◌, ◌≤◌, ◌<◌, ◌≡◌, refl, List, [], ◌∷◌, ◌++◌, Bool, true, false, cond, length, take, drop, get_or, ltb, eqb, ◌||◌}
use Rattle.std.proofs.Common.{sym, ap, ◌∙◌, append_assoc, append-nil, add-zero, add-one, arith, drop_of_length-le, length-append, drop-cons, eq-eqb, ne_eqb}
use Rattle.memory.specs.WroteLaws.{take_more}
use Rattle.text.specs.Text.{ascii}
use Rattle.text.specs.Bytes.{hex2}
use Rattle.report.specs.Entry.{name_length, shown, shown_all}

-- ---- where a name ends

pub name_on : (l : List ℕ) (i : ℕ) → i < length l → (get_or l i 0 ≡ 0 → ⊥) → i + name_length (drop i l) ≡ i + 1 + name_length (drop (i + 1) l)
unfolding name_length
name_on l i h e = rw (drop-cons l i 0 h, ne_eqb (get_or l i 0) 0 e, add-one) (omega arith)

pub name_found : (l : List ℕ) (i : ℕ) → i < length l → get_or l i 0 ≡ 0 → i + name_length (drop i l) ≡ i
unfolding name_length
name_found l i h e = rw (drop-cons l i 0 h, eq-eqb (get_or l i 0) 0 e) (add-zero i)

pub name_end : (l : List ℕ) (i : ℕ) → length l ≤ i → i + name_length (drop i l) ≡ i
unfolding name_length
name_end l i h = rw (drop_of_length-le l h) (add-zero i)

-- ---- its text

shown_all_append : (a b : List ℕ) → shown_all (a ++ b) ≡ shown_all a ++ shown_all b
unfolding shown_all
shown_all_append [] b = refl
shown_all_append (x ∷ a) b = ap (λ (l : List ℕ). shown x ++ l) (shown_all_append a b) ∙ sym (append_assoc (shown x) (shown_all a) (shown_all b))

pub shown_more : (l : List ℕ) (i : ℕ) → i < length l → shown_all (take (i + 1) l) ≡ shown_all (take i l) ++ shown (get_or l i 0)
unfolding shown_all
shown_more l i h =
    ap shown_all (take_more l i h) ∙ shown_all_append (take i l) (get_or l i 0 ∷ []) ∙ ap (λ (x : List ℕ). shown_all (take i l) ++ x) (append-nil (shown (get_or l i 0)))

pub shown_short : (b : ℕ) → length (shown b) ≤ 4
unfolding shown ascii
shown_short b = go (ltb b 32 || eqb b 127) (eqb b 34 || eqb b 92)
  where
    go : (t u : Bool) → length (cond t (92 ∷ 120 ∷ hex2 b) (cond u (92 ∷ b ∷ []) (b ∷ []))) ≤ 4
    go true u = omega arith
    go false true = omega arith
    go false false = omega arith

pub shown_all_short : (l : List ℕ) → length (shown_all l) ≤ 4 * length l
unfolding shown_all
shown_all_short [] = omega arith
shown_all_short (b ∷ l) = omega (arith, length-append (shown b) (shown_all l), shown_short b, shown_all_short l)
