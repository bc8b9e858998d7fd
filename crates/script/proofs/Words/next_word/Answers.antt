use Rattle.std.proofs.Common.{ℕ, ◌+◌, ◌-◌, ◌≤◌, ◌<◌, ◌≡◌, sym, ap, ◌∙◌, arith, List, length, drop, take, length-drop, length-take, length-take-le, take_all}
use Rattle.script.specs.Script.{first, rest}
use Rattle.script.specs.Code.{word_length, word_end, words_from}
use Rattle.script.specs.WordLaws.{length_word, from-behind, from_cut, end_is}
use Rattle.script.proofs.Words.next_word.Goals as goal

-- the text behind a place begins with the next word
begins : (l text : List ℕ) (i n : ℕ) → i ≤ length l → text ≡ take (length l - i) (drop i l) → n ≡ word_length text
    → (first (words_from l i) ≡ take n text) × (rest (words_from l i) ≡ words_from l (i + (n + 1))) × (length (take n text) ≤ length l)
begins l text i n h part e =
    let whole : text ≡ drop i l = part ∙ take_all (length l - i) (drop i l) (omega (arith, length-drop i l)) in
    let end : word_end l i ≡ i + n = end_is l i h ∙ ap (λ (k : ℕ). i + k) (sym (e ∙ ap word_length whole)) in
    let long : word_end l i - i ≡ n = omega arith in
    let next : i + (n + 1) ≡ word_end l i + 1 = omega arith in
    let cut = from_cut l i h in
    (ap first cut ∙ rw (long, whole), ap rest cut ∙ rw next, omega (arith, length-take n text, ap length whole, length-drop i l))

pub returns-in_err-text : goal.returns-in_err-text
returns-in_err-text c =
    let past : length c.args.self.now.line.now < c.args.self.now.from = omega (arith, c.in_err-text.ensures.lookup.0) in
    rw c.from_residual.ensures (from-behind _ _ past)

pub overflow_add-self : goal.overflow_add-self
overflow_add-self c = omega (arith, length_word c.in_ok-text.text.now, c.word_length-end.ensures, c.in_ok-text.ensures.lookup.0, c.args.self.now.short)

pub overflow_add-self-2 : goal.overflow_add-self-2
overflow_add-self-2 c = omega (arith, length_word c.in_ok-text.text.now, c.word_length-end.ensures, c.in_ok-text.ensures.lookup.0, c.args.self.now.short)

pub slice_bounds-result-end : goal.slice_bounds-result-end
slice_bounds-result-end c = sym (length-take-le _ _ (rw c.word_length-end.ensures (length_word c.in_ok-text.text.now)))

pub returns : goal.returns
returns c =
    let part = c.in_ok-text.ensures.lookup.0 in
    begins c.args.self.now.line.now c.in_ok-text.text.now c.args.self.now.from c.word_length-end.result part.0 part.2 c.word_length-end.ensures
