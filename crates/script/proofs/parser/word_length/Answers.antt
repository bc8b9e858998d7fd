use Rattle.std.proofs.Common.{ℕ, suc, ap, ◌+◌, eqb, ◌≡◌, ◌≤◌, ◌==◌, refl, sym, ◌∙◌, arith, List, Bool, true, false, cond, length, ltb, Some, None}
use Rattle.std.specs.Option.{unwrap_or}
use Rattle.std.specs.List.{position, position_or_len}
use Rattle.std.proofs.lemmas.Bool.{ltb-false}
use Rattle.std.proofs.lemmas.List.Recursion.{is_position_or_len}
use Rattle.std.proofs.lemmas.List.Sums.{prefix_len-le-length}
use Rattle.script.specs.Script.{space}
use Rattle.script.specs.Code.{word_length}
use Rattle.script.proofs.parser.word_length.Goals as goal

first_or_all : (n m : ℕ) → n ≤ m → unwrap_or (cond (ltb n m) (Some n) None) m ≡ n
first_or_all n m h = go (ltb n m) refl
  where
    go : (t : Bool) → ltb n m ≡ t → unwrap_or (cond t (Some n) None) m ≡ n
    go true e = refl
    go false e = omega (arith, ltb-false n m e)

one_more : (n : ℕ) → suc n ≡ 1 + n
one_more n = omega arith

-- how many bytes stand before the first space, where there is one, and else all
before_space : (l : List ℕ) → unwrap_or (position (λ b. b == space) l) (length l) ≡ word_length l
unfolding word_length
before_space l =
    first_or_all (position_or_len (λ b. b == space) l) (length l) (prefix_len-le-length _ l)
    ∙ sym (is_position_or_len word_length (λ b. b == space) refl (λ x xs. ap (λ (n : ℕ). cond (eqb x space) 0 n) (one_more (word_length xs))) l)

pub returns : goal.returns
returns c = c.unwrap_or.ensures ∙ rw c.first_space.ensures (before_space c.args.text.now)
