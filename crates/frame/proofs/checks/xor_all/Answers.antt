use Rattle.std.specs.Prelude.{ℕ, ◌≡◌, List, [], ◌∷◌}
use Rattle.std.proofs.Common.{sym, ◌∙◌, rules}
use Rattle.std.specs.List.{fold}
use Rattle.frame.specs.Xor.{◌⊕◌, xor_all}
use Rattle.frame.specs.XorLaws.{⊕-assoc, ⊕-zero, zero-⊕}
use Rattle.frame.proofs.checks.xor_all.Goals as goal

-- taken up one by one, from a on
folded : (a : ℕ) (l : List ℕ) → fold (λ (x b : ℕ). x ⊕ b) a l ≡ a ⊕ xor_all l
unfolding xor_all
folded a [] = sym (⊕-zero a)
folded a (b ∷ l) = folded (a ⊕ b) l ∙ ⊕-assoc a b (xor_all l)

pub returns : goal.returns
unfolding ◌⊕◌
returns c =
    let run : c.fold.result ≡ fold (λ (x b : ℕ). x ⊕ b) 0 c.args.bytes.now = search rules in
    run ∙ folded 0 c.args.bytes.now ∙ zero-⊕ _
