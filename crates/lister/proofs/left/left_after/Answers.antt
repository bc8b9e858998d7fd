use Rattle.std.proofs.Common.{ℕ, suc, ◌+◌, ◌≡◌, sym, ◌∙◌, List, [], ◌∷◌, cond, length, eqb, reverse, add-zero, add-suc, ap, arith}
use Rattle.std.proofs.lemmas.Bool.Decides.{nat_tests}
use Rattle.std.proofs.lemmas.Grind.{common_steps, reverse_onto}
use Rattle.std.proofs.lemmas.List.{reverse-reverse, length-reverse}
use Rattle.std.specs.Prelude.{◌==◌, position, unwrap_or}
use Rattle.frame.specs.Reader.{END}
use Rattle.lister.specs.Listing.{left_after}
use Rattle.lister.specs.ListingLaws.{left_append}
use Rattle.lister.proofs.left.left_after.Goals as goal

-- one byte further from the end
position_more : (b : ℕ) (l : List ℕ) (n : ℕ) → unwrap_or (position (λ b. b == END) (b ∷ l)) (suc n) ≡ cond (eqb b END) 0 (suc (unwrap_or (position (λ b. b == END) l) n))
position_more b l n = grind (arith, nat_tests, common_steps)

-- how many bytes there are behind the last END, or since the count's start
from_end : (k : ℕ) (l : List ℕ) → left_after k (reverse l) ≡ unwrap_or (position (λ b. b == END) l) (k + length l)
unfolding left_after
from_end k [] = rw add-zero
from_end k (b ∷ l) = rw (reverse_onto l b [], left_append k (reverse l) (b ∷ []), from_end k l, add-suc) (sym (position_more b l (k + length l)))

behind : (k : ℕ) (w : List ℕ) → left_after k w ≡ unwrap_or (position (λ b. b == END) (reverse w)) (k + length w)
behind k w =
    ap (left_after k) (sym (reverse-reverse w)) ∙ from_end k (reverse w)
    ∙ ap (λ (n : ℕ). unwrap_or (position (λ b. b == END) (reverse w)) (k + n)) (length-reverse w)

pub returns-in-Some : goal.returns-in-Some
returns-in-Some c =
    let e : left_after c.args.left c.args.wire.now ≡ c.in-Some.n = behind c.args.left c.args.wire.now ∙ rw (← c.in-Some.ensures) in
    omega (arith, e)

pub returns-in-None : goal.returns-in-None
returns-in-None c =
    let e : left_after c.args.left c.args.wire.now ≡ c.args.left + length c.args.wire.now = behind c.args.left c.args.wire.now ∙ rw (← c.in-None.ensures) in
    omega (arith, e, c.saturating_add.ensures)
