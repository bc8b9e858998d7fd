-- However a capture is cut into calls, what they write and the last line are the listing of the whole.
use Rattle.std.specs.Prelude.{ℕ, suc, ◌^◌, ◌<◌, ◌≡◌, refl, List, [], ◌∷◌, ◌++◌, Bool, true, false, cond, eqb, take, drop}
use Rattle.std.proofs.Common.{sym, ap, ap₂, ◌∙◌, arith, take_at}
use Rattle.frame.specs.Reader.{END, State, emptied, outcomes, final, step}
use Rattle.frame.proofs.ReaderLaws.{outcomes_append, final_append}
use Rattle.lister.specs.Lines.{left_line}
use Rattle.lister.specs.Listing.{lines, left_after, capped, listing}
use Rattle.lister.specs.ListingLaws.{lines_append, left_append}
use Rattle.lister.specs.Lists.{Calls, done, next}

-- what some calls wrote and left, of the bytes that they used
pub record Wrote (s : State) (k : ℕ) (u l : List ℕ) (e : State) (j : ℕ) : Type 0 where
  pub text : l ≡ lines (outcomes step s u)
  pub state : e ≡ final step s u
  pub left : capped j ≡ capped (left_after k u)

suc-capped : (a b : ℕ) → capped a ≡ capped b → capped (suc a) ≡ capped (suc b)
suc-capped a b e = omega arith

-- counts that are alike as far as 64 bits hold them stay so
left-capped : (a b : ℕ) (u : List ℕ) → capped a ≡ capped b → capped (left_after a u) ≡ capped (left_after b u)
unfolding left_after
left-capped a b [] e = e
left-capped a b (x ∷ u) e = left-capped (cond (eqb x END) 0 (suc a)) (cond (eqb x END) 0 (suc b)) u (go (eqb x END))
  where
    go : (t : Bool) → capped (cond t 0 (suc a)) ≡ capped (cond t 0 (suc b))
    go true = refl
    go false = suc-capped a b e

capped_twice : (n : ℕ) → capped (capped n) ≡ capped n
capped_twice n = omega arith

pub calls_wrote : {s e : State} {k j : ℕ} {u text : List ℕ} → Calls s k u text e j → Wrote s k u text e j
unfolding outcomes final lines left_after
calls_wrote done = record { text = refl; state = refl; left = refl }
calls_wrote (next {s} {e} {k} {j} {u} {text} w before after r x rest) =
    let y = calls_wrote rest in
    let v : List ℕ = take r.used w in
    let front : take r.written after ≡ lines (outcomes step s v) =
    ap (take r.written) x.text ∙ take_at (lines (outcomes step s v)) (drop r.written before) r.written (sym x.written) in
    record {
      text =
          ap₂ (λ (a b : List ℕ). a ++ b) front (y.text ∙ ap (λ (z : State). lines (outcomes step z u)) x.reading)
          ∙ sym (lines_append (outcomes step s v) (outcomes step (final step s v) u))
          ∙ ap lines (sym (outcomes_append step s v u));
      state = y.state ∙ ap (λ (z : State). final step z u) x.reading ∙ sym (final_append step s v u);
      left = y.left ∙ left-capped r.left (left_after k v) u (ap capped x.left ∙ capped_twice (left_after k v)) ∙ ap capped (sym (left_append k v u));
    }

-- the theorem: w was used in all, and no more than 64 bits hold was left
pub whole : {e : State} {j : ℕ} {w text : List ℕ} → Calls emptied 0 w text e j → j < 2 ^ 64 → left_after 0 w < 2 ^ 64 → text ++ left_line j ≡ listing w
unfolding listing
whole {e} {j} {w} {text} c h k =
    let x = calls_wrote c in
    let l : j ≡ left_after 0 w = omega (arith, x.left) in
    ap₂ (λ (a b : List ℕ). a ++ b) x.text (ap left_line l)
