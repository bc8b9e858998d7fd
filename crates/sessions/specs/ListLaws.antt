-- Laws of lists: an element at a place, and what is made of each of the numbers below n.
use Prim.Native.Nat.{ℕ, zero, suc, ◌<◌}
use Rattle.std.specs.Prelude.{◌≡◌, Bool, length}
use Rattle.std.proofs.Math.Path.{refl}
use Rattle.std.proofs.Common.{sym, ap, ◌∙◌, arith, length-append, drop-cons}
use mathlib.Core.List.{List, [], ◌∷◌, ◌++◌, map}
use Rattle.std.proofs.Math.Bool.{true, false}
use Rattle.std.proofs.Math.ListN.{get_or, get_or-append}
use Rattle.std.proofs.Math.Seq.{get_or-append_seam}
use Rattle.std.proofs.Math.Dec.{ltb}
use borrow.Author.Tests.{ltb-true, ltb-false}
use Rattle.sessions.specs.Search.{any, below}
use Rattle.sessions.specs.SearchLaws.{any_last}

-- an element that is there, whatever stands for one that is not
pub get_d_there : {A : Type 0} (l : List A) (i : ℕ) (d e : A) → i < length l → get_or l i d ≡ get_or l i e
get_d_there {A} l i d e h = ap (λ (m : List A). get_or m 0 d) (sym (drop-cons l i d h) ∙ drop-cons l i e h)

-- as many as there are numbers, and at each place what is made of its number
module _ {A : Type 0} (f : ℕ → A) where
  pub map_last : (l : List ℕ) (n : ℕ) → map f (l ++ n ∷ []) ≡ map f l ++ f n ∷ []
  map_last [] n = refl
  map_last (m ∷ l) n = ap (λ (r : List A). f m ∷ r) (map_last l n)

  pub below-count : (n : ℕ) → length (map f (below n)) ≡ n
  unfolding below
  below-count zero = refl
  below-count (suc n) = rw map_last (length-append (map f (below n)) (f n ∷ []) ∙ rw (below-count n) (omega arith))

  pub below_at : (n k : ℕ) (d : A) → k < n → get_or (map f (below n)) k d ≡ f k
  unfolding below
  below_at zero k d h = absurd (omega arith)
  below_at (suc n) k d h = rw map_last (go (ltb k n) refl (below_at n k d))
    where
      go : (b : Bool) → ltb k n ≡ b → (k < n → get_or (map f (below n)) k d ≡ f k) → get_or (map f (below n) ++ f n ∷ []) k d ≡ f k
      go true e r =
          let h' = ltb-true k n e in
          get_or-append (map f (below n)) (f n ∷ []) d k (rw (below-count n) h') ∙ r h'
      go false e r =
          let same : k ≡ n = omega (arith, ltb-false k n e, h) in
          rw same (rw (below-count n) at (get_or-append_seam (map f (below n)) (f n) [] d))

-- none of them passes a test that each fails
pub below_each : {A : Type 0} (p : A → Bool) (f : ℕ → A) (n : ℕ) → ((j : ℕ) → j < n → p (f j) ≡ false) → any p (map f (below n)) ≡ false
unfolding below any
below_each p f zero h = refl
below_each p f (suc n) h = rw (map_last f (below n) n, any_last p (map f (below n)) (f n), below_each p f n (λ j x. h j (omega arith)), h n (omega arith))
