-- The library's words for searching say what specs/Search.antt does.
use Prim.Native.Nat.{ℕ, zero, suc, ◌+◌, ◌<◌}
use Rattle.std.specs.Prelude.{Some, None, is_some, ◌≡◌, Bool, ◌||◌, get_or}
use Rattle.std.specs.List.{find, list_any, position, position_from, range_with_len}
use Rattle.std.proofs.Math.Path.{refl, sym}
use Rattle.std.proofs.Common.{ap, ◌∙◌, add-zero}
use Rattle.std.proofs.Math.Nat.{zero-add}
use Rattle.std.proofs.lemmas.Iterator.Adapters.{position_from-zero}
use mathlib.Core.List.{List, [], ◌∷◌}
use Rattle.std.proofs.Math.Bool.{true, false, cond}
use native.Mathlib.Omega.{arith}
use Rattle.std.proofs.Math.ListN.{length}
use Rattle.std.proofs.Math.Dec.{eqb}
use borrow.Author.Tests.{eqb-true, eqb-false, eq-eqb, ne_eqb}
use mathlib.Core.List.{◌++◌}
use Rattle.sessions.specs.Search.{any, first, member, below}

module _ {A : Type 0} (p : A → Bool) where
  pub any_is : (l : List A) → list_any p l ≡ any p l
  unfolding any
  any_is [] = refl
  any_is (a ∷ l) = go (p a) (any_is l)
    where
      go : (b : Bool) → list_any p l ≡ any p l → (b || list_any p l) ≡ cond b true (any p l)
      go true e = refl
      go false e = e

  -- the place of the first that passes, counted from i
  position_from_is : (i : ℕ) (l : List A) → position_from p i l ≡ cond (any p l) (Some (i + first p l)) None
  unfolding any first
  position_from_is i [] = refl
  position_from_is i (a ∷ l) = go (p a) (position_from_is (i + 1) l)
    where
      go : (b : Bool) → position_from p (i + 1) l ≡ cond (any p l) (Some (i + 1 + first p l)) None
          → cond b (Some i) (position_from p (i + 1) l) ≡ cond (cond b true (any p l)) (Some (i + cond b 0 (suc (first p l)))) None
      go true e = rw add-zero
      go false e = let behind : i + 1 + first p l ≡ i + suc (first p l) = omega arith in rw behind at e

  pub position_is : (l : List A) → position p l ≡ cond (any p l) (Some (first p l)) None
  position_is l = position_from-zero p l ∙ position_from_is 0 l ∙ rw zero-add

  pub some_position : (l : List A) → is_some (position p l) ≡ any p l
  some_position l = ap is_some (position_is l) ∙ go (any p l)
    where
      go : (b : Bool) → is_some (cond b (Some (first p l)) None) ≡ b
      go true = refl
      go false = refl

  pub position_none : (l : List A) → position p l ≡ None → any p l ≡ false
  position_none l e = sym (some_position l) ∙ ap is_some e

  pub position_some : (l : List A) (k : ℕ) → position p l ≡ Some k → (any p l ≡ true) × (first p l ≡ k)
  position_some l k e = (some, go (any p l) some (sym (position_is l) ∙ e))
    where
      some : any p l ≡ true
      some = sym (some_position l) ∙ ap is_some e

      go : (b : Bool) → b ≡ true → cond b (Some (first p l)) None ≡ Some k → first p l ≡ k
      go true x y = cc
      go false x y = cc

  pub position_not : (l : List A) → ((k : ℕ) → position p l ≡ Some k → ⊥) → any p l ≡ false
  position_not l h = go (any p l) refl
    where
      go : (b : Bool) → any p l ≡ b → b ≡ false
      go true e = absurd (h (first p l) (position_is l ∙ rw e))
      go false e = refl

  -- found by its number, from i on
  pub find_from : (q : ℕ → Bool) (d : A) (l : List A) (i : ℕ) → ((k : ℕ) → k < length l → q (i + k) ≡ p (get_or l k d))
      → find q (range_with_len i (length l)) ≡ position_from p i l
  find_from q d [] i h = refl
  find_from q d (a ∷ l) i h =
      let here : q i ≡ p a = rw add-zero at (h 0 (omega arith)) in
      let behind : find q (range_with_len (i + 1) (length l)) ≡ position_from p (i + 1) l =
      find_from q d l (i + 1) (λ k b. ap q (omega arith) ∙ h (suc k) (omega arith)) in
      rw (here, behind)

-- a number that the library finds among others is a member
eqb_swap : (m n : ℕ) → eqb m n ≡ eqb n m
eqb_swap m n = go (eqb n m) refl
  where
    go : (b : Bool) → eqb n m ≡ b → eqb m n ≡ b
    go true e = eq-eqb m n (sym (eqb-true n m e))
    go false e = ne_eqb m n (λ x. eqb-false n m e (sym x))

pub member_is : (n : ℕ) (l : List ℕ) → list_any (λ m. eqb m n) l ≡ member n l
unfolding any
member_is n [] = refl
member_is n (m ∷ l) = rw (eqb_swap m n) (go (eqb n m) (member_is n l))
  where
    go : (b : Bool) → list_any (λ k. eqb k n) l ≡ member n l → (b || list_any (λ k. eqb k n) l) ≡ cond b true (member n l)
    go true e = refl
    go false e = e

-- the numbers below n are the library's n numbers from 0 on
range_last : (a n : ℕ) → range_with_len a (suc n) ≡ range_with_len a n ++ (a + n) ∷ []
range_last a zero = rw add-zero
range_last a (suc n) =
    let last : a + 1 + n ≡ a + suc n = omega arith in
    ap (λ (l : List ℕ). a ∷ l) (rw last at (range_last (a + 1) n))

pub range_below : (n : ℕ) → range_with_len 0 n ≡ below n
unfolding below
range_below zero = refl
range_below (suc n) = range_last 0 n ∙ rw (zero-add, range_below n)
