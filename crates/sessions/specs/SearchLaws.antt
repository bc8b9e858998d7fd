-- Laws of searching, for loops that go through a list.
use Prim.Native.Nat.{ℕ, suc, ◌+◌, ◌<◌, ◌≤◌}
use Rattle.std.specs.Prelude.{◌≡◌, Bool, ◌||◌, drop, get_or, eqb}
use Rattle.std.proofs.Math.Path.{refl, sym}
use Rattle.std.proofs.Common.{ap, ◌∙◌, add-zero, suc-add, drop_of_length-le}
use mathlib.Core.List.{List, [], ◌∷◌, ◌++◌}
use Rattle.std.proofs.Math.Bool.{true, false, cond}
use Rattle.std.proofs.Math.Numerals.{add-one}
use Rattle.std.proofs.Math.Nat.{add-suc}
use native.Mathlib.Omega.{arith}
use Rattle.std.proofs.Math.ListN.{length}
use Rattle.std.proofs.Math.Seq.{drop-cons}
use Rattle.std.proofs.Math.Dec.{ltb, leb-zero, leb-suc-suc}
use Rattle.sessions.specs.Search.{any, first, member, below}

module _ {A : Type 0} (p : A → Bool) where
  -- from a place on: the element there fails, or passes, or there is none
  module _ (l : List A) (i : ℕ) (d : A) (h : i < length l) where
    pub any_on : p (get_or l i d) ≡ false → any p (drop i l) ≡ any p (drop (i + 1) l)
    unfolding any
    any_on e = rw (add-one, drop-cons l i d, any, e)

    pub any_found : p (get_or l i d) ≡ true → any p (drop i l) ≡ true
    unfolding any
    any_found e = rw (drop-cons l i d, any, e)

    pub first_on : p (get_or l i d) ≡ false → i + first p (drop i l) ≡ (i + 1) + first p (drop (i + 1) l)
    unfolding first
    first_on e = rw (drop-cons l i d, first, e, add-one, add-suc, suc-add)

    pub first_found : p (get_or l i d) ≡ true → i + first p (drop i l) ≡ i
    unfolding first
    first_found e = rw (drop-cons l i d, first, e, add-zero)

  pub any_end : (l : List A) (i : ℕ) → length l ≤ i → any p (drop i l) ≡ false
  unfolding any
  any_end l i h = rw (drop_of_length-le l h)

  pub first_end : (l : List A) (i : ℕ) → length l ≤ i → i + first p (drop i l) ≡ i
  unfolding first
  first_end l i h = rw (drop_of_length-le l h, add-zero)

  -- some element passes exactly if the first that does stands in the list
  pub any-first : (l : List A) → any p l ≡ ltb (first p l) (length l)
  unfolding any first
  any-first [] = refl
  any-first (a ∷ l) = go (p a) (any-first l)
    where
      go : (b : Bool) → any p l ≡ ltb (first p l) (length l) → cond b true (any p l) ≡ ltb (cond b 0 (suc (first p l))) (suc (length l))
      go true e = sym (leb-suc-suc 0 (length l) ∙ leb-zero (length l))
      go false e = e ∙ sym (leb-suc-suc (suc (first p l)) (length l))

  pub first_within : (l : List A) → first p l ≤ length l
  unfolding first
  first_within [] = omega arith
  first_within (a ∷ l) = go (p a) (first_within l)
    where
      go : (b : Bool) → first p l ≤ length l → cond b 0 (suc (first p l)) ≤ suc (length l)
      go true h = omega arith
      go false h = omega arith

  -- one element more behind the others, and one number more
  pub any_last : (l : List A) (a : A) → any p (l ++ a ∷ []) ≡ (any p l || p a)
  unfolding any
  any_last [] a = go (p a)
    where
      go : (b : Bool) → cond b true false ≡ b
      go true = refl
      go false = refl
  any_last (x ∷ l) a = go (p x) (any_last l a)
    where
      go : (b : Bool) → any p (l ++ a ∷ []) ≡ (any p l || p a) → cond b true (any p (l ++ a ∷ [])) ≡ (cond b true (any p l) || p a)
      go true e = refl
      go false e = e

-- one of two tests, and one for each of two lists: which list is gone through first does not matter
any_or : {B : Type 0} (p q : B → Bool) (l : List B) → any (λ b. cond (p b) true (q b)) l ≡ cond (any p l) true (any q l)
unfolding any
any_or p q [] = refl
any_or p q (b ∷ l) = go (p b) (q b) (any p l) (any q l) (any_or p q l)
  where
    go : (a c x y : Bool) {z : Bool} → z ≡ cond x true y → cond (cond a true c) true z ≡ cond (cond a true x) true (cond c true y)
    go true c x y e = refl
    go false true true y e = refl
    go false true false y e = refl
    go false false x y e = e

any_none : {B : Type 0} (l : List B) → any (λ b. false) l ≡ false
unfolding any
any_none [] = refl
any_none (b ∷ l) = any_none l

pub any_swap : {A B : Type 0} (f : A → B → Bool) (l : List A) (m : List B) → any (λ a. any (f a) m) l ≡ any (λ b. any (λ a. f a b) l) m
unfolding any
any_swap f [] m = sym (any_none m)
any_swap f (a ∷ l) m = ap (cond (any (f a) m) true) (any_swap f l m) ∙ sym (any_or (f a) (λ b. any (λ a. f a b) l) m)

pub any_below : (p : ℕ → Bool) (n : ℕ) → any p (below (n + 1)) ≡ (any p (below n) || p n)
unfolding below
any_below p n = rw (add-one, below) (any_last p (below n) n)

-- where a number is put among others does not matter
pub member-last : (m n : ℕ) (l : List ℕ) → member m (n ∷ l) ≡ member m (l ++ n ∷ [])
unfolding any
member-last m n [] = refl
member-last m n (k ∷ l) = go (eqb m n) (eqb m k) (member-last m n l)
  where
    go : (a b : Bool) → cond a true (member m l) ≡ member m (l ++ n ∷ []) → cond a true (cond b true (member m l)) ≡ cond b true (member m (l ++ n ∷ []))
    go true true e = refl
    go true false e = e
    go false true e = refl
    go false false e = e
