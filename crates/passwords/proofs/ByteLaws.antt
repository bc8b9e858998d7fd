-- What comparing and storing come to, byte by byte, said of what is left.
use Rattle.std.specs.Prelude.{ℕ, suc, ◌+◌, ◌-◌, ◌≤◌, ◌<◌, ◌≡◌, Bool, not, ◌&&◌, ◌||◌, length, take, drop, set, get_or, replicate}
use Rattle.std.proofs.Math.Path.{refl}
use Rattle.std.proofs.Common.{◌⊎◌, inl, inr, sym, ◌∙◌, add-one, arith, drop_of_length-le, take_all, take-suc-set}
use mathlib.Core.List.{List, [], ◌∷◌, ◌++◌, append_assoc, append-nil}
use Rattle.std.proofs.Math.Bool.{true, false, cond}
use Rattle.std.proofs.Math.Nat.{sub-zero, suc-sub-suc}
use Rattle.std.proofs.lemmas.List.{drop-set-lt}
use Rattle.std.proofs.Math.Seq.{drop-cons}
use Rattle.std.proofs.Math.Dec.{eqb}
use borrow.Author.Tests.{eqb-true, eqb-false, ne_eqb}
use Rattle.memory.specs.Octets.{same}
use Rattle.passwords.specs.Passwords.{password_of, is_same, stored}

-- s says that the bytes before are the same, n that none of them is zero: so it is said of one byte more
pub same_more : (x y : ℕ) (a b : List ℕ) (s n : Bool)
    → s && cond n (is_same (x ∷ a) (y ∷ b)) true
    ≡ (s && (not n || eqb x y)) && cond (n && not (eqb x 0)) (is_same a b) true
unfolding password_of same
same_more x y a b false n = refl
same_more x y a b true false = refl
same_more x y a b true true = go (eqb x 0) refl (eqb y 0) refl
  where
    go : (u : Bool) → eqb x 0 ≡ u → (v : Bool) → eqb y 0 ≡ v
        → same (cond u [] (x ∷ password_of a)) (cond v [] (y ∷ password_of b)) ≡ eqb x y && cond (not u) (same (password_of a) (password_of b)) true
    go true e true f = rw (eqb-true x 0 e, eqb-true y 0 f)
    go true e false f = rw (ne_eqb x y (λ z. eqb-false y 0 f (sym z ∙ eqb-true x 0 e)))
    go false e true f = rw (ne_eqb x y (λ z. eqb-false x 0 e (z ∙ eqb-true y 0 f)))
    go false e false f = refl

pub same_end : (a b : List ℕ) → length a ≡ length b → (a ≡ []) ⊎ (b ≡ []) → (s n : Bool) → s && cond n (is_same a b) true ≡ s
unfolding password_of same
same_end [] [] e z false n = refl
same_end [] [] e z true false = refl
same_end [] [] e z true true = refl
same_end [] (y ∷ b) e z s n = absurd (omega arith)
same_end (x ∷ a) [] e z s n = absurd (omega arith)
same_end (x ∷ a) (y ∷ b) e (inl z) s n = cc
same_end (x ∷ a) (y ∷ b) e (inr z) s n = cc

-- what is stored behind the place i, where n says that no byte before it is zero: one byte more
pub kept_more : (l : List ℕ) (i : ℕ) (n : Bool) → i < length l
    → let k = n && not (eqb (get_or l i 0) 0) in
    let m = set l i (cond k (get_or l i 0) 0) in
    take i l ++ cond n (stored (drop i l)) (replicate (length (drop i l)) 0)
    ≡ take (i + 1) m ++ cond k (stored (drop (i + 1) m)) (replicate (length (drop (i + 1) m)) 0)
unfolding password_of
kept_more l i n p = rw (drop-set-lt (i + 1) l i (cond (n && not (eqb (get_or l i 0) 0)) (get_or l i 0) 0) (omega arith), add-one, drop-cons l i 0, take-suc-set l i (cond (n && not (eqb (get_or l i 0) 0)) (get_or l i 0) 0)) (go (get_or l i 0) (drop (suc i) l) n (eqb (get_or l i 0) 0))
  where
    front : List ℕ
    front = take i l

    go : (b : ℕ) (bs : List ℕ) (n z : Bool) → let k = n && not z in let w = cond z [] (b ∷ password_of bs) in
        front ++ cond n (w ++ replicate (suc (length bs) - length w) 0) (replicate (suc (length bs)) 0)
        ≡ (front ++ cond k b 0 ∷ []) ++ cond k (stored bs) (replicate (length bs) 0)
    go b bs false z = sym (append_assoc front (0 ∷ []) (replicate (length bs) 0))
    go b bs true true = rw (sub-zero (suc (length bs))) (sym (append_assoc front (0 ∷ []) (replicate (length bs) 0)))
    go b bs true false = rw (suc-sub-suc (length bs) (length (password_of bs))) (sym (append_assoc front (b ∷ []) (stored bs)))

pub kept_end : (l : List ℕ) (i : ℕ) (n : Bool) → length l ≤ i → take i l ++ cond n (stored (drop i l)) (replicate (length (drop i l)) 0) ≡ l
unfolding password_of
kept_end l i true p = rw (drop_of_length-le l p, take_all i l p) (append-nil l)
kept_end l i false p = rw (drop_of_length-le l p, take_all i l p) (append-nil l)
