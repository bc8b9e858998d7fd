-- What a password is, said by places; comparing and storing.
use Rattle.std.specs.Prelude.{ℕ, zero, suc, ◌+◌, ◌-◌, ◌≤◌, ◌<◌, ◌≡◌, Bool, not, ◌&&◌, ◌||◌, length, take, drop, set, get_or, replicate, ltb}
use Rattle.std.proofs.Math.Path.{refl}
use Rattle.std.proofs.Common.{sym, ap, ◌∙◌, add-one, arith, length-append, drop_of_length-le, take_all, take-suc-set, get_or-append-add}
use mathlib.Core.List.{List, [], ◌∷◌, ◌++◌, append_assoc, append-nil}
use Rattle.std.proofs.Math.Bool.{true, false, cond}
use Rattle.std.proofs.Math.Nat.{sub-zero, suc-sub-suc}
use Rattle.std.proofs.lemmas.List.{length-replicate}
use Rattle.std.proofs.Math.ListN.{get_or-append}
use Rattle.std.proofs.Math.Seq.{drop-cons}
use Rattle.std.proofs.Math.Dec.{eqb}
use borrow.Author.Tests.{eqb-true, eqb-false, eq-eqb, ne_eqb, ltb-true, ltb-false}
use Rattle.memory.specs.Octets.{same}
use Rattle.memory.specs.OctetsLaws.{same_equal, same_itself}
use Rattle.passwords.specs.Passwords.{password_of, is_same, stored}

-- ---- the bytes before the first zero, or all

-- where no byte before the place n is zero, and n is a zero's place or the end, it is the bytes before n
pub password_of-before : (bs : List ℕ) (n : ℕ) → n ≤ length bs → ((i : ℕ) → i < n → get_or bs i 0 ≡ 0 → ⊥) → get_or bs n 0 ≡ 0 → password_of bs ≡ take n bs
unfolding password_of
password_of-before [] zero h x e = refl
password_of-before [] (suc n) h x e = absurd (omega arith)
password_of-before (b ∷ bs) zero h x e = rw (eq-eqb b 0 e)
password_of-before (b ∷ bs) (suc n) h x e =
    rw (ne_eqb b 0 (x 0 (omega arith))) (ap (λ (l : List ℕ). b ∷ l) (password_of-before bs n (omega arith) (λ i y. x (suc i) (omega arith)) e))

-- there is such a place: no byte before it is zero, and behind the password stands a zero, or nothing
pub password_of_within : (bs : List ℕ) → length (password_of bs) ≤ length bs
unfolding password_of
password_of_within [] = omega arith
password_of_within (b ∷ bs) = go (eqb b 0) (password_of_within bs)
  where
    go : (z : Bool) → length (password_of bs) ≤ length bs → length (cond z [] (b ∷ password_of bs)) ≤ length (b ∷ bs)
    go true h = omega arith
    go false h = omega arith

pub password_of_no_zero : (bs : List ℕ) (i : ℕ) → i < length (password_of bs) → get_or bs i 0 ≡ 0 → ⊥
unfolding password_of
password_of_no_zero [] i h = absurd (omega arith)
password_of_no_zero (b ∷ bs) i h = go (eqb b 0) refl i (password_of_no_zero bs) h
  where
    go : (z : Bool) → eqb b 0 ≡ z → (i : ℕ) → ((j : ℕ) → j < length (password_of bs) → get_or bs j 0 ≡ 0 → ⊥)
        → i < length (cond z [] (b ∷ password_of bs)) → get_or (b ∷ bs) i 0 ≡ 0 → ⊥
    go true e i r h = absurd (omega arith)
    go false e zero r h = eqb-false b 0 e
    go false e (suc i) r h = r i (omega arith)

pub password_of_end : (bs : List ℕ) → get_or bs (length (password_of bs)) 0 ≡ 0
unfolding password_of
password_of_end [] = refl
password_of_end (b ∷ bs) = go (eqb b 0) refl (password_of_end bs)
  where
    go : (z : Bool) → eqb b 0 ≡ z → get_or bs (length (password_of bs)) 0 ≡ 0 → get_or (b ∷ bs) (length (cond z [] (b ∷ password_of bs))) 0 ≡ 0
    go true e r = eqb-true b 0 e
    go false e r = r

-- ---- compared

-- bytes are the same password exactly if those before the first zero are equal, all of them
pub is_same_equal : (a b : List ℕ) → password_of a ≡ password_of b → is_same a b ≡ true
is_same_equal a b e = rw e (same_itself (password_of b))

pub is_same-other : (a b : List ℕ) → (password_of a ≡ password_of b → ⊥) → is_same a b ≡ false
is_same-other a b x = go (is_same a b) refl
  where
    go : (t : Bool) → is_same a b ≡ t → t ≡ false
    go true e = absurd (x (same_equal (password_of a) (password_of b) e))
    go false e = refl

-- ---- as it is stored

-- zeros behind a password do not belong to it
password_of_zeros : (n : ℕ) → password_of (replicate n 0) ≡ []
unfolding password_of
password_of_zeros zero = refl
password_of_zeros (suc n) = refl

password_of_padded : (bs : List ℕ) (n : ℕ) → password_of (password_of bs ++ replicate n 0) ≡ password_of bs
unfolding password_of
password_of_padded [] n = password_of_zeros n
password_of_padded (b ∷ bs) n = go (eqb b 0) refl (password_of_padded bs n)
  where
    go : (z : Bool) → eqb b 0 ≡ z → password_of (password_of bs ++ replicate n 0) ≡ password_of bs
        → password_of (cond z [] (b ∷ password_of bs) ++ replicate n 0) ≡ cond z [] (b ∷ password_of bs)
    go true e r = password_of_zeros n
    go false e r = rw e (ap (λ (l : List ℕ). b ∷ l) r)

-- storing keeps the password, and the number of its bytes,
pub stored_password : (bs : List ℕ) → password_of (stored bs) ≡ password_of bs
stored_password bs = password_of_padded bs (length bs - length (password_of bs))

pub stored-length : (bs : List ℕ) → length (stored bs) ≡ length bs
stored-length bs =
    length-append (password_of bs) (replicate (length bs - length (password_of bs)) 0)
    ∙ ap (λ (k : ℕ). length (password_of bs) + k) (length-replicate (length bs - length (password_of bs)) 0)
    ∙ omega (arith, password_of_within bs)

-- and nothing of what stood behind it: the same password is stored as the same bytes, so once is enough
pub stored_same : (a b : List ℕ) → length a ≡ length b → password_of a ≡ password_of b → stored a ≡ stored b
stored_same a b n e = rw (n, e)

pub stored_again : (bs : List ℕ) → stored (stored bs) ≡ stored bs
stored_again bs = stored_same (stored bs) bs (stored-length bs) (stored_password bs)

-- by places: what stands before the first zero stays, and from a zero on there are zeros
password_of_front : (bs : List ℕ) (i : ℕ) → i < length (password_of bs) → get_or (password_of bs) i 0 ≡ get_or bs i 0
unfolding password_of
password_of_front [] i h = refl
password_of_front (b ∷ bs) i h = go (eqb b 0) i (password_of_front bs) h
  where
    go : (z : Bool) (i : ℕ) → ((j : ℕ) → j < length (password_of bs) → get_or (password_of bs) j 0 ≡ get_or bs j 0)
        → i < length (cond z [] (b ∷ password_of bs)) → get_or (cond z [] (b ∷ password_of bs)) i 0 ≡ get_or (b ∷ bs) i 0
    go true i r h = absurd (omega arith)
    go false zero r h = refl
    go false (suc i) r h = r i (omega arith)

pub stored-before : (bs : List ℕ) (i : ℕ) → i < length (password_of bs) → get_or (stored bs) i 0 ≡ get_or bs i 0
stored-before bs i h = get_or-append (password_of bs) (replicate (length bs - length (password_of bs)) 0) 0 i h ∙ password_of_front bs i h

zeros_zero : (n i : ℕ) → ◌≡◌ {A = ℕ} (get_or (replicate n 0) i 0) 0
zeros_zero zero i = refl
zeros_zero (suc n) zero = refl
zeros_zero (suc n) (suc i) = zeros_zero n i

pub stored_zeros : (bs : List ℕ) (n i : ℕ) → get_or bs n 0 ≡ 0 → n ≤ i → get_or (stored bs) i 0 ≡ 0
stored_zeros bs n i e h = go (ltb n (length (password_of bs))) refl
  where
    go : (t : Bool) → ltb n (length (password_of bs)) ≡ t → get_or (stored bs) i 0 ≡ 0
    go true x = absurd (password_of_no_zero bs n (ltb-true n (length (password_of bs)) x) e)
    go false x =
        let a : length (password_of bs) ≤ n = ltb-false n (length (password_of bs)) x in
        let b : i ≡ length (password_of bs) + (i - length (password_of bs)) = omega arith in
        ap (λ (j : ℕ). get_or (stored bs) j 0) b ∙ get_or-append-add (password_of bs) (replicate (length bs - length (password_of bs)) 0) (i - length (password_of bs)) 0 ∙ zeros_zero (length bs - length (password_of bs)) (i - length (password_of bs))

-- ---- byte by byte, from a place on

module _ (a b : List ℕ) (i : ℕ) (p : i < length a) (q : i < length b) where
  is_same-step : is_same (drop i a) (drop i b) ≡ eqb (get_or a i 0) (get_or b i 0) && cond (not (eqb (get_or a i 0) 0)) (is_same (drop (i + 1) a) (drop (i + 1) b)) true
  unfolding password_of same
  is_same-step = rw (add-one, drop-cons a i 0, drop-cons b i 0) (go (get_or a i 0) (get_or b i 0) (drop (suc i) a) (drop (suc i) b) (eqb (get_or a i 0) 0) refl (eqb (get_or b i 0) 0) refl)
    where
      go : (x y : ℕ) (l m : List ℕ) (u : Bool) → eqb x 0 ≡ u → (v : Bool) → eqb y 0 ≡ v
          → same (cond u [] (x ∷ password_of l)) (cond v [] (y ∷ password_of m)) ≡ eqb x y && cond (not u) (same (password_of l) (password_of m)) true
      go x y l m true e true f = rw (eqb-true x 0 e, eqb-true y 0 f)
      go x y l m true e false f = rw (ne_eqb x y (λ z. eqb-false y 0 f (sym z ∙ eqb-true x 0 e)))
      go x y l m false e true f = rw (ne_eqb x y (λ z. eqb-false x 0 e (z ∙ eqb-true y 0 f)))
      go x y l m false e false f = refl

  -- s says that the bytes before i are the same, n that none of them is zero: so it is said of one byte more
  pub is_same_more : (s n : Bool)
      → s && cond n (is_same (drop i a) (drop i b)) true
      ≡ (s && (not n || eqb (get_or a i 0) (get_or b i 0))) && cond (n && not (eqb (get_or a i 0) 0)) (is_same (drop (i + 1) a) (drop (i + 1) b)) true
  is_same_more false n = refl
  is_same_more true false = refl
  is_same_more true true = is_same-step

pub is_same_end : (a b : List ℕ) (i : ℕ) → length a ≤ i → length b ≤ i → (s n : Bool) → s && cond n (is_same (drop i a) (drop i b)) true ≡ s
unfolding password_of same
is_same_end a b i p q false n = refl
is_same_end a b i p q true false = refl
is_same_end a b i p q true true = rw (drop_of_length-le a p, drop_of_length-le b q)

-- what is stored behind the place i, where n says that no byte before it is zero: one byte more
pub stored_more : (from to : List ℕ) (i : ℕ) (n : Bool) → i < length from → i < length to
    → let k = n && not (eqb (get_or from i 0) 0) in
    take i to ++ cond n (stored (drop i from)) (replicate (length (drop i from)) 0)
    ≡ take (i + 1) (set to i (cond k (get_or from i 0) 0)) ++ cond k (stored (drop (i + 1) from)) (replicate (length (drop (i + 1) from)) 0)
unfolding password_of
stored_more from to i n p q = rw (add-one, drop-cons from i 0, take-suc-set to i (cond (n && not (eqb (get_or from i 0) 0)) (get_or from i 0) 0)) (go (get_or from i 0) (drop (suc i) from) n (eqb (get_or from i 0) 0))
  where
    l : List ℕ
    l = take i to

    go : (b : ℕ) (bs : List ℕ) (n z : Bool) → let k = n && not z in let w = cond z [] (b ∷ password_of bs) in
        l ++ cond n (w ++ replicate (suc (length bs) - length w) 0) (replicate (suc (length bs)) 0)
        ≡ (l ++ cond k b 0 ∷ []) ++ cond k (stored bs) (replicate (length bs) 0)
    go b bs false z = sym (append_assoc l (0 ∷ []) (replicate (length bs) 0))
    go b bs true true = rw (sub-zero (suc (length bs))) (sym (append_assoc l (0 ∷ []) (replicate (length bs) 0)))
    go b bs true false = rw (suc-sub-suc (length bs) (length (password_of bs))) (sym (append_assoc l (b ∷ []) (stored bs)))

pub stored_end : (from to : List ℕ) (i : ℕ) (n : Bool) → length from ≤ i → length to ≤ i
    → take i to ++ cond n (stored (drop i from)) (replicate (length (drop i from)) 0) ≡ to
unfolding password_of
stored_end from to i true p q = rw (drop_of_length-le from p, take_all i to q) (append-nil to)
stored_end from to i false p q = rw (drop_of_length-le from p, take_all i to q) (append-nil to)
